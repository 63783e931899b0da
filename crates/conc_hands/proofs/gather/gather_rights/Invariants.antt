use Rattle.std.proofs.Common.{◌≡◌, ◌-◌, ◌<◌, ◌≤◌, length, take, drop}
use Rattle.conc_hands.specs.queues.Inboxes.{IsInboxPass, inbox_view}
use Rattle.conc_hands.specs.flags.FlagsRule.{pen_view}
use Rattle.conc_hands.specs.flags.Pens.{IsPenOf, view_of}
use Rattle.conc_hands.specs.Gathering.{ends_in, shares_over}
use Rattle.conc_hands.specs.Lists.{all_raised, all_read, all_handed_in, all_collected}
use Rattle.conc_hands.proofs.gather.gather_rights.Given as goal

abbrev pub invariant-loop-at : goal.invariant-loop-at
invariant-loop-at g l = let old = l.fn.hands.items in let v = inbox_view l.post in
    (0 < l.at) × (l.at ≤ length l.hands.items) × (length l.hands.items ≡ length old) × (ends_in l.hands.items ≡ ends_in old) × (drop l.at l.hands.items ≡ drop l.at old)
    × IsInboxPass l.inbox l.post × (0 < v.shares) × (v.shares ≡ shares_over (take l.at old)) × (v.put ≡ all_handed_in (take l.at old)) × (v.taken ≡ all_collected (take l.at old))
    × IsPenOf l.flags l.pen × (view_of l.pen ≡ pen_view l.at (all_raised (take l.at old)) (all_read (take l.at old)))

abbrev pub decreases-loop-at : goal.decreases-loop-at
decreases-loop-at g l = length l.hands.items - l.at
