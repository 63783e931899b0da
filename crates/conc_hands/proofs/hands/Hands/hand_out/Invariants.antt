use Rattle.std.proofs.Common.{◌≡◌, ◌+◌, ◌-◌, ◌<◌, [], length, Some}
use Rattle.conc_hands.specs.queues.QueueRule.{view_with}
use Rattle.conc_hands.specs.queues.Inboxes.{IsInboxPass, inbox_view}
use Rattle.conc_hands.specs.flags.FlagsRule.{pen_view}
use Rattle.conc_hands.specs.flags.Pens.{IsPenOf, view_of}
use Rattle.conc_hands.specs.Dealing.{AreRows, AreDeques, AreFresh}
use Rattle.conc_hands.specs.Hands.{hands_code}
use Rattle.conc_hands.proofs.hands.Hands.hand_out.Given as goal

abbrev pub invariant-loop-number : goal.invariant-loop-number
invariant-loop-number g l = let code = hands_code l.self in let doors = l.self.doors.items in
    (l.number < l.caps) × (length l.hands.items ≡ l.number) × AreFresh l.self l.hands.items
    × (length l.deques.items + l.number ≡ l.caps) × AreDeques doors code l.caps l.number l.deques.items
    × (length l.rows.items + l.number ≡ l.caps) × AreRows doors code l.caps l.number l.rows.items
    × IsInboxPass l.self.inbox l.post × (inbox_view l.post ≡ view_with (Some code) (16 - l.number) [] [])
    × IsPenOf l.self.flags l.pen × (view_of l.pen ≡ pen_view (l.caps - l.number) [] [])

abbrev pub decreases-loop-number : goal.decreases-loop-number
decreases-loop-number g l = l.caps - l.number
