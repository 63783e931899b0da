use Rattle.std.proofs.Common.{rules, ◌≡◌, slice_get, Some}
use Rattle.conc_hands.specs.Lists.{hands_in}
use Rattle.threads_tests.proofs.rows.one_hand_cuts.Goals as goal

pub raised-first-requires : goal.raised-first-requires
raised-first-requires c = let first : slice_get (hands_in c.in_ok-hands.list) 0 ≡ Some c.unwrap-hand.result = search rules in (c.in_ok-hands.ensures.list.1 0 c.unwrap-hand.result first).0
