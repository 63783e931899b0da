use Rattle.std.proofs.Common.{◌≡◌}
use Rattle.conc_hands.specs.Hands.{IsHandOf, number_of}
use Rattle.threads_tests.proofs.several.push_all.Given as goal

abbrev pub invariant-loop-i : goal.invariant-loop-i
invariant-loop-i l = IsHandOf l.hands l.hand × (number_of l.hand ≡ number_of l.initial.hand)
