use Rattle.std.proofs.Common.{◌≡◌}
use Rattle.conc_hands.specs.Hands.{IsHandOf, number_of}
use Rattle.caps_visits.proofs.jobs.steal_among.Given as goal

abbrev pub invariant-loop-from : goal.invariant-loop-from
invariant-loop-from g l = IsHandOf l.hands l.hand × (number_of l.hand ≡ number_of l.initial.hand)
