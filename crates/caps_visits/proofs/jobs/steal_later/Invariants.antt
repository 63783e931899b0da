use Rattle.conc_hands.specs.Hands.{IsHandOf}
use Rattle.caps_visits.proofs.jobs.steal_later.Given as goal

abbrev pub invariant-loop-2 : goal.invariant-loop-2
invariant-loop-2 g l = IsHandOf l.shared.hands.now l.hand

abbrev pub invariant-loop : goal.invariant-loop
invariant-loop g l = IsHandOf l.shared.hands.now l.hand
