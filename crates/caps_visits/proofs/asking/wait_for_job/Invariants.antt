use Rattle.conc_hands.specs.Hands.{IsHandOf}
use Rattle.caps_visits.proofs.asking.wait_for_job.Given as goal

abbrev pub invariant-loop-look : goal.invariant-loop-look
invariant-loop-look g l = IsHandOf l.shared.hands.now l.hand
