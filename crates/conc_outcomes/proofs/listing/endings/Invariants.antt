use Rattle.conc_outcomes.proofs.Listed.{AreThere}
use Rattle.conc_outcomes.proofs.listing.endings.Given as goal

abbrev pub invariant-loop-state : goal.invariant-loop-state
invariant-loop-state l = AreThere l.found l.state l.endings
