use Rattle.hs_progress.specs.TypedStates.{Stays}
use Rattle.slot_laws.proofs.Stacking.{still_stands, answered_stands}
use Rattle.slot_laws.proofs.stacks.stacks_follow.Goals as goal

pub returns-clause-still : goal.returns-clause-still
returns-clause-still c ds old e s f = still_stands ds old (Stays e) s f

pub returns-clause-answered : goal.returns-clause-answered
returns-clause-answered c ds old e s f = answered_stands ds old (Stays e) s f
