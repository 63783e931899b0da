use Rattle.conc_hands.proofs.queues_lemmas.Keeps.{may_come}
use Rattle.conc_hands.proofs.queues.deque.Door.spent_pass.Goals as goal

pub pass-requires : goal.pass-requires
pass-requires g c = may_come g.J.Ticketed.number g.J.Ticketed.belongs
