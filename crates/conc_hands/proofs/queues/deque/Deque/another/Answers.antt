use Rattle.conc_hands.proofs.queues_lemmas.Keeps.{may_split}
use Rattle.conc_hands.proofs.queues.deque.Deque.another.Goals as goal

pub another-requires : goal.another-requires
another-requires g c = may_split g.J.Ticketed.number g.J.Ticketed.belongs _ _ c.requires
