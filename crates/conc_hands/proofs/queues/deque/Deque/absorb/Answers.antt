use Rattle.conc_hands.proofs.queues_lemmas.Keeps.{may_join}
use Rattle.conc_hands.proofs.queues.deque.Deque.absorb.Goals as goal

pub absorb-requires-clause-rule : goal.absorb-requires-clause-rule
absorb-requires-clause-rule g c = may_join g.J.Ticketed.number g.J.Ticketed.belongs _ _ _ _ c.args.self.now.shared
