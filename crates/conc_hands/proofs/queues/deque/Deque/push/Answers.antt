use Rattle.conc_hands.proofs.queues_lemmas.Keeps.{may_put}
use Rattle.conc_hands.proofs.queues.deque.Deque.push.Goals as goal

pub push_as-pushed-requires-clause-pushes : goal.push_as-pushed-requires-clause-pushes
push_as-pushed-requires-clause-pushes g c = may_put g.J.Ticketed.number g.J.Ticketed.belongs _ _ _ c.args.self.now.shared c.requires
