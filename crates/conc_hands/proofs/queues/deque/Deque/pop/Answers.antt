use Rattle.conc_hands.proofs.queues_lemmas.Keeps.{may_take, one_taken, none_alone}
use Rattle.conc_hands.proofs.queues.deque.Deque.pop.Goals as goal

pub pop_as-requires-clause-fifo : goal.pop_as-requires-clause-fifo
pop_as-requires-clause-fifo g c = let h = c.args.self.now.shared in λ _. may_take g.J.Ticketed.number g.J.Ticketed.belongs _ _ h

pub returns-clause-job : goal.returns-clause-job
returns-clause-job g c = one_taken g.J.Ticketed.number g.J.Ticketed.belongs c.pop_as.result _ _ c.pop_as.ensures.rule

pub returns-clause-alone : goal.returns-clause-alone
returns-clause-alone g c = none_alone g.J.Ticketed.number g.J.Ticketed.belongs c.pop_as.result _ _ c.pop_as.ensures.rule
