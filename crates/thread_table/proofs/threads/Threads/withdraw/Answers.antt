use Rattle.thread_table.proofs.Queues.{listed_withdrawn}
use Rattle.thread_table.proofs.threads.Threads.withdraw.Goals as goal

pub invariant_of-self : goal.invariant_of-self
invariant_of-self c = record { listed = listed_withdrawn _ _ _ _ c.args.thrower c.withdraw.ensures.list c.args.self.now.listed; queued = c.args.self.now.queued; kept = c.args.self.now.kept; framed = c.args.self.now.framed; gone = c.args.self.now.gone }
