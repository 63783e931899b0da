use Rattle.thread_table.proofs.Queues.{listed_thrown}
use Rattle.thread_table.proofs.threads.Threads.throw_at.Goals as goal

pub invariant_of-self : goal.invariant_of-self
invariant_of-self c = record {
  listed = listed_thrown _ _ _ _ _ (record { thrower = c.args.thrower; target = c.args.target; exn = c.args.e }) c.throw_at.ensures.list c.push_back_reserved.ensures.items c.args.self.now.listed;
  queued = c.args.self.now.queued;
  kept = c.args.self.now.kept;
  framed = c.args.self.now.framed;
  gone = c.args.self.now.gone;
}
