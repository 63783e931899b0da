use Rattle.thread_table.proofs.Counts.{going_found}
use Rattle.thread_table.proofs.threads.Threads.some_goes.Goals as goal

pub returns : goal.returns
returns c = going_found c.args.self.now.list.items c.args.self.now.going c.args.self.now.gone
