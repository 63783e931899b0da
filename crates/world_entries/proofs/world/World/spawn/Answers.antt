use Rattle.world_entries.proofs.Forking.{still_at_op}
use Rattle.world_entries.proofs.world.World.spawn.Goals as goal

pub answer-requires-clause-there : goal.answer-requires-clause-there
answer-requires-clause-there c = still_at_op c.args.self.now.threads.list.items c.args.t c.args.stack c.spawn-child.new.self.list.items c.spawn-child.ensures.list c.requires.there
