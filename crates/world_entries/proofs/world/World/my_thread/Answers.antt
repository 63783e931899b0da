use Rattle.world_entries.proofs.Performing.{thread_made}
use Rattle.world_entries.proofs.world.World.my_thread.Goals as goal

pub returns : goal.returns
returns c = thread_made c.args.self.now c.args.t c.requires.goes c.answer.new.self c.requires.stands c.answer.ensures.list c.answer.ensures.flight
