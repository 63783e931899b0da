use Rattle.world_entries.proofs.Performing.{clock_made}
use Rattle.world_entries.proofs.world.World.clock.Goals as goal

pub returns : goal.returns
returns c = clock_made c.args.self.now c.args.t c.requires.goes c.answer.new.self c.requires.stands c.min-now.result c.min-now.ensures c.answer.ensures.list c.answer.ensures.flight
