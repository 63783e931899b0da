use Rattle.world_entries.proofs.Performing.{timeout_made}
use Rattle.world_entries.proofs.world.World.new_timeout.Goals as goal

pub returns : goal.returns
returns c = timeout_made c.args.self.now c.args.t c.requires.goes c.answer.new.self c.requires.stands c.answer.ensures.list c.answer.ensures.flight
