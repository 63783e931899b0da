use Rattle.world_entries.proofs.Performing.{release_made}
use Rattle.world_entries.proofs.world.World.release.Goals as goal

pub returns : goal.returns
returns c = release_made c.args.self.now c.args.t c.requires.goes c.answer.new.self c.args.i c.requires.stands c.answer.ensures.list c.answer.ensures.flight
