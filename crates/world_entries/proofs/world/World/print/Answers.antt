use Rattle.world_entries.proofs.Performing.{print_made}
use Rattle.world_entries.proofs.world.World.print.Goals as goal

pub returns : goal.returns
returns c = print_made c.args.self.now c.args.t c.requires.goes c.answer.new.self c.args.n c.requires.stands c.answer.ensures.list c.answer.ensures.flight
