use Rattle.world_entries.proofs.Entered.{tick_makes}
use Rattle.world_entries.proofs.world.World.tick.Goals as goal

pub returns : goal.returns
returns c = tick_makes c.args.self.now c.args.at c.requires.goes c.requires.later
