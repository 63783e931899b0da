use Rattle.world_entries.proofs.CellEntries.{fresh_empty_makes}
use Rattle.world_entries.proofs.world.World.fresh_empty.Goals as goal

pub returns : goal.returns
returns c =
    fresh_empty_makes c.args.self.now c.answer.new.self c.fresh-cell.new.self c.args.t c.fresh-cell.result c.fresh-cell.ensures.number c.answer.ensures.list c.answer.ensures.flight c.requires.goes c.fresh-cell.ensures.cells c.requires.stands
