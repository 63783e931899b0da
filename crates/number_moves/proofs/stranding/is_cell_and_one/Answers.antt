use Rattle.std.proofs.Common.{◌∙◌}
use Rattle.number_moves.proofs.Strands.{puts_two, puts_none}
use Rattle.number_moves.proofs.stranding.is_cell_and_one.Goals as goal

-- src/stranding.rt
pub returns : goal.returns
returns c = c.begins_with_cell.ensures ∙ puts_two c.args.values.now c.if-values-ne2.false

pub returns-then-values-ne2 : goal.returns-then-values-ne2
returns-then-values-ne2 c = puts_none c.args.values.now c.if-values-ne2.true
