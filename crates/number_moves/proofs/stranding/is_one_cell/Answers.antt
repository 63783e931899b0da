use Rattle.std.proofs.Common.{◌∙◌}
use Rattle.number_moves.proofs.Strands.{takes_one, reads_one, takes_none, reads_none}
use Rattle.number_moves.proofs.stranding.is_one_cell.Goals as goal

-- src/stranding.rt
pub returns-clause-take : goal.returns-clause-take
returns-clause-take c = c.begins_with_cell.ensures ∙ takes_one c.args.values.now c.if-values-ne1.false

pub returns-clause-read : goal.returns-clause-read
returns-clause-read c = c.begins_with_cell.ensures ∙ reads_one c.args.values.now c.if-values-ne1.false

pub returns-then-values-ne1-clause-take : goal.returns-then-values-ne1-clause-take
returns-then-values-ne1-clause-take c = takes_none c.args.values.now c.if-values-ne1.true

pub returns-then-values-ne1-clause-read : goal.returns-then-values-ne1-clause-read
returns-then-values-ne1-clause-read c = reads_none c.args.values.now c.if-values-ne1.true
