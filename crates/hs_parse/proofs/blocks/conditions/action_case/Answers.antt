use Rattle.std.proofs.Common.{rules}
use Rattle.parse_leaves.proofs.Steps.{steps}
use Rattle.hs_parse.proofs.blocks.conditions.action_case.Goals as goal

pub returns-in_err-pos-clause-reads : goal.returns-in_err-pos-clause-reads
returns-in_err-pos-clause-reads b c = search (rules, steps)

pub returns-in_err-parts-clause-reads : goal.returns-in_err-parts-clause-reads
returns-in_err-parts-clause-reads b c = search (rules, steps)

pub returns-clause-reads : goal.returns-clause-reads
returns-clause-reads b c = search (rules, steps)
