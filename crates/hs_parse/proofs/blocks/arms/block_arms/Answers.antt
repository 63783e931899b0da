use Rattle.std.proofs.Common.{rules}
use Rattle.parse_leaves.proofs.Steps.{steps}
use Rattle.hs_parse.proofs.blocks.arms.block_arms.Goals as goal

pub returns-in_err-open_symbol-clause-reads : goal.returns-in_err-open_symbol-clause-reads
returns-in_err-open_symbol-clause-reads b c = search (rules, steps)

pub returns-clause-reads : goal.returns-clause-reads
returns-clause-reads b c = search (rules, steps)
