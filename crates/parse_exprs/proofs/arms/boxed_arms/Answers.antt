use Rattle.std.proofs.Common.{rules}
use Rattle.parse_leaves.proofs.Steps.{steps}
use Rattle.parse_exprs.proofs.arms.boxed_arms.Goals as goal

pub returns-in_err-arms-clause-reads : goal.returns-in_err-arms-clause-reads
returns-in_err-arms-clause-reads b c = search (rules, steps)

pub returns-clause-reads : goal.returns-clause-reads
returns-clause-reads b c = search (rules, steps)
