use Rattle.std.proofs.Common.{rules}
use Rattle.parse_leaves.proofs.Steps.{steps}
use Rattle.parse_leaves.proofs.cursor.Cursor.constant.Goals as goal

pub returns-in_err-word-clause-reads : goal.returns-in_err-word-clause-reads
returns-in_err-word-clause-reads c = search (rules, steps)

pub returns-clause-reads : goal.returns-clause-reads
returns-clause-reads c = search (rules, steps)
