use Rattle.std.proofs.Common.{rules}
use Rattle.parse_leaves.proofs.Steps.{steps}
use Rattle.parse_leaves.proofs.cursor.Cursor.name_pair.Goals as goal

pub returns-in_err-open_symbol-clause-reads : goal.returns-in_err-open_symbol-clause-reads
returns-in_err-open_symbol-clause-reads c = search (rules, steps)

pub returns-clause-reads : goal.returns-clause-reads
returns-clause-reads c = search (rules, steps)
