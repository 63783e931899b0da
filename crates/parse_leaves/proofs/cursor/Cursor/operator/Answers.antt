use Rattle.std.proofs.Common.{rules}
use Rattle.parse_leaves.proofs.Steps.{take_ok, take_err, reads_done}
use Rattle.parse_leaves.proofs.cursor.Cursor.operator.Goals as goal

pub returns-in_err-pos-clause-reads : goal.returns-in_err-pos-clause-reads
returns-in_err-pos-clause-reads c = search (rules, take_ok, take_err, reads_done)

pub returns-clause-reads : goal.returns-clause-reads
returns-clause-reads c = search (rules, take_ok, take_err, reads_done)
