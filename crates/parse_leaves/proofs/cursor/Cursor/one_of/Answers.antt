use Rattle.std.proofs.Common.{rules}
use Rattle.parse_leaves.proofs.Rows.{one_ok, one_err}
use Rattle.parse_leaves.proofs.cursor.Cursor.one_of.Goals as goal

pub returns-in_err-pos-clause-reads : goal.returns-in_err-pos-clause-reads
returns-in_err-pos-clause-reads g c = search (rules, one_err)

pub returns-clause-reads : goal.returns-clause-reads
returns-clause-reads g c = search (rules, one_ok)
