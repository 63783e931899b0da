use Rattle.std.proofs.Common.{rules}
use Rattle.parse_leaves.proofs.Steps.{steps}
use Rattle.hs_parse.proofs.blocks.stmts.let_stmt.Goals as goal

pub returns-in_err-open_word-clause-reads : goal.returns-in_err-open_word-clause-reads
returns-in_err-open_word-clause-reads c = search (rules, steps)

pub returns-clause-reads : goal.returns-clause-reads
returns-clause-reads c = search (rules, steps)
