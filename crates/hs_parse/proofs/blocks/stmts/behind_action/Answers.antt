use Rattle.std.proofs.Common.{rules}
use Rattle.parse_leaves.proofs.Steps.{steps}
use Rattle.hs_parse.proofs.blocks.stmts.behind_action.Goals as goal

pub returns-then-at_symbol-clause-reads : goal.returns-then-at_symbol-clause-reads
returns-then-at_symbol-clause-reads c = search (rules, steps)

pub returns-in_err-symbol-2-clause-reads : goal.returns-in_err-symbol-2-clause-reads
returns-in_err-symbol-2-clause-reads c = search (rules, steps)

pub returns-then-at_symbol-2-clause-reads : goal.returns-then-at_symbol-2-clause-reads
returns-then-at_symbol-2-clause-reads c = search (rules, steps)

pub returns-clause-reads : goal.returns-clause-reads
returns-clause-reads c = search (rules, steps)
