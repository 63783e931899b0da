use Rattle.std.proofs.Common.{rules}
use Rattle.rules_grammar.specs.Grammar.{param}
use Rattle.parse_leaves.proofs.Steps.{steps}
use Rattle.parse_leaves.proofs.cursor.Cursor.param.Goals as goal

pub returns-in_err-open_symbol-clause-reads : goal.returns-in_err-open_symbol-clause-reads
unfolding param
returns-in_err-open_symbol-clause-reads c = search (rules, steps)

pub returns-clause-reads : goal.returns-clause-reads
unfolding param
returns-clause-reads c = search (rules, steps)
