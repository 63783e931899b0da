use Rattle.std.proofs.Common.{rules}
use Rattle.hs_grammar.specs.Parser.{firsts, may_be_empty, read_then}
use Rattle.rules_grammar.specs.Grammar.{side_types}
use Rattle.parse_leaves.proofs.Steps.{steps}
use Rattle.parse_leaves.proofs.cursor.Cursor.side_types.Goals as goal

pub returns-in_err-word-clause-reads : goal.returns-in_err-word-clause-reads
unfolding firsts may_be_empty read_then side_types
returns-in_err-word-clause-reads c = search (rules, steps)

pub returns-in_err-symbol-clause-reads : goal.returns-in_err-symbol-clause-reads
unfolding firsts may_be_empty read_then side_types
returns-in_err-symbol-clause-reads c = search (rules, steps)

pub returns-in_err-left-clause-reads : goal.returns-in_err-left-clause-reads
unfolding firsts may_be_empty read_then side_types
returns-in_err-left-clause-reads c = search (rules, steps)

pub returns-in_err-symbol-2-clause-reads : goal.returns-in_err-symbol-2-clause-reads
unfolding firsts may_be_empty read_then side_types
returns-in_err-symbol-2-clause-reads c = search (rules, steps)

pub returns-in_err-right-clause-reads : goal.returns-in_err-right-clause-reads
unfolding firsts may_be_empty read_then side_types
returns-in_err-right-clause-reads c = search (rules, steps)

pub returns-clause-reads : goal.returns-clause-reads
unfolding firsts may_be_empty read_then side_types
returns-clause-reads c = search (rules, steps)
