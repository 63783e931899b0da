use Rattle.std.proofs.Common.{rules}
use Rattle.hs_grammar.specs.Parser.{firsts, may_be_empty, read_then}
use Rattle.rules_grammar.specs.Grammar.{cons_operator}
use Rattle.parse_leaves.proofs.Steps.{choose_yes, choose_no}
use Rattle.parse_leaves.proofs.cursor.Cursor.cons_operator.Goals as goal

pub returns-then-at_symbol-clause-reads : goal.returns-then-at_symbol-clause-reads
unfolding firsts may_be_empty read_then cons_operator
returns-then-at_symbol-clause-reads c = search (rules, choose_yes, choose_no)

pub returns-clause-reads : goal.returns-clause-reads
unfolding firsts may_be_empty read_then cons_operator
returns-clause-reads c = search (rules, choose_yes, choose_no)
