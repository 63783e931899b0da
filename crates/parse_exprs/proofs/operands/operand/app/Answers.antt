use Rattle.std.proofs.Common.{rules}
use Rattle.hs_grammar.specs.Parser.{firsts, may_be_empty, read_then}
use Rattle.rules_grammar.specs.Grammar.{app, call, list_form, list_or_empty, nothing_form, div_form, mod_form}
use Rattle.parse_leaves.proofs.Steps.{steps}
use Rattle.parse_exprs.proofs.operands.operand.app.Goals as goal

pub returns-then-at_name-clause-reads : goal.returns-then-at_name-clause-reads
unfolding firsts may_be_empty read_then app call list_form list_or_empty nothing_form div_form mod_form
returns-then-at_name-clause-reads b c = search (rules, steps)

pub returns-then-at_unary_expr-clause-reads : goal.returns-then-at_unary_expr-clause-reads
unfolding firsts may_be_empty read_then app call list_form list_or_empty nothing_form div_form mod_form
returns-then-at_unary_expr-clause-reads b c = search (rules, steps)

pub returns-then-at_side_expr-clause-reads : goal.returns-then-at_side_expr-clause-reads
unfolding firsts may_be_empty read_then app call list_form list_or_empty nothing_form div_form mod_form
returns-then-at_side_expr-clause-reads b c = search (rules, steps)

pub returns-then-at_symbol-clause-reads : goal.returns-then-at_symbol-clause-reads
unfolding firsts may_be_empty read_then app call list_form list_or_empty nothing_form div_form mod_form
returns-then-at_symbol-clause-reads b c = search (rules, steps)

pub returns-then-at_word-clause-reads : goal.returns-then-at_word-clause-reads
unfolding firsts may_be_empty read_then app call list_form list_or_empty nothing_form div_form mod_form
returns-then-at_word-clause-reads b c = search (rules, steps)

pub returns-then-at_word-2-clause-reads : goal.returns-then-at_word-2-clause-reads
unfolding firsts may_be_empty read_then app call list_form list_or_empty nothing_form div_form mod_form
returns-then-at_word-2-clause-reads b c = search (rules, steps)

pub returns-then-at_word-3-clause-reads : goal.returns-then-at_word-3-clause-reads
unfolding firsts may_be_empty read_then app call list_form list_or_empty nothing_form div_form mod_form
returns-then-at_word-3-clause-reads b c = search (rules, steps)

pub returns-clause-reads : goal.returns-clause-reads
unfolding firsts may_be_empty read_then app call list_form list_or_empty nothing_form div_form mod_form
returns-clause-reads b c = search (rules, steps)
