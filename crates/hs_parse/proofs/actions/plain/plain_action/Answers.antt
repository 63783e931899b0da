use Rattle.std.proofs.Common.{rules}
use Rattle.hs_grammar.specs.Parser.{firsts, may_be_empty, read_then}
use Rattle.rules_grammar.specs.Grammar.{plain_action, error_line, throw_form, new_empty_form}
use Rattle.parse_leaves.proofs.Steps.{steps}
use Rattle.hs_parse.proofs.actions.plain.plain_action.Goals as goal

pub returns-then-at_bare_action-clause-reads : goal.returns-then-at_bare_action-clause-reads
unfolding firsts may_be_empty read_then plain_action error_line throw_form new_empty_form
returns-then-at_bare_action-clause-reads c = search (rules, steps)

pub returns-then-at_unary_action-clause-reads : goal.returns-then-at_unary_action-clause-reads
unfolding firsts may_be_empty read_then plain_action error_line throw_form new_empty_form
returns-then-at_unary_action-clause-reads c = search (rules, steps)

pub returns-then-at_binary_action-clause-reads : goal.returns-then-at_binary_action-clause-reads
unfolding firsts may_be_empty read_then plain_action error_line throw_form new_empty_form
returns-then-at_binary_action-clause-reads c = search (rules, steps)

pub returns-then-at_word-clause-reads : goal.returns-then-at_word-clause-reads
unfolding firsts may_be_empty read_then plain_action error_line throw_form new_empty_form
returns-then-at_word-clause-reads c = search (rules, steps)

pub returns-then-at_word-2-clause-reads : goal.returns-then-at_word-2-clause-reads
unfolding firsts may_be_empty read_then plain_action error_line throw_form new_empty_form
returns-then-at_word-2-clause-reads c = search (rules, steps)

pub returns-clause-reads : goal.returns-clause-reads
unfolding firsts may_be_empty read_then plain_action error_line throw_form new_empty_form
returns-clause-reads c = search (rules, steps)
