use Rattle.std.proofs.Common.{rules}
use Rattle.hs_grammar.specs.Parser.{firsts, may_be_empty, read_then}
use Rattle.rules_grammar.specs.Grammar.{word_action, modify_form, restore_form, catch_form, bracket_form, timeout_form, with_async_form}
use Rattle.parse_leaves.proofs.Steps.{choose_yes, choose_no}
use Rattle.hs_parse.proofs.actions.forms.word_action.Goals as goal

pub returns-then-at_scoped_action-clause-reads : goal.returns-then-at_scoped_action-clause-reads
unfolding firsts may_be_empty read_then word_action modify_form restore_form catch_form bracket_form timeout_form with_async_form
returns-then-at_scoped_action-clause-reads b c = search (rules, choose_yes, choose_no) depth 14 fits 4000

pub returns-then-at_masking_action-clause-reads : goal.returns-then-at_masking_action-clause-reads
unfolding firsts may_be_empty read_then word_action modify_form restore_form catch_form bracket_form timeout_form with_async_form
returns-then-at_masking_action-clause-reads b c = search (rules, choose_yes, choose_no) depth 14 fits 4000

pub returns-then-at_guard_action-clause-reads : goal.returns-then-at_guard_action-clause-reads
unfolding firsts may_be_empty read_then word_action modify_form restore_form catch_form bracket_form timeout_form with_async_form
returns-then-at_guard_action-clause-reads b c = search (rules, choose_yes, choose_no) depth 14 fits 4000

pub returns-then-at_word-clause-reads : goal.returns-then-at_word-clause-reads
unfolding firsts may_be_empty read_then word_action modify_form restore_form catch_form bracket_form timeout_form with_async_form
returns-then-at_word-clause-reads b c = search (rules, choose_yes, choose_no) depth 14 fits 4000

pub returns-then-at_word-2-clause-reads : goal.returns-then-at_word-2-clause-reads
unfolding firsts may_be_empty read_then word_action modify_form restore_form catch_form bracket_form timeout_form with_async_form
returns-then-at_word-2-clause-reads b c = search (rules, choose_yes, choose_no) depth 14 fits 4000

pub returns-then-at_word-3-clause-reads : goal.returns-then-at_word-3-clause-reads
unfolding firsts may_be_empty read_then word_action modify_form restore_form catch_form bracket_form timeout_form with_async_form
returns-then-at_word-3-clause-reads b c = search (rules, choose_yes, choose_no) depth 14 fits 4000

pub returns-then-at_word-4-clause-reads : goal.returns-then-at_word-4-clause-reads
unfolding firsts may_be_empty read_then word_action modify_form restore_form catch_form bracket_form timeout_form with_async_form
returns-then-at_word-4-clause-reads b c = search (rules, choose_yes, choose_no) depth 14 fits 4000

pub returns-then-at_word-5-clause-reads : goal.returns-then-at_word-5-clause-reads
unfolding firsts may_be_empty read_then word_action modify_form restore_form catch_form bracket_form timeout_form with_async_form
returns-then-at_word-5-clause-reads b c = search (rules, choose_yes, choose_no) depth 14 fits 4000

pub returns-then-at_word-6-clause-reads : goal.returns-then-at_word-6-clause-reads
unfolding firsts may_be_empty read_then word_action modify_form restore_form catch_form bracket_form timeout_form with_async_form
returns-then-at_word-6-clause-reads b c = search (rules, choose_yes, choose_no) depth 14 fits 4000

pub returns-clause-reads : goal.returns-clause-reads
unfolding firsts may_be_empty read_then word_action modify_form restore_form catch_form bracket_form timeout_form with_async_form
returns-clause-reads b c = search (rules, choose_yes, choose_no) depth 14 fits 4000
