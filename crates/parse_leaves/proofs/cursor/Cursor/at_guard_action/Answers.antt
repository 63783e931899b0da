use Rattle.hs_grammar.specs.Parser.{firsts, may_be_empty}
use Rattle.rules_grammar.specs.Grammar.{guard_action, guard_action_word}
use Rattle.parse_leaves.proofs.cursor.Cursor.at_guard_action.Goals as goal

pub returns : goal.returns
unfolding firsts may_be_empty guard_action guard_action_word
returns c = c.at_one_of.ensures
