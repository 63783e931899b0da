use Rattle.hs_grammar.specs.Parser.{firsts, may_be_empty}
use Rattle.rules_grammar.specs.Grammar.{scoped_action, scoped_action_word}
use Rattle.parse_leaves.proofs.cursor.Cursor.at_scoped_action.Goals as goal

pub returns : goal.returns
unfolding firsts may_be_empty scoped_action scoped_action_word
returns c = c.at_one_of.ensures
