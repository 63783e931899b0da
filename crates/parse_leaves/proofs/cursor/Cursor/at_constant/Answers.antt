use Rattle.hs_grammar.specs.Parser.{firsts, may_be_empty}
use Rattle.rules_grammar.specs.Grammar.{constant_word}
use Rattle.parse_leaves.proofs.cursor.Cursor.at_constant.Goals as goal

pub returns : goal.returns
unfolding firsts may_be_empty constant_word
returns c = c.at_one_of.ensures
