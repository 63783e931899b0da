use Rattle.hs_grammar.specs.Parser.{firsts, may_be_empty}
use Rattle.rules_grammar.specs.Grammar.{side_expr, side_types, side_word}
use Rattle.parse_leaves.proofs.cursor.Cursor.at_side_expr.Goals as goal

pub returns : goal.returns
unfolding firsts may_be_empty side_expr side_types side_word
returns c = c.at_one_of.ensures
