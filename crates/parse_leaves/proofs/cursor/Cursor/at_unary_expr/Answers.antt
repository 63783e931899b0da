use Rattle.hs_grammar.specs.Parser.{firsts, may_be_empty}
use Rattle.rules_grammar.specs.Grammar.{unary_expr, unary_word}
use Rattle.parse_leaves.proofs.cursor.Cursor.at_unary_expr.Goals as goal

pub returns : goal.returns
unfolding firsts may_be_empty unary_expr unary_word
returns c = c.at_one_of.ensures
