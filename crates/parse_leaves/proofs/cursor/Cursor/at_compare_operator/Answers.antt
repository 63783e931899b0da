use Rattle.hs_grammar.specs.Parser.{firsts, may_be_empty}
use Rattle.rules_grammar.specs.Grammar.{compare_end, compare_operator}
use Rattle.parse_leaves.proofs.cursor.Cursor.at_compare_operator.Goals as goal

pub returns : goal.returns
unfolding firsts may_be_empty compare_end compare_operator
returns c = c.at_any_symbol.ensures
