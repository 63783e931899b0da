use Rattle.hs_grammar.specs.Parser.{firsts, may_be_empty}
use Rattle.rules_grammar.specs.Grammar.{sum_link, sum_operator}
use Rattle.parse_leaves.proofs.cursor.Cursor.at_sum_operator.Goals as goal

pub returns : goal.returns
unfolding firsts may_be_empty sum_link sum_operator
returns c = c.at_any_symbol.ensures
