use Rattle.hs_grammar.specs.Parser.{firsts, may_be_empty}
use Rattle.rules_grammar.specs.Grammar.{cons_link, cons_operator}
use Rattle.parse_leaves.proofs.cursor.Cursor.at_cons_operator.Goals as goal

pub returns : goal.returns
unfolding firsts may_be_empty cons_link cons_operator
returns c = c.at_any_symbol.ensures
