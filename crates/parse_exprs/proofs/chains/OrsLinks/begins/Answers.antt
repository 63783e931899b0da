use Rattle.hs_grammar.specs.Parser.{firsts, may_be_empty, read_then}
use Rattle.rules_grammar.specs.Grammar.{or_link}
use Rattle.parse_exprs.proofs.chains.OrsLinks.begins.Goals as goal

pub returns : goal.returns
unfolding firsts may_be_empty read_then or_link
returns c = c.at_symbol.ensures
