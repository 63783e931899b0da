use Rattle.std.proofs.Common.{rules}
use Rattle.hs_grammar.specs.Parser.{firsts, may_be_empty, read_then}
use Rattle.rules_grammar.specs.Grammar.{product_link}
use Rattle.parse_leaves.proofs.Steps.{steps}
use Rattle.parse_exprs.proofs.chains.ProductsLinks.link.Goals as goal

pub returns-in_err-pos-clause-reads : goal.returns-in_err-pos-clause-reads
unfolding firsts may_be_empty read_then product_link
returns-in_err-pos-clause-reads b c = search (rules, steps)

pub returns-in_err-operand-clause-reads : goal.returns-in_err-operand-clause-reads
unfolding firsts may_be_empty read_then product_link
returns-in_err-operand-clause-reads b c = search (rules, steps)

pub returns-clause-reads : goal.returns-clause-reads
unfolding firsts may_be_empty read_then product_link
returns-clause-reads b c = search (rules, steps)
