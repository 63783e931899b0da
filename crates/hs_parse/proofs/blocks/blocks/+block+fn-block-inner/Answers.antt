use Rattle.std.proofs.Common.{rules}
use Rattle.rules_grammar.specs.Grammar.{block}
use Rattle.parse_leaves.proofs.Steps.{steps}
use Rattle.hs_parse.proofs.blocks.blocks.+block+fn-block-inner.Goals as goal

pub returns-in_err-open_symbol-clause-reads : goal.returns-in_err-open_symbol-clause-reads
unfolding block
returns-in_err-open_symbol-clause-reads t c = search (rules, steps)

pub returns-clause-reads : goal.returns-clause-reads
unfolding block
returns-clause-reads t c = search (rules, steps)
