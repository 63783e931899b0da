use Rattle.std.proofs.Common.{rules}
use Rattle.hs_grammar.specs.Parser.{firsts, may_be_empty, read_then}
use Rattle.rules_grammar.specs.Grammar.{nothing_form}
use Rattle.parse_leaves.proofs.Steps.{steps}
use Rattle.parse_exprs.proofs.operands.built.nothing.Goals as goal

pub returns-in_err-pos-clause-reads : goal.returns-in_err-pos-clause-reads
unfolding firsts may_be_empty read_then nothing_form
returns-in_err-pos-clause-reads c = search (rules, steps)

pub returns-in_err-symbol-clause-reads : goal.returns-in_err-symbol-clause-reads
unfolding firsts may_be_empty read_then nothing_form
returns-in_err-symbol-clause-reads c = search (rules, steps)

pub returns-in_err-ty-clause-reads : goal.returns-in_err-ty-clause-reads
unfolding firsts may_be_empty read_then nothing_form
returns-in_err-ty-clause-reads c = search (rules, steps)

pub returns-clause-reads : goal.returns-clause-reads
unfolding firsts may_be_empty read_then nothing_form
returns-clause-reads c = search (rules, steps)
