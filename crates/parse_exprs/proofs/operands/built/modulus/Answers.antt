use Rattle.std.proofs.Common.{rules}
use Rattle.hs_grammar.specs.Parser.{firsts, may_be_empty, read_then}
use Rattle.rules_grammar.specs.Grammar.{mod_form}
use Rattle.parse_leaves.proofs.Steps.{steps}
use Rattle.parse_exprs.proofs.operands.built.modulus.Goals as goal

pub returns-in_err-pos-clause-reads : goal.returns-in_err-pos-clause-reads
unfolding firsts may_be_empty read_then mod_form
returns-in_err-pos-clause-reads b c = search (rules, steps)

pub returns-in_err-args-clause-reads : goal.returns-in_err-args-clause-reads
unfolding firsts may_be_empty read_then mod_form
returns-in_err-args-clause-reads b c = search (rules, steps)

pub returns-clause-reads : goal.returns-clause-reads
unfolding firsts may_be_empty read_then mod_form
returns-clause-reads b c = search (rules, steps)
