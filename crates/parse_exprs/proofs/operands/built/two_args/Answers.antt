use Rattle.std.proofs.Common.{rules}
use Rattle.hs_grammar.specs.Parser.{firsts, may_be_empty, read_then}
use Rattle.rules_grammar.specs.Grammar.{two_args}
use Rattle.parse_leaves.proofs.Steps.{steps}
use Rattle.parse_exprs.proofs.operands.built.two_args.Goals as goal

pub returns-in_err-first-clause-reads : goal.returns-in_err-first-clause-reads
unfolding firsts may_be_empty read_then two_args
returns-in_err-first-clause-reads b c = search (rules, steps)

pub returns-in_err-second-clause-reads : goal.returns-in_err-second-clause-reads
unfolding firsts may_be_empty read_then two_args
returns-in_err-second-clause-reads b c = search (rules, steps)

pub returns-clause-reads : goal.returns-clause-reads
unfolding firsts may_be_empty read_then two_args
returns-clause-reads b c = search (rules, steps)
