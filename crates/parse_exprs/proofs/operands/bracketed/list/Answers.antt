use Rattle.std.proofs.Common.{rules}
use Rattle.rules_grammar.specs.Grammar.{rule_of}
use Rattle.parse_leaves.proofs.Steps.{steps}
use Rattle.parse_exprs.proofs.operands.bracketed.list.Goals as goal

pub returns-in_err-pos-clause-reads : goal.returns-in_err-pos-clause-reads
unfolding rule_of
returns-in_err-pos-clause-reads b c = search (rules, steps)

pub returns-in_err-items-clause-reads : goal.returns-in_err-items-clause-reads
unfolding rule_of
returns-in_err-items-clause-reads b c = search (rules, steps)

pub returns-clause-reads : goal.returns-clause-reads
unfolding rule_of
returns-clause-reads b c = search (rules, steps)
