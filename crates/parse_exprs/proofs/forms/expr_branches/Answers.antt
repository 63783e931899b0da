use Rattle.std.proofs.Common.{rules}
use Rattle.hs_grammar.specs.Parser.{read_then}
use Rattle.parse_leaves.proofs.Steps.{steps}
use Rattle.parse_exprs.proofs.forms.expr_branches.Goals as goal

pub returns-in_err-yes-clause-reads : goal.returns-in_err-yes-clause-reads
unfolding read_then
returns-in_err-yes-clause-reads b c = search (rules, steps)

pub returns-in_err-word-clause-reads : goal.returns-in_err-word-clause-reads
unfolding read_then
returns-in_err-word-clause-reads b c = search (rules, steps)

pub returns-in_err-no-clause-reads : goal.returns-in_err-no-clause-reads
unfolding read_then
returns-in_err-no-clause-reads b c = search (rules, steps)

pub returns-clause-reads : goal.returns-clause-reads
unfolding read_then
returns-clause-reads b c = search (rules, steps)
