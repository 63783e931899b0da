use Rattle.std.proofs.Common.{rules}
use Rattle.hs_grammar.specs.Parser.{firsts, may_be_empty, read_then}
use Rattle.rules_grammar.specs.Grammar.{guard_action}
use Rattle.parse_leaves.proofs.Steps.{steps}
use Rattle.hs_parse.proofs.actions.forms.guard.Goals as goal

pub returns-in_err-word-clause-reads : goal.returns-in_err-word-clause-reads
unfolding firsts may_be_empty read_then guard_action
returns-in_err-word-clause-reads b c = search (rules, steps)

pub returns-in_err-blocks-clause-reads : goal.returns-in_err-blocks-clause-reads
unfolding firsts may_be_empty read_then guard_action
returns-in_err-blocks-clause-reads b c = search (rules, steps)

pub returns-clause-reads : goal.returns-clause-reads
unfolding firsts may_be_empty read_then guard_action
returns-clause-reads b c = search (rules, steps)
