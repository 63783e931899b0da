use Rattle.std.proofs.Common.{rules}
use Rattle.hs_grammar.specs.Parser.{firsts, may_be_empty, read_then}
use Rattle.rules_grammar.specs.Grammar.{guarded_block}
use Rattle.parse_leaves.proofs.Steps.{steps}
use Rattle.hs_parse.proofs.actions.parts.guarded_block.Goals as goal

pub returns-in_err-body-clause-reads : goal.returns-in_err-body-clause-reads
unfolding firsts may_be_empty read_then guarded_block
returns-in_err-body-clause-reads b c = search (rules, steps)

pub returns-in_err-handler-clause-reads : goal.returns-in_err-handler-clause-reads
unfolding firsts may_be_empty read_then guarded_block
returns-in_err-handler-clause-reads b c = search (rules, steps)

pub returns-clause-reads : goal.returns-clause-reads
unfolding firsts may_be_empty read_then guarded_block
returns-clause-reads b c = search (rules, steps)
