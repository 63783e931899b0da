use Rattle.std.proofs.Common.{rules}
use Rattle.hs_grammar.specs.Parser.{firsts, may_be_empty, read_then}
use Rattle.rules_grammar.specs.Grammar.{named_block}
use Rattle.parse_leaves.proofs.Steps.{steps}
use Rattle.hs_parse.proofs.actions.parts.named_block.Goals as goal

pub returns-in_err-name-clause-reads : goal.returns-in_err-name-clause-reads
unfolding firsts may_be_empty read_then named_block
returns-in_err-name-clause-reads b c = search (rules, steps)

pub returns-in_err-block-clause-reads : goal.returns-in_err-block-clause-reads
unfolding firsts may_be_empty read_then named_block
returns-in_err-block-clause-reads b c = search (rules, steps)

pub returns-clause-reads : goal.returns-clause-reads
unfolding firsts may_be_empty read_then named_block
returns-clause-reads b c = search (rules, steps)
