use Rattle.std.proofs.Common.{rules}
use Rattle.hs_grammar.specs.Parser.{firsts, may_be_empty, read_then}
use Rattle.rules_grammar.specs.Grammar.{two_blocks}
use Rattle.parse_leaves.proofs.Steps.{steps}
use Rattle.hs_parse.proofs.actions.parts.two_blocks.Goals as goal

pub returns-in_err-first-clause-reads : goal.returns-in_err-first-clause-reads
unfolding firsts may_be_empty read_then two_blocks
returns-in_err-first-clause-reads b c = search (rules, steps)

pub returns-in_err-second-clause-reads : goal.returns-in_err-second-clause-reads
unfolding firsts may_be_empty read_then two_blocks
returns-in_err-second-clause-reads b c = search (rules, steps)

pub returns-clause-reads : goal.returns-clause-reads
unfolding firsts may_be_empty read_then two_blocks
returns-clause-reads b c = search (rules, steps)
