use Rattle.std.proofs.Common.{rules}
use Rattle.hs_grammar.specs.Parser.{firsts, may_be_empty, read_then}
use Rattle.rules_grammar.specs.Grammar.{and}
use Rattle.parse_leaves.proofs.Parts.{part_steps}
use Rattle.parse_leaves.proofs.Steps.{steps}
use Rattle.parse_exprs.proofs.chains.and.Goals as goal

pub returns-in_err-first-clause-reads : goal.returns-in_err-first-clause-reads
unfolding firsts may_be_empty read_then and
returns-in_err-first-clause-reads b c = search (rules, steps, part_steps)

pub returns-in_err-links-clause-reads : goal.returns-in_err-links-clause-reads
unfolding firsts may_be_empty read_then and
returns-in_err-links-clause-reads b c = search (rules, steps, part_steps)

pub returns-clause-reads : goal.returns-clause-reads
unfolding firsts may_be_empty read_then and
returns-clause-reads b c = search (rules, steps, part_steps)
