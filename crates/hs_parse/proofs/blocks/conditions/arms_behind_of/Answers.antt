use Rattle.std.proofs.Common.{rules}
use Rattle.hs_grammar.specs.Parser.{read_then}
use Rattle.parse_leaves.proofs.Steps.{steps}
use Rattle.parse_leaves.proofs.Parts.{part_steps}
use Rattle.hs_parse.proofs.blocks_lemmas.ArmSteps.{of_arms}
use Rattle.hs_parse.proofs.blocks.conditions.arms_behind_of.Goals as goal

pub returns-in_err-word-clause-reads : goal.returns-in_err-word-clause-reads
unfolding read_then
returns-in_err-word-clause-reads b c = search (rules, steps)

pub returns-in_err-arms-clause-reads : goal.returns-in_err-arms-clause-reads
unfolding read_then
returns-in_err-arms-clause-reads b c = search (rules, steps, part_steps)

pub returns-clause-reads : goal.returns-clause-reads
returns-clause-reads b c = search (rules, of_arms)
