use Rattle.std.proofs.Common.{rules, refl}
use Rattle.hs_grammar.specs.Parser.{firsts, may_be_empty, read_then}
use Rattle.rules_grammar.specs.Grammar.{rule_of}
use Rattle.parse_leaves.proofs.Parts.{part_steps}
use Rattle.parse_exprs.proofs.Parts.{case_ok}
use Rattle.parse_leaves.proofs.Steps.{steps}
use Rattle.parse_exprs.proofs.forms.behind_case.Goals as goal

pub returns-in_err-subject-clause-reads : goal.returns-in_err-subject-clause-reads
unfolding firsts may_be_empty read_then rule_of
returns-in_err-subject-clause-reads b c = search (rules, steps, part_steps)

pub returns-in_err-word-clause-reads : goal.returns-in_err-word-clause-reads
unfolding firsts may_be_empty read_then rule_of
returns-in_err-word-clause-reads b c = search (rules, steps, part_steps)

pub returns-in_err-arms-clause-reads : goal.returns-in_err-arms-clause-reads
unfolding firsts may_be_empty read_then rule_of
returns-in_err-arms-clause-reads b c = search (rules, steps, part_steps)

pub returns-clause-reads : goal.returns-clause-reads
returns-clause-reads b c = case_ok c.args.depth _ _ _ _ _ _ _ _ c.in_ok-subject.ensures.reads c.in_ok-word.ensures.reads c.in_ok-arms.ensures.reads (refl, refl)
