use Rattle.hs_laws.proofs.TermTrees.{same_rule, same_rules, same_part, same_mask, same_place, each_tree, one_term}
use Rattle.hs_laws.proofs.terms.terms_are_trees.Goals as goal

pub returns-clause-each : goal.returns-clause-each
returns-clause-each c = each_tree

pub returns-clause-one : goal.returns-clause-one
returns-clause-one c = one_term

pub returns-clause-rule : goal.returns-clause-rule
returns-clause-rule c = same_rule

pub returns-clause-rules : goal.returns-clause-rules
returns-clause-rules c = same_rules

pub returns-clause-part : goal.returns-clause-part
returns-clause-part c = same_part

pub returns-clause-mask : goal.returns-clause-mask
returns-clause-mask c = same_mask

pub returns-clause-place : goal.returns-clause-place
returns-clause-place c = same_place
