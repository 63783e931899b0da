use Rattle.std.proofs.Common.{rules}
use Rattle.hs_parse.proofs.blocks_lemmas.ArmSteps.{case_all, case_arms, case_subject}
use Rattle.hs_parse.proofs.blocks.conditions.behind_action_case.Goals as goal

pub returns-in_err-subject-clause-reads : goal.returns-in_err-subject-clause-reads
returns-in_err-subject-clause-reads b c = search (rules, case_subject)

pub returns-in_err-arms-clause-reads : goal.returns-in_err-arms-clause-reads
returns-in_err-arms-clause-reads b c = search (rules, case_arms)

pub returns-clause-reads : goal.returns-clause-reads
returns-clause-reads b c = search (rules, case_all)
