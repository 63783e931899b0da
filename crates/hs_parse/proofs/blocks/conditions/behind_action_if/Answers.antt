use Rattle.std.proofs.Common.{rules}
use Rattle.hs_parse.proofs.blocks_lemmas.ArmSteps.{if_all, if_branches, if_test}
use Rattle.hs_parse.proofs.blocks.conditions.behind_action_if.Goals as goal

pub returns-in_err-test-clause-reads : goal.returns-in_err-test-clause-reads
returns-in_err-test-clause-reads b c = search (rules, if_test)

pub returns-in_err-blocks-clause-reads : goal.returns-in_err-blocks-clause-reads
returns-in_err-blocks-clause-reads b c = search (rules, if_branches)

pub returns-clause-reads : goal.returns-clause-reads
returns-clause-reads b c = search (rules, if_all)
