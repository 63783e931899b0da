use Rattle.hs_compile.proofs.Verdicts.{not_both, same_script}
use Rattle.hs_compile.proofs.laws.one_verdict.Goals as goal

pub returns-clause-script : goal.returns-clause-script
returns-clause-script c = same_script

pub returns-clause-refusal : goal.returns-clause-refusal
returns-clause-refusal c = not_both
