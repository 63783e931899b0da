use Rattle.hs_laws.proofs.Expanded.{brackets_of, owing_of, brackets_law}
use Rattle.hs_laws.proofs.brackets.brackets_are_released.Goals as goal

pub returns-clause-released : goal.returns-clause-released
returns-clause-released c = brackets_of

pub returns-clause-owed : goal.returns-clause-owed
returns-clause-owed c = owing_of

pub returns-clause-kept : goal.returns-clause-kept
returns-clause-kept c = brackets_law
