use Rattle.std.proofs.Common.{refl}
use Rattle.std.proofs.lemmas.Result.{err_from_is_err_and}
use Rattle.conc_task.proofs.Tasks.{sought_of}
use Rattle.conc_task.proofs.task.read_search.Goals as goal

pub returns-clause-comes : goal.returns-clause-comes
returns-clause-comes g c = (refl, refl, refl, sought_of _ _ _ c.in_ok-code.ensures.comes)
