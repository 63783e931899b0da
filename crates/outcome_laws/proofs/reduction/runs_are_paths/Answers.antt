use Rattle.outcome_laws.specs.Timings.{MayTick}
use Rattle.outcome_laws.proofs.reduction_lemmas.Cutting.{path_of, run_of}
use Rattle.outcome_laws.proofs.reduction.runs_are_paths.Goals as goal

pub returns-clause-path : goal.returns-clause-path
returns-clause-path c = λ clock code es s z run. (let p = path_of code (MayTick clock code) es s z run in (p.0, p.1, p.2))

pub returns-clause-run : goal.returns-clause-run
returns-clause-run c = λ clock code. run_of code (MayTick clock code)
