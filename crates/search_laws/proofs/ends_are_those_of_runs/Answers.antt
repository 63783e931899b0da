use Rattle.search_laws.proofs.HowTheyEnd.{main_right, ends_there}
use Rattle.search_laws.proofs.ends_are_those_of_runs.Goals as goal

pub returns-clause-right : goal.returns-clause-right
returns-clause-right c = λ clock script accepted es s run d a end h f e. main_right clock script accepted es s run a.exact a.represents d a.forgotten end h f e

pub returns-clause-all : goal.returns-clause-all
returns-clause-all c = λ clock script accepted es s run d a end h f e. ends_there clock script accepted es s run a.exact a.represents d a.forgotten end h f e
