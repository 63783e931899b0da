use Rattle.hs_progress.proofs.Entries.{runs_are_typed, types_follow}
use Rattle.hs_progress.proofs.going.runs_stay_typed.Goals as goal

pub returns-clause-typed : goal.returns-clause-typed
returns-clause-typed a = runs_are_typed

pub returns-clause-follows : goal.returns-clause-follows
returns-clause-follows a = types_follow
