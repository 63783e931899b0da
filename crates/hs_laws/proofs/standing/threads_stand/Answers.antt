use Rattle.hs_laws.proofs.Expanded.{standing_of, made_of}
use Rattle.hs_laws.proofs.standing.threads_stand.Goals as goal

pub returns-clause-standing : goal.returns-clause-standing
returns-clause-standing c = standing_of

pub returns-clause-made : goal.returns-clause-made
returns-clause-made c = made_of
