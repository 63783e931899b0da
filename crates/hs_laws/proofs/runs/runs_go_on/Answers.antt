use Rattle.hs_laws.proofs.RunParts.{is_after, run_before, run_more, after_more}
use Rattle.hs_laws.proofs.runs.runs_go_on.Goals as goal

pub returns-clause-state : goal.returns-clause-state
returns-clause-state c = is_after

pub returns-clause-prefix : goal.returns-clause-prefix
returns-clause-prefix c = run_before

pub returns-clause-more : goal.returns-clause-more
returns-clause-more c = run_more

pub returns-clause-after : goal.returns-clause-after
returns-clause-after c = after_more
