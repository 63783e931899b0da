use Rattle.std.proofs.Common.{subst}
use Rattle.hs_progress.specs.TypedStates.{has}
use Rattle.hs_progress.proofs.Heads.{heads_kept}
use Rattle.hs_progress.proofs.Moves.{local_goes, KeepsTyped, locals_go}
use Rattle.hs_progress.proofs.local_rules.local_rules_keep_types.Goals as goal

pub returns-clause-step : goal.returns-clause-step
returns-clause-step a s accepted st t h = local_goes (has st) s accepted (heads_kept s accepted) h.part h.frames

pub returns-clause-steps : goal.returns-clause-steps
returns-clause-steps a s accepted st t h k u e = subst (KeepsTyped (has st) s accepted (heads_kept s accepted)) e (locals_go (has st) s accepted (heads_kept s accepted) k t h)
