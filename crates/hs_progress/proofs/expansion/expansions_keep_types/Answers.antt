use Rattle.hs_progress.specs.TypedStates.{has}
use Rattle.hs_progress.proofs.Surface.{act_does, bl_does}
use Rattle.hs_progress.proofs.Heads.{heads_kept, main_runs}
use Rattle.hs_progress.proofs.expansion.expansions_keep_types.Goals as goal

pub returns-clause-action : goal.returns-clause-action
returns-clause-action a c s x t w h g q = act_does c s x t w h g q

pub returns-clause-block : goal.returns-clause-block
returns-clause-block a c s b t w h g q = bl_does c s b t w h g q

pub returns-clause-heads : goal.returns-clause-heads
returns-clause-heads a = heads_kept

pub returns-clause-main : goal.returns-clause-main
returns-clause-main a s accepted = let m = main_runs s accepted in (m.0, m.1, λ st. m.2 (has st))
