use Rattle.hs_soundness.proofs.BodiesTyped.{bodies_typed, pure_typed}
use Rattle.hs_soundness.proofs.Wells.{ex_well}
use Rattle.hs_soundness.proofs.WellBlocks.{bl_well}
use Rattle.hs_soundness.proofs.bodies.accepted_bodies_are_typed.Goals as goal

pub returns-clause-bodies : goal.returns-clause-bodies
returns-clause-bodies a = bodies_typed

pub returns-clause-well : goal.returns-clause-well
returns-clause-well a = ex_well

pub returns-clause-blocks : goal.returns-clause-blocks
returns-clause-blocks a = bl_well

pub returns-clause-functions : goal.returns-clause-functions
returns-clause-functions a = pure_typed
