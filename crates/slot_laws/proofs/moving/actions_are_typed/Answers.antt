use Rattle.slot_laws.specs.Standing.{cells_of}
use Rattle.hs_progress.proofs.Heads.{heads_kept}
use Rattle.slot_laws.proofs.Heads.{main_reads}
use Rattle.slot_laws.proofs.moving.actions_are_typed.Goals as goal

pub returns-clause-heads : goal.returns-clause-heads
returns-clause-heads c = heads_kept

pub returns-clause-main : goal.returns-clause-main
returns-clause-main c store s a = let r = main_reads s a in (r.0, r.1, r.2 (cells_of store))
