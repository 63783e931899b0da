use Rattle.slot_laws.specs.Standing.{cells_of}
use Rattle.hs_progress.proofs.Heads.{heads_kept}
use Rattle.slot_laws.proofs.Simulation.{same_rule, same_rules, does_go, slice_moves}
use Rattle.slot_laws.proofs.moving.slots_move_as_names.Goals as goal

pub returns-clause-rule : goal.returns-clause-rule
returns-clause-rule c store s a = same_rule (cells_of store) s a (heads_kept s a)

pub returns-clause-rules : goal.returns-clause-rules
returns-clause-rules c store s a = same_rules (cells_of store) s a (heads_kept s a)

pub returns-clause-goes : goal.returns-clause-goes
returns-clause-goes c store s a = does_go (cells_of store) s a (heads_kept s a)

pub returns-clause-slice : goal.returns-clause-slice
returns-clause-slice c store s a k start end below pushed t h e = slice_moves (cells_of store) s a (heads_kept s a) k start end below pushed t h e
