use Rattle.std.proofs.Common.{Some}
use Rattle.caps_visits.specs.Objects.{object_of}
use Rattle.caps_visits.proofs.cutting.run_slice.Given as goal

abbrev pub ghosts-run_watched : goal.ghosts-run_watched
ghosts-run_watched g a = record { object = Some (object_of a.shared.now.hands.now) }
