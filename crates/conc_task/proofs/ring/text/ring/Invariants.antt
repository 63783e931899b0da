use Rattle.std.proofs.Common.{◌≡◌}
use Rattle.std.specs.Prelude.{string_bytes}
use Rattle.conc_task.specs.ring.Ring.{lines_of_places}
use Rattle.conc_task.proofs.ring.text.ring.Given as goal

abbrev pub invariant-loop-place : goal.invariant-loop-place
invariant-loop-place l = string_bytes l.text ≡ lines_of_places l.place
