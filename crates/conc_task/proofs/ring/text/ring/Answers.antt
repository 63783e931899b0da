use Rattle.std.proofs.Common.{arith}
use Rattle.conc_task.proofs.ring_lemmas.Places.{lines_of_places-none, lines_of_places-more}
use Rattle.conc_task.proofs.ring.text.ring.Goals as goal

pub loop-place-init : goal.loop-place-init
loop-place-init c = grind (arith, lines_of_places-none)

pub loop-place-preserved : goal.loop-place-preserved
loop-place-preserved c = grind (arith, lines_of_places-more c.loop-place.place)
