use Rattle.world_entries.proofs.Showing.{Showing}
use Rattle.world_entries.proofs.world.World.show.Given as goal

abbrev pub invariant-loop-reader : goal.invariant-loop-reader
invariant-loop-reader l = Showing l.m l.fn.self l.self l.fn.copies.items l.copies.items

abbrev pub decreases-loop-reader : goal.decreases-loop-reader
decreases-loop-reader l = goal.left-loop-reader l
