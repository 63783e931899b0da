use Rattle.std.proofs.Common.{◌≡◌, take, vec_items}
use Rattle.trace_picture.specs.Looking.{fulls_at}
use Rattle.trace_picture.proofs.looking.fulls.Given as goal

abbrev pub invariant-loop-m : goal.invariant-loop-m
invariant-loop-m l = vec_items l.fulls ≡ fulls_at (take l.m l.world.cells.cells)
