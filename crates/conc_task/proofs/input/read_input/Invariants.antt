use Rattle.std.proofs.Common.{◌-◌, ◌+◌, length}
use Rattle.conc_task.specs.Inputs.{HasTaken}
use Rattle.conc_task.proofs.input.read_input.Given as goal

abbrev pub invariant-loop-chunk : goal.invariant-loop-chunk
invariant-loop-chunk g l =
    HasTaken l.limit (g.S.Source.left l.fn.source) (g.S.Source.left l.source) l.bytes.items (g.S.Source.faults l.fn.source) (g.S.Source.faults l.source)

abbrev pub decreases-loop-chunk : goal.decreases-loop-chunk
decreases-loop-chunk g l = l.limit + 1 - length l.bytes.items
