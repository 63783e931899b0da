use Rattle.std.proofs.Common.{◌≡◌, take}
use Rattle.number_moves.proofs.operations.operating.copy_values.Given as goal

-- the first of the values are copied
abbrev pub invariant-loop-value : goal.invariant-loop-value
invariant-loop-value l = l.copies ≡ take l.value-index l.values
