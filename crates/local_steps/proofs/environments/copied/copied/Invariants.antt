use Rattle.std.proofs.Common.{◌≡◌, ◌+◌, take, length, vec_len}
use Rattle.std.specs.Prelude.{vec_capacity}
use Rattle.local_steps.proofs.environments.copied.copied.Given as goal

abbrev pub invariant-loop-value : goal.invariant-loop-value
invariant-loop-value l = record {
  items : l.copies.items ≡ take l.value-index l.values;
  len : vec_len l.copies ≡ l.value-index;
  capacity : vec_capacity l.copies ≡ length l.values + l.fn.more;
}
