use Rattle.std.proofs.Common.{◌≡◌, ℕ, ◌<◌, slice_get}
use Rattle.local_steps.specs.equality.Efforts.{IsEndless}
use Rattle.local_steps.proofs.equality.values.compare_envs.Given as goal

-- the values of the slots before are equal
abbrev pub invariant-loop-at : goal.invariant-loop-at
invariant-loop-at l = record {
  same : (k : ℕ) → k < l.at → slice_get l.a k ≡ slice_get l.b k;
  endless : IsEndless l.fn.effort → IsEndless l.effort;
}
