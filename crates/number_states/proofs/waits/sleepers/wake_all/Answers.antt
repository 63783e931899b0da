use Rattle.std.proofs.Common.{◌∙◌}
use Rattle.number_states.proofs.waits_lemmas.Sorted.{one_undone}
use Rattle.number_states.proofs.waits.sleepers.wake_all.Goals as goal
use native.Mathlib.Omega.{arith}

pub loop-sleeper-preserved : goal.loop-sleeper-preserved
loop-sleeper-preserved c = one_undone c.loop-sleeper.list c.loop-sleeper.sleeper-index (record { thread = 0; due = 0 }) (omega arith) ∙ c.loop-sleeper.invariant
