-- Whose state a player stands for.
use Rattle.std.proofs.Common.{List}
use Rattle.std.proofs.Math.Logic.{∥∥₁_map}
use Rattle.hs_rules.specs.declared.entry.Entry.{Entry}
use Rattle.hs_rules.specs.State.{State}
use Rattle.hs_rules.specs.Runs.{IsRun}
use Rattle.trace_checker.specs.declared.player.player.Player.{Player}
use Rattle.trace_checker.specs.player.Playing.{script, Played}

-- the entries that it has played are a run
pub played_runs : (p : Player) (es : List Entry) → Played es p → ∥ ((s : State) × IsRun (script p) es s) ∥₁
played_runs p es played = ∥∥₁_map played (λ live. (live.state, live.run))
