use Rattle.std.proofs.Common.{ℕ, List, length}
use Rattle.world_entries.proofs.Stranding.{Stranding}
use Rattle.world_entries.proofs.world.World.strand.Given as goal

-- some of those who wait are stranded
abbrev pub invariant-loop-t : goal.invariant-loop-t
invariant-loop-t l = (ts : List ℕ) × Stranding ts l.fn.self l.self

abbrev pub decreases-loop-t : goal.decreases-loop-t
decreases-loop-t l = length l.self.threads.stuck.items
