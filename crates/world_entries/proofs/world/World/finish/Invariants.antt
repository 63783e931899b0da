use Rattle.std.proofs.Common.{◌≡◌, ℕ, List, length}
use Rattle.hs_rules.specs.Entries.{throwers}
use Rattle.rules_waiting.specs.Waiting.{flying_to}
use Rattle.world_entries.proofs.Finishing.{Answering}
use Rattle.world_entries.proofs.world.World.finish.Given as goal

-- some of those that throw at the thread are answered, and nothing else has changed
abbrev pub invariant-loop-thrown : goal.invariant-loop-thrown
invariant-loop-thrown l = record {
  answering : (us : List ℕ) × Answering l.t us l.initial.self.threads.list.items l.initial.self.threads.flight.list l.self.threads;
  cells : l.self.cells ≡ l.initial.self.cells;
  sleepers : l.self.sleepers ≡ l.initial.self.sleepers;
  clock : l.self.clock ≡ l.initial.self.clock;
  instances : l.self.instances ≡ l.initial.self.instances;
  timeouts : l.self.timeouts ≡ l.initial.self.timeouts;
  printed : l.self.printed ≡ l.initial.self.printed;
}

abbrev pub decreases-loop-thrown : goal.decreases-loop-thrown
decreases-loop-thrown l = length (throwers (flying_to l.t l.self.threads.flight.list))
