use Rattle.std.proofs.Common.{◌≡◌, ◌≤◌, length}
use Rattle.world_entries.specs.Reading.{Are}
use Rattle.world_entries.proofs.reading.copies.Given as goal

abbrev pub invariant-loop : goal.invariant-loop
invariant-loop l = record { same : Are l.value l.copies.items; count : length l.copies.items ≡ l.counter; room : l.n ≤ l.copies.cap }
