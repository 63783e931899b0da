use Rattle.std.proofs.Common.{◌≡◌, ℕ, ◌-◌, drop, true, nat_eq, IsSome}
use Rattle.std.specs.HashMap.{get}
use Rattle.thread_table.specs.Listing.{is_in}
use Rattle.thread_table.specs.Rooms.{Spends}
use Rattle.thread_table.specs.Table.{unqueued}
use Rattle.thread_table.proofs.threads.Threads.next_ready.Given as goal

-- behind those that haven't been looked at stand threads that have a job out
abbrev pub invariant-loop-turn : goal.invariant-loop-turn
invariant-loop-turn l = record {
  looked : (t : ℕ) → is_in t (drop (l._turn-end - l._turn) l.self.ready.items) ≡ true → IsSome (get nat_eq l.out t);
  others : unqueued l.self.list.items ≡ unqueued l.initial.self.list.items;
  flight : l.self.flight ≡ l.initial.self.flight;
  spends : Spends 0 0 0 0 l.initial.self l.self;
}
