use Rattle.std.proofs.Common.{◌≡◌, ◌≤◌, length}
use Rattle.thread_table.specs.Table.{unlisted}
use Rattle.thread_table.specs.Rooms.{Spends}
use Rattle.thread_table.proofs.threads.Threads.may_strand.Given as goal

abbrev pub invariant-loop-t : goal.invariant-loop-t
invariant-loop-t l = record {
  others : unlisted l.self.list.items ≡ unlisted l.initial.self.list.items;
  fewer : length l.self.stuck.items ≤ length l.initial.self.stuck.items;
  flight : l.self.flight ≡ l.initial.self.flight;
  spends : Spends 0 0 0 0 l.initial.self l.self;
}

abbrev pub decreases-loop-t : goal.decreases-loop-t
decreases-loop-t l = length l.self.stuck.items
