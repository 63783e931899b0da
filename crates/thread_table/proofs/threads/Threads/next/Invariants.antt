use Rattle.std.proofs.Common.{◌≡◌, ◌≤◌, length}
use Rattle.thread_table.proofs.threads.Threads.next.Given as goal

abbrev pub invariant-loop-t : goal.invariant-loop-t
invariant-loop-t l = record {
  list : l.self.list ≡ l.initial.self.list;
  flight : l.self.flight ≡ l.initial.self.flight;
  ready : l.self.ready ≡ l.initial.self.ready;
  stuck : l.self.stuck ≡ l.initial.self.stuck;
  cap : l.self.work.cap ≡ l.initial.self.work.cap;
  len : length l.self.work.items ≤ length l.initial.self.work.items;
}

abbrev pub decreases-loop-t : goal.decreases-loop-t
decreases-loop-t l = length l.self.work.items
