use Rattle.std.proofs.Common.{◌≡◌, take, vec_items}
use Rattle.trace_picture.specs.Looking.{poses_at}
use Rattle.trace_picture.proofs.looking.poses.Given as goal

abbrev pub invariant-loop-thread : goal.invariant-loop-thread
invariant-loop-thread l = record { count : l.t ≡ l.thread-index; poses : vec_items l.poses ≡ poses_at l.world 0 (take l.thread-index l.world.threads.list.items) }
