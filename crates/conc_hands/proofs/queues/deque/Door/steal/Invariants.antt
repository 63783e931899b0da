use Rattle.std.proofs.Common.{◌≡◌}
use Rattle.conc_hands.specs.queues.Deques.{door_id, pass_view, IsDequePass}
use Rattle.conc_hands.proofs.queues.deque.Door.steal.Given as goal

abbrev pub invariant-loop : goal.invariant-loop
invariant-loop g l = IsDequePass (door_id l.self) l.pass × (pass_view l.pass ≡ pass_view l.initial.pass)
