-- What a clause says of the ends of a deque.
use Rattle.std.specs.Prelude.{ℕ}
use Rattle.std.specs.declared.alloc.Global.{Global}
use Rattle.atomic_blocks.specs.Lent.{RowsId}
use Rattle.crossbeam_deque.specs.Handles.{worker_view, worker_deque, stealer_deque, view, IsPassOf}
use Rattle.conc_hands.specs.declared.queues.view.QueueView.{QueueView}
use Rattle.conc_hands.specs.declared.queues.deque.Deque.{Deque}
use Rattle.conc_hands.specs.declared.queues.deque.Door.{Door}
use Rattle.conc_hands.specs.declared.queues.deque.DequePass.{DequePass}

module _ {J : Type 0} where
  abbrev pub deque_view : Deque J → QueueView
  deque_view d = worker_view d.worker

  -- which deque it is an end of
  abbrev pub deque_id : Deque J → RowsId × Global
  deque_id d = worker_deque d.worker

  abbrev pub door_id : Door J → RowsId × Global
  door_id d = stealer_deque d.stealer

  -- how many pushes are sure to succeed
  abbrev pub room_of : Deque J → ℕ
  room_of d = d.room

  abbrev pub pass_view : DequePass J → QueueView
  pass_view p = view p.pass

  -- the pass is of this deque
  abbrev pub IsDequePass : RowsId × Global → DequePass J → Type 0
  IsDequePass id p = IsPassOf id p.pass
