-- Room in the lists (own).
use Rattle.std.specs.Prelude.{◌<◌, ◌≤◌, ℕ, ◌+◌, ◌-◌, ◌^◌, length}
use Rattle.thread_table.specs.declared.threads.Threads.{Threads}

abbrev pub work_room : Threads → ℕ
work_room s = s.work.cap - length s.work.items

abbrev pub ready_room : Threads → ℕ
ready_room s = s.ready.cap - length s.ready.items

abbrev pub stuck_room : Threads → ℕ
stuck_room s = s.stuck.cap - length s.stuck.items

abbrev pub thread_room : Threads → ℕ
thread_room s = s.list.cap - length s.list.items

-- there is room for one entry, whichever it is
pub record HasRoom (s : Threads) : Type 0 where
  pub work : length s.flight.list + length s.stuck.items + 3 ≤ work_room s
  pub ready : 2 ≤ ready_room s
  pub stuck : 1 ≤ stuck_room s
  pub threads : 1 ≤ thread_room s
  pub flight : 1 ≤ s.flight.spare
  pub frames : s.frames < 2 ^ 62

-- no list has less room, but for so many places
pub record Spends (w r k n : ℕ) (old new : Threads) : Type 0 where
  pub work : work_room old ≤ work_room new + w
  pub ready : ready_room old ≤ ready_room new + r
  pub stuck : stuck_room old ≤ stuck_room new + k
  pub threads : thread_room old ≤ thread_room new + n
  pub flight : old.flight.spare ≤ new.flight.spare
