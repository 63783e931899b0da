use Rattle.std.proofs.Common.{◌≡◌, ◌++◌, drop, map}
use Rattle.rules_code.specs.declared.code.CodeBody.{CodeBody}
use Rattle.slot_states.specs.entering.Entering.{waiting_from}
use Rattle.number_states.specs.States.{slots, thread_of}
use Rattle.number_moves.proofs.stranding.waiting.Given as goal

-- those that were found, and those among the threads that are left
abbrev pub invariant-loop-thread : goal.invariant-loop-thread
invariant-loop-thread l = record {
  number : l.t ≡ l.thread-index;
  is : (b : CodeBody) → l.waiting.items ++ waiting_from l.t (map (thread_of l.numbers b) (drop l.thread-index l.state.threads.items)) ≡ waiting_from 0 (slots l.numbers b l.state).threads;
}
