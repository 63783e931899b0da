use Rattle.std.proofs.Common.{◌≡◌, drop, map}
use Rattle.rules_code.specs.declared.code.CodeBody.{CodeBody}
use Rattle.slot_states.specs.entering.Entering.{rest_from}
use Rattle.number_states.specs.States.{slots, thread_of}
use Rattle.number_moves.proofs.stranding.all_rest.Given as goal

-- all rest where those that are left do
abbrev pub invariant-loop-thread : goal.invariant-loop-thread
invariant-loop-thread l = record {
  number : l.t ≡ l.thread-index;
  is : (b : CodeBody) → rest_from (slots l.numbers b l.state).flight l.t (map (thread_of l.numbers b) (drop l.thread-index l.state.threads.items)) ≡ rest_from (slots l.numbers b l.state).flight 0 (slots l.numbers b l.state).threads;
}
