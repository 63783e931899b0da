use Rattle.std.proofs.Common.{◌≡◌, ◌++◌, drop}
use Rattle.number_states.specs.Keys.{threads_key}
use Rattle.number_states.proofs.state.put_threads.Given as goal

-- what was put, and the key of what is left, are the key of all
abbrev pub invariant-loop-thread : goal.invariant-loop-thread
invariant-loop-thread l = l.out.items ++ threads_key (drop l.thread-index l.threads) ≡ l.fn.out.items ++ threads_key l.threads
