use Rattle.std.proofs.Common.{◌≡◌, ◌++◌, drop, map}
use Rattle.number_states.specs.waits.Sleeping.{sleepers}
use Rattle.rules_code.specs.declared.code.CodeBody.{CodeBody}
use Rattle.number_states.specs.Stocks.{Stock}
use Rattle.number_states.specs.States.{thread_of}
use Rattle.search_laws.specs.Found.{entries_from, wake_of}
use Rattle.state_search.proofs.candidates.candidates.Given as goal

abbrev pub invariant-loop-t : goal.invariant-loop-t
invariant-loop-t l = (g : Stock) (b : CodeBody) → l.out.items ++ entries_from l.t (map (thread_of g b) (drop l.t l.threads)) ≡ entries_from 0 (map (thread_of g b) l.threads)

abbrev pub invariant-loop-sleeper : goal.invariant-loop-sleeper
invariant-loop-sleeper l =
    (g : Stock) (b : CodeBody) → l.out.items ++ map wake_of (sleepers (drop l.sleeper-index l.sleepers)) ≡ entries_from 0 (map (thread_of g b) l.threads) ++ map wake_of (sleepers l.sleepers)
