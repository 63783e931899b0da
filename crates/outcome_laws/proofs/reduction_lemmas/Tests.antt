-- A certain thread that is there.
use Rattle.std.proofs.Common.{◌≡◌, Option, Some, sym, ◌∙◌, subst}
use Rattle.hs_rules.specs.State.{Thread, State}
use Rattle.hs_rules.specs.Entries.{on_thread}
use Rattle.outcome_laws.proofs.timing_lemmas.Passing.{same_item, thread_there}

-- a certain thread that is there
pub there_is : (o : Option Thread) (th : Thread) (k : Thread → Option State) (u : State) → o ≡ Some th → on_thread o k ≡ Some u → k th ≡ Some u
there_is o th k u is e = let h = thread_there o k u e in subst (λ z. k z ≡ Some u) (same_item (sym h.1 ∙ is)) h.3
