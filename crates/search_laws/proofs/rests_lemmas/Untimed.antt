-- An eager move looks at no sleeper and at no clock, and changes neither.
use Rattle.std.proofs.Common.{◌≡◌, ℕ, zero, suc, List, refl, subst}
use Rattle.rules_code.specs.CodeTrees.{SlottedFunction}
use Rattle.slot_states.specs.SlotStates.{SlotState, moves}
use Rattle.search_laws.specs.time.WithoutTime.{untimed}
use Rattle.search_laws.specs.rests.Rests.{EagerMove, EagerMoves}

module _ (funs : List SlottedFunction) where
  -- the same move of the state itself
  unfoldable pub timed_move : (x z : SlotState) (m : EagerMove funs (untimed x) z) → EagerMove funs x (moves m.number m.term x)
  timed_move x z m = record {
    number = m.number;
    thread = m.thread;
    is = m.is;
    unfinished = m.unfinished;
    free = m.free;
    main = record { main = m.main.main; is = m.main.is; unfinished = m.main.unfinished };
    term = m.term;
    leads = m.leads;
    eager = m.eager;
    moved = refl;
  }

  pub timed_moves : (k : ℕ) (x z : SlotState) → EagerMoves funs k (untimed x) z → (y : SlotState) × EagerMoves funs k x y × (untimed y ≡ z)
  timed_moves zero x z h = (x, refl, h)
  timed_moves (suc k) x z h =
      let m = h.1 in
      let w : SlotState = moves m.number m.term x in
      let n = timed_moves k w z (subst (λ v. EagerMoves funs k v z) m.moved h.2) in (n.0, (w, timed_move x h.0 m, n.1), n.2)
