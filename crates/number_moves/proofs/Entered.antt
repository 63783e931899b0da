-- The entry that it is.
use Rattle.std.proofs.Common.{◌≡◌, Option, Result, Ok, Err, IfOk, sym, subst}
use Rattle.hs_rules.specs.declared.entry.Entry.{Entry}
use Rattle.rules_code.specs.declared.code.CodeBody.{CodeBody}
use Rattle.number_states.specs.declared.state.NumberState.{NumberState}
use Rattle.number_states.specs.Stocks.{Stock}
use Rattle.number_changes.specs.Moves.{Enters}

-- what an entry makes of a state by every code, one that is equal makes of it by a code
pub entered_so : {E : Type 0} (g h : Stock) (x : NumberState) (b : CodeBody) (e one : Entry) → e ≡ one → (r : Result (Option NumberState) E)
    → IfOk r (λ found. (c : CodeBody) → Enters one c g x h found) → IfOk r (λ found. Enters e b g x h found)
entered_so g h x b e one same (Ok found) p = subst (λ k. Enters k b g x h found) (sym same) (p b)
entered_so g h x b e one same (Err y) p = p
