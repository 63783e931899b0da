-- What follows from the answers of a desk.
use Rattle.std.proofs.Common.{◌≡◌, false, true≢false, refl, sym, subst}
use Rattle.std.specs.Prelude.{Option, Some, None, IsSome, MatchOption}
use Rattle.std.specs.Option.{is_some}

-- no ending was answered, so there is none
pub no_ending : {R E : Type 0} (P : R → Type 0) (answer : Option R) (end : Option E) → is_some answer ≡ false → MatchOption answer (end ≡ None) P → IsSome end → ⊥
no_ending P None end none is some = true≢false (sym (subst IsSome is some))
no_ending P (Some x) end none is some = true≢false none

-- an ending is set where there was none, and kept where there was one
pub ended_now : {E : Type 0} (old new : Option E) (e : E) → (old ≡ None → new ≡ Some e) → (IsSome old → new ≡ old) → IsSome new
ended_now None new e none some = subst IsSome (sym (none refl)) refl
ended_now (Some x) new e none some = subst IsSome (sym (some refl)) refl
