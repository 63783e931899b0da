-- The outcomes of endings, and the endings of what was found.
use Rattle.std.proofs.Common.{◌≡◌, ◌<◌, ◌≤◌, ◌+◌, ℕ, zero, suc, List, [], ◌∷◌, ◌++◌, length, map, take, Option, Some, None, slice_get, get_or, sym, ap, ◌∙◌, subst, arith, ⊎_elim}
use Rattle.std.specs.Prelude.{◌⊎◌}
use Rattle.std.specs.List.{AllByRecursion, Contains}
use Rattle.std.proofs.lemmas.Option.{same_Some, slice_get_within}
use Rattle.plain_laws.proofs.Numbers.{below_or_last}
use Rattle.plain_laws.proofs.Lists.{mapped_there}
use Rattle.rules_code.specs.declared.code.CodeBody.{CodeBody}
use Rattle.outcome_laws.specs.Outcomes as laws
use Rattle.outcome_listing.specs.declared.explored.Final.{Final}
use Rattle.outcome_listing.specs.declared.explored.Outcome.{Outcome}
use Rattle.outcome_listing.specs.Finals.{final_of, outcome_of, outcomes_of}
use Rattle.conc_outcomes.specs.declared.order.ended.Ended.{Ended}
use Rattle.conc_outcomes.specs.order.Rising as order
use Rattle.conc_outcomes.specs.order.Rising.{outcome_by, IsRising, Holds, Has}
use Rattle.search_laws.specs.Shown.{Shown}
use Rattle.state_search.specs.declared.found.Found.{Found}
use Rattle.state_search.specs.Meaning.{states_of, kind_of}
use Rattle.state_search.specs.Searching.{Shows}
use Rattle.conc_outcomes.specs.Exploring.{IsBefore, AreRising}
use Rattle.conc_outcomes.proofs.Lists.{take_next, map_next}

-- ---- the outcomes of endings

all_before : (a : Ended) (es : List Ended) → AllByRecursion (order.IsBefore a) es → AllByRecursion (IsBefore (outcome_by a)) (map outcome_by es)
all_before a [] h = tt
all_before a (e ∷ es) h = (h.0, all_before a es h.1)

pub outcomes_rise : (es : List Ended) → IsRising es → AreRising (map outcome_by es)
outcomes_rise [] h = tt
outcomes_rise (e ∷ es) h = (all_before e es h.0, outcomes_rise es h.1)

among : (es : List Ended) (i : ℕ) (e : Ended) (o : laws.Outcome) → slice_get es i ≡ Some e → outcome_by e ≡ o → (i < length (map outcome_by es)) × (get_or (map outcome_by es) i o ≡ o)
among [] zero e o at is = absurd (cc at)
among [] (suc i) e o at is = absurd (cc at)
among (x ∷ xs) zero e o at is = (omega arith, ap outcome_by (same_Some x e at) ∙ is)
among (x ∷ xs) (suc i) e o at is = let h = among xs i e o at is in (omega arith, h.1)

pub has_among : (es : List Ended) (o : laws.Outcome) → Has es o → Contains (map outcome_by es) o
has_among es o h = let a = among es h.1.0 h.0 o h.1.1 h.2 in (h.1.0, a.0, a.1)

-- one more, of which this is the outcome
pub outcomes_next : (old new : List Outcome) (o : Outcome) (es : List Ended) (n : ℕ) (e : Ended) → slice_get es n ≡ Some e → new ≡ old ++ o ∷ [] → outcome_of o ≡ outcome_by e → outcomes_of old ≡ map outcome_by (take n es) → outcomes_of new ≡ map outcome_by (take (n + 1) es)
outcomes_next old new o es n e at is same before =
    let one = ap outcomes_of is ∙ map_next outcome_of old o ∙ ap (λ p. outcomes_of old ++ p ∷ []) same in
    let two = ap (map outcome_by) (take_next es n e at) ∙ map_next outcome_by (take n es) e in
    one ∙ ap (λ os. os ++ outcome_by e ∷ []) before ∙ sym two

-- ---- the endings of what was found

-- the outcome of each state below this number that has ended is there
abbrev pub AreThere : Found → ℕ → List Ended → Type 0
AreThere f n es = (b : CodeBody) (o : laws.Outcome) (s : Shows b f o) → s.number < n → Has es o

-- the ending is that of the state of this number
abbrev pub IsEndingAt : Found → ℕ → Final → Ended → Type 0
IsEndingAt f n end e = (b : CodeBody) (d : Shown) → slice_get (states_of b f) n ≡ Some d → outcome_by e ≡ record { end = final_of end; output = d.output; errors = d.errors }

still_has : (old new : List Ended) → ((e : Ended) → Holds old e → Holds new e) → (o : laws.Outcome) → Has old o → Has new o
still_has old new keeps o h = (h.0, keeps h.0 h.1, h.2)

same_parts : (end : laws.Final) (output errors : List ℕ) (o : laws.Outcome) → end ≡ o.end → output ≡ o.output → errors ≡ o.errors → record { end = end; output = output; errors = errors } ≡ o
same_parts end output errors o p q r =
    let one : laws.Final → laws.Outcome = λ x. record { end = x; output = output; errors = errors } in
    let two : List ℕ → laws.Outcome = λ x. record { end = o.end; output = x; errors = errors } in
    let three : List ℕ → laws.Outcome = λ x. record { end = o.end; output = o.output; errors = x } in
    ap one p ∙ ap two q ∙ ap three r

-- how the state of a number has ended, by what it shows
kind_there : (b : CodeBody) (f : Found) (o : laws.Outcome) (s : Shows b f o) (n : ℕ) (k : Option Final) → slice_get f.kinds.items n ≡ Some k → s.number ≡ n → kind_of k ≡ Some o.end
kind_there b f o s n k at is =
    let m = mapped_there kind_of f.kinds.items s.number (Some o.end) s.end in
    let same : m.0 ≡ k = same_Some m.0 k (sym m.1 ∙ ap (slice_get f.kinds.items) is ∙ at) in
    ap kind_of (sym same) ∙ m.2

pub there_none : (f : Found) (n : ℕ) (es : List Ended) → slice_get f.kinds.items n ≡ Some None → AreThere f n es → AreThere f (n + 1) es
there_none f n es at h b o s below =
    ⊎_elim (λ (lt : s.number < n). h b o s lt) (λ (is : s.number ≡ n). absurd (let k = kind_there b f o s n None at is in let r : ⊥ = cc in r)) (below_or_last s.number n below)

pub there_more : (f : Found) (n : ℕ) (end : Final) (e : Ended) (old new : List Ended) → slice_get f.kinds.items n ≡ Some (Some end) → IsEndingAt f n end e → ((a : Ended) → Holds old a → Holds new a) → Has new (outcome_by e) → AreThere f n old → AreThere f (n + 1) new
there_more f n end e old new at is keeps has h b o s below =
    ⊎_elim (λ (lt : s.number < n). still_has old new keeps o (h b o s lt))
    (λ (same : s.number ≡ n).
    let k = kind_there b f o s n (Some end) at same in
    let ended : final_of end ≡ o.end = same_Some (final_of end) o.end k in
    let shown = is b s.state (ap (slice_get (states_of b f)) (sym same) ∙ s.is) in
    subst (Has new) (shown ∙ same_parts (final_of end) s.state.output s.state.errors o ended s.output s.errors) has) (below_or_last s.number n below)

pub there_all : (f : Found) (n : ℕ) (es : List Ended) → length f.kinds.items ≤ n → AreThere f n es → (b : CodeBody) (o : laws.Outcome) → Shows b f o → Has es o
there_all f n es all h b o s =
    let m = mapped_there kind_of f.kinds.items s.number (Some o.end) s.end in
    let below = slice_get_within f.kinds.items s.number m.0 m.1 in
    h b o s (omega (arith, below))
