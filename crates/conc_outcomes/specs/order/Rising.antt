-- Ends of runs in the order of outcomes (own).
use Rattle.std.specs.Prelude.{◌≡◌, ◌<◌, ◌≤◌, ℕ, List, [], ◌∷◌, Some, slice_get}
use Rattle.std.specs.List.{AllByRecursion}
use Rattle.std.specs.declared.cmp.Ordering.TheVariants.{Less}
use Rattle.outcome_laws.specs.Outcomes.{Outcome, outcome_cmp}
use Rattle.outcome_listing.specs.Finals.{final_of}
use Rattle.conc_outcomes.specs.declared.order.ended.Ended.{Ended}

-- the outcome that it has
abbrev pub outcome_by : Ended → Outcome
outcome_by e = record { end = final_of e.end; output = e.out; errors = e.err }

-- the one comes before the other
abbrev pub IsBefore : Ended → Ended → Type 0
IsBefore a b = outcome_cmp (outcome_by a) (outcome_by b) ≡ Less

-- each comes before all that follow it
abbrev pub IsRising : List Ended → Type 0
IsRising [] = Unit {0}
IsRising (a ∷ bs) = AllByRecursion (IsBefore a) bs × IsRising bs

-- an ending stands in the list; one of this outcome does
abbrev pub Holds : List Ended → Ended → Type 0
Holds list e = (i : ℕ) × (slice_get list i ≡ Some e)

abbrev pub Has : List Ended → Outcome → Type 0
Has list o = (e : Ended) × Holds list e × (outcome_by e ≡ o)

-- those below a place come before it, and those from it on come behind it
abbrev pub AreBefore : List Ended → ℕ → Ended → Type 0
AreBefore list place e = (i : ℕ) (a : Ended) → i < place → slice_get list i ≡ Some a → IsBefore a e

abbrev pub AreBehind : List Ended → ℕ → Ended → Type 0
AreBehind list place e = (i : ℕ) (a : Ended) → place ≤ i → slice_get list i ≡ Some a → IsBefore e a

abbrev pub IsPlaceOf : List Ended → ℕ → Ended → Type 0
IsPlaceOf list place e = AreBefore list place e × AreBehind list place e
