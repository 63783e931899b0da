-- The first outcome of a list that is as one looks for.
use Rattle.std.proofs.Common.{ℕ, zero, suc, ◌+◌, ◌<◌, ◌≤◌, true, false, List, [], ◌∷◌, ◌++◌, length, refl, sym, ap, subst, arith}
use Rattle.std.specs.List.{AllByRecursion, AllWithin, HoldsAt, Contains}
use Rattle.std.proofs.lemmas.List.Elements.{recursion_from_All, All-map, All-from_all_within, AllWithin-upto, Contains-append_right}
use Rattle.outcome_laws.specs.Outcomes.{Outcome}
use Rattle.outcome_listing.specs.declared.explored.Outcome.{Outcome as Listed}
use Rattle.outcome_listing.specs.Finals.{outcome_of, outcomes_of}
use Rattle.claim_lines.specs.declared.claim.Part.{Part}
use Rattle.claim_lines.specs.Meaning.{Meets, MetIs}
use Rattle.claim_lines.specs.Verdicts.{IsFirst}

pub first_found : (Keeps Breaks : Outcome → Type 0) (os : List Listed) (i : ℕ) → i < length os → AllWithin (λ x. Keeps (outcome_of x)) os 0 i → HoldsAt (λ x. Breaks (outcome_of x)) os i → IsFirst Keeps Breaks (outcomes_of os) (i + 1)
first_found Keeps Breaks [] i less kept here = absurd (omega arith)
first_found Keeps Breaks (x ∷ os) zero less kept here = record {
  before = [];
  broken = outcome_of x;
  behind = outcomes_of os;
  split = refl;
  place = omega arith;
  kept = tt;
  breaks = here x;
}
first_found Keeps Breaks (x ∷ os) (suc i) less kept here =
    let rest = first_found Keeps Breaks os i (omega arith) (λ k d low high. kept (suc k) d (omega arith) (omega arith)) here in
    record {
      before = outcome_of x ∷ rest.before;
      broken = rest.broken;
      behind = rest.behind;
      split = ap (λ z. outcome_of x ∷ z) rest.split;
      place = omega (arith, rest.place);
      kept = (kept 0 x (omega arith) (omega arith), rest.kept);
      breaks = rest.breaks;
    }

pub none_found : (Keeps : Outcome → Type 0) (os : List Listed) (i : ℕ) → length os ≤ i → AllWithin (λ x. Keeps (outcome_of x)) os 0 i → AllByRecursion Keeps (outcomes_of os)
none_found Keeps os i all h =
    let upto = AllWithin-upto (λ x. Keeps (outcome_of x)) os 0 i (length os) all h in
    recursion_from_All Keeps (outcomes_of os) (All-map Keeps outcome_of os (All-from_all_within (λ x. Keeps (outcome_of x)) os upto))

pub some_meets : (parts : List Part) (os : List Outcome) (number : ℕ) → IsFirst (MetIs parts false) (MetIs parts true) os number → (o : Outcome) × Contains os o × Meets parts o
some_meets parts os number first =
    let there : Contains (first.before ++ first.broken ∷ first.behind) first.broken = Contains-append_right first.before (first.broken ∷ first.behind) first.broken (0, omega arith, refl) in
    (first.broken, subst (λ z. Contains z first.broken) (sym first.split) there, first.breaks)
