-- The order of outcomes is total, and tells any two apart.
use Rattle.std.proofs.Common.{◌≡◌, ℕ, List, refl, sym, ap, ◌∙◌}
use Rattle.std.specs.declared.cmp.Ordering.{Ordering}
use Rattle.std.specs.declared.cmp.Ordering.TheVariants.{Less, Equal, Greater}
use Rattle.std.specs.Ordering.{is_eq, nat_cmp, ordering_then}
use Rattle.std.specs.Cmp.{IsTotalOrder}
use Rattle.std.specs.Cmp.Lexicographic.{slice_cmp, on_texts}
use Rattle.std.proofs.lemmas.Cmp.{nat_cmp_total, on_total, then_total}
use Rattle.std.proofs.lemmas.Map.Text.{is_eq-slice_cmp}
use Rattle.std.proofs.lemmas.Slice.Eq.{bytes_eq-Decides}
use Rattle.outcome_laws.specs.Outcomes.{Final, Done, Uncaught, Deadlock, Outcome, place_of, outcome_cmp}

pub outcome_total : IsTotalOrder outcome_cmp
outcome_total = then_total (on_total (λ (o : Outcome). place_of o.end) nat_cmp_total) (then_total (on_texts (λ (o : Outcome). o.output)) (on_texts (λ (o : Outcome). o.errors)))

both_equal : (a b : Ordering) → ordering_then a b ≡ Equal → (a ≡ Equal) × (b ≡ Equal)
both_equal Less b h = absurd (cc h)
both_equal Equal b h = (refl, h)
both_equal Greater b h = absurd (cc h)

same_place : (f g : Final) → nat_cmp (place_of f) (place_of g) ≡ Equal → f ≡ g
same_place Done Done h = refl
same_place Uncaught Uncaught h = refl
same_place Deadlock Deadlock h = refl
same_place _ _ h = absurd (cc h)

same_bytes : (xs ys : List ℕ) → slice_cmp nat_cmp xs ys ≡ Equal → xs ≡ ys
same_bytes xs ys h = (bytes_eq-Decides xs ys).0 (sym (is_eq-slice_cmp xs ys) ∙ ap is_eq h)

pub same_outcome : (o p : Outcome) → outcome_cmp o p ≡ Equal → o ≡ p
same_outcome o p h =
    let a = both_equal (nat_cmp (place_of o.end) (place_of p.end)) (ordering_then (slice_cmp nat_cmp o.output p.output) (slice_cmp nat_cmp o.errors p.errors)) h in
    let b = both_equal (slice_cmp nat_cmp o.output p.output) (slice_cmp nat_cmp o.errors p.errors) a.1 in
    ap (λ f. record { end = f; output = o.output; errors = o.errors }) (same_place o.end p.end a.0)
    ∙ (ap (λ x. record { end = p.end; output = x; errors = o.errors }) (same_bytes o.output p.output b.0) ∙ ap (λ x. record { end = p.end; output = p.output; errors = x }) (same_bytes o.errors p.errors b.1))
