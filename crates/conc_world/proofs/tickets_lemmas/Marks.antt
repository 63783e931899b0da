-- Lists of tickets that stand once.
use Rattle.std.proofs.Common.{◌≡◌, ◌≢◌, ℕ, Bool, true, false, cond, ◌&&◌, ◌==◌, not, List, [], ◌∷◌, nat_eq, Option, is_some, IsSome, ◌++◌, ◌||◌, ◌+◌, ◌≤◌, ◌<◌, All, length, arith, refl, ap, sym, ◌∙◌, eq-eqb, inl, inr}
use Rattle.std.specs.List.{filter, list_any, IsDistinct, AllByRecursion}
use Rattle.std.specs.Map.{lookup}
use Rattle.std.specs.Set.{is_member}
use Rattle.std.proofs.lemmas.Bool.{cases_eq, both_ways, eqb-true, ne_eqb, and_right}
use Rattle.std.proofs.lemmas.Cmp.{nat_eq_equiv}
use Rattle.std.proofs.lemmas.Map.Made.{is_member-filter}
use Rattle.std.proofs.lemmas.Map.Keys.{IsDistinct-head, IsDistinct-tail, IsDistinct-cons, IsDistinct-push}
use Rattle.std.proofs.lemmas.Map.Steps.{length-le_from_keys}
use Rattle.std.proofs.lemmas.List.{length_push}
use Rattle.std.proofs.lemmas.List.Elements.{All-weaker}
use Rattle.std.proofs.lemmas.List.Folds.{list_any-append, list_any_none}

-- what passes a test has what all have
All-filter : (P : ℕ → Type 0) (p : ℕ → Bool) (ks : List ℕ) → AllByRecursion P ks → AllByRecursion P (filter p ks)
All-filter P p [] a = a
All-filter P p (k ∷ ks) a = elim (p k) as (λ b. AllByRecursion P (cond b (k ∷ filter p ks) (filter p ks))) [ true ↦ (a.0, All-filter P p ks a.1) | false ↦ All-filter P p ks a.1 ]

-- what passes a test still stands once
pub IsDistinct-filter : (p : ℕ → Bool) (ks : List ℕ) → IsDistinct nat_eq ks → IsDistinct nat_eq (filter p ks)
IsDistinct-filter p [] d = d
IsDistinct-filter p (k ∷ ks) d =
    let once = IsDistinct-filter p ks (IsDistinct-tail nat_eq k ks d) in
    let head = All-filter (λ q. nat_eq k q ≡ false) p ks (IsDistinct-head nat_eq k ks d) in
    elim (p k) as (λ b. IsDistinct nat_eq (cond b (k ∷ filter p ks) (filter p ks))) [ true ↦ IsDistinct-cons nat_eq k (filter p ks) head once | false ↦ once ]

-- ---- a ticket is taken out
abbrev pub without : ℕ → List ℕ → List ℕ
without k ks = filter (λ q. not (q == k)) ks

-- which tickets are still there
still : (k : ℕ) (ks : List ℕ) (q : ℕ) → is_member nat_eq (without k ks) q ≡ (is_member nat_eq ks q && not (q == k))
still k ks q = is_member-filter nat_eq_equiv (λ x. not (x == k)) q (λ x e. ap (λ y. not (y == k)) (eqb-true q x e)) ks

pub taken_out : (k : ℕ) (ks : List ℕ) → is_member nat_eq (without k ks) k ≡ false
taken_out k ks = still k ks k ∙ and_right (is_member nat_eq ks k) (not (k == k)) (ap not (eq-eqb k k refl))

pub others_stay : (k : ℕ) (ks : List ℕ) (q : ℕ) → q ≢ k → is_member nat_eq (without k ks) q ≡ is_member nat_eq ks q
others_stay k ks q ne = still k ks q ∙ ap (λ b. is_member nat_eq ks q && not b) (ne_eqb q k ne) ∙ elim (is_member nat_eq ks q) as (λ b. (b && true) ≡ b) [ true ↦ refl | false ↦ refl ]

-- what is marked is still out where one comes back with its mark
pub fewer_out : {A : Type 0} (was now : ℕ → Bool) (jobs jobs' : ℕ → Option A) (k : ℕ) → ((q : ℕ) → was q ≡ true → IsSome (jobs q)) → now k ≡ false → ((q : ℕ) → q ≢ k → now q ≡ was q) → ((q : ℕ) → q ≢ k → jobs' q ≡ jobs q) → (q : ℕ) → now q ≡ true → IsSome (jobs' q)
fewer_out was now jobs jobs' k out gone marks others q marked =
    elim (cases_eq q k) [
      | inl e ↦ absurd (both_ways (now q) (ap now e ∙ gone) marked)
      | inr ne ↦ ap is_some (others q ne) ∙ out q (sym (marks q ne) ∙ marked)
    ]

-- ---- a ticket is put in
-- `contains` compares the other way round
contains_is : (k : ℕ) (ks : List ℕ) → list_any (λ q. nat_eq q k) ks ≡ is_member nat_eq ks k
contains_is k [] = refl
contains_is k (q ∷ ks) = ap (λ b. b || list_any (λ q. nat_eq q k) ks) (nat_eq_equiv.symm q k) ∙ ap (λ b. nat_eq k q || b) (contains_is k ks)

-- a ticket that `contains` doesn't find
pub not_there : (k : ℕ) (ks ls : List ℕ) (found : Bool) → ls ≡ ks → found ≡ list_any (λ q. nat_eq q k) ls → found ≡ false → is_member nat_eq ks k ≡ false
not_there k ks ls found same is none = sym (contains_is k ks) ∙ ap (list_any (λ q. nat_eq q k)) (sym same) ∙ sym is ∙ none

-- what is marked is still out where one that is out is marked
pub more_out : {A : Type 0} (was now : ℕ → Bool) (jobs : ℕ → Option A) (k : ℕ) → ((q : ℕ) → was q ≡ true → IsSome (jobs q)) → IsSome (jobs k) → ((q : ℕ) → q ≢ k → now q ≡ was q) → (q : ℕ) → now q ≡ true → IsSome (jobs q)
more_out was now jobs k out here marks q marked =
    elim (cases_eq q k) [
      | inl e ↦ ap (λ x. is_some (jobs x)) e ∙ here
      | inr ne ↦ out q (sym (marks q ne) ∙ marked)
    ]

others_before : (k : ℕ) (ks : List ℕ) (q : ℕ) → q ≢ k → is_member nat_eq (ks ++ k ∷ []) q ≡ is_member nat_eq ks q
others_before k ks q ne = list_any-append (nat_eq q) ks (k ∷ []) ∙ ap (λ b. is_member nat_eq ks q || (b || false)) (ne_eqb q k ne) ∙ elim (is_member nat_eq ks q) as (λ b. (b || false) ≡ b) [ true ↦ refl | false ↦ refl ]

-- where a ticket that is out isn't marked, fewer are marked than are out
pub fewer_marked : {X : Type 0} (ks : List ℕ) (es : List (ℕ × X)) (k : ℕ) → IsDistinct nat_eq ks → ((q : ℕ) → is_member nat_eq ks q ≡ true → IsSome (lookup (nat_eq q) es)) → is_member nat_eq ks k ≡ false → IsSome (lookup (nat_eq k) es) → length ks + 1 ≤ length es
fewer_marked ks es k once out new here =
    let le = length-le_from_keys nat_eq_equiv (ks ++ k ∷ []) es (IsDistinct-push nat_eq_equiv ks k once new) (more_out (is_member nat_eq ks) (is_member nat_eq (ks ++ k ∷ [])) (λ q. lookup (nat_eq q) es) k out here (others_before k ks)) in
    omega (arith, le, length_push ks k)

-- ---- the least ticket
pub none_below : (k : ℕ) (ks : List ℕ) (q : ℕ) → All (λ x. k ≤ x) ks → q < k → is_member nat_eq ks q ≡ false
none_below k ks q all lt = list_any_none (nat_eq q) ks (All-weaker (λ x. k ≤ x) (λ x. nat_eq q x ≡ false) (λ x le. ne_eqb q x (λ e. omega (arith, e, le, lt))) ks all)
