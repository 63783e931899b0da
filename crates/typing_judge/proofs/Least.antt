-- The fault that is kept is one of those noted, and none comes before it.
use Rattle.std.proofs.Common.{◌≡◌, ℕ, ◌<◌, ◌≤◌, ◌||◌, ◌⊎◌, List, [], ◌∷◌, Bool, true, false, cond, Option, Some, None, refl, sym, ap, ◌∙◌, subst, arith, inl, inr, ⊎_elim, ltb}
use Rattle.std.proofs.lemmas.Bool.{ltb-true}
use Rattle.rules_typing.specs.Typing.{Fault}
use Rattle.rules_typing.specs.TypingFaults.{place, rank, Precedes, In}
use Rattle.typing_judge.specs.Least.{lower, before, lesser, least}

-- numbers in a row
abbrev Rows : ℕ → ℕ → ℕ → ℕ → ℕ → ℕ → Type 0
Rows a b c x y z = (a < x) ⊎ ((a ≡ x) × ((b < y) ⊎ ((b ≡ y) × (c ≤ z))))

rows_trans : (a b c x y z u v w : ℕ) → Rows a b c x y z → Rows x y z u v w → Rows a b c u v w
rows_trans a b c x y z u v w (inl h) (inl k) = inl (omega arith)
rows_trans a b c x y z u v w (inl h) (inr k) = let e : x ≡ u = k.0 in inl (omega arith)
rows_trans a b c x y z u v w (inr h) (inl k) = let e : a ≡ x = h.0 in inl (omega arith)
rows_trans a b c x y z u v w (inr h) (inr k) =
    inr (
      h.0 ∙ k.0,
      ⊎_elim (λ (p : b < y). ⊎_elim (λ (q : y < v). inl (omega arith)) (λ (q : (y ≡ v) × (z ≤ w)). inl (omega arith)) k.1)
          (λ (p : (b ≡ y) × (c ≤ z)). ⊎_elim (λ (q : y < v). inl (omega arith)) (λ (q : (y ≡ v) × (z ≤ w)). inr (p.0 ∙ q.0, omega arith)) k.1) h.1,
    )

rows_self : (a b c : ℕ) → Rows a b c a b c
rows_self a b c = inr (refl, inr (refl, omega arith))

-- the test, at numbers
tested : ℕ → ℕ → ℕ → ℕ → ℕ → ℕ → Bool
tested a b c x y z = lower a x (lower b y (ltb c z))

pub lower_true : (m n : ℕ) (b : Bool) → lower m n b ≡ true → (m < n) ⊎ ((m ≡ n) × (b ≡ true))
lower_true m n b h = elim (ltb m n) as (λ t. ltb m n ≡ t → (t || cond (ltb n m) false b) ≡ true → (m < n) ⊎ ((m ≡ n) × (b ≡ true))) [
  | true ↦ λ w k. inl (ltb-true m n w)
  | false ↦ λ w. elim (ltb n m) as (λ t. ltb n m ≡ t → (false || cond t false b) ≡ true → (m < n) ⊎ ((m ≡ n) × (b ≡ true))) [
    | true ↦ λ v k. let z : false ≡ true = k in cc
    | false ↦ λ v k. inr (grind arith, k)
  ] refl
] refl h

pub lower_false : (m n : ℕ) (b : Bool) → lower m n b ≡ false → (n < m) ⊎ ((n ≡ m) × (b ≡ false))
lower_false m n b h = elim (ltb m n) as (λ t. ltb m n ≡ t → (t || cond (ltb n m) false b) ≡ false → (n < m) ⊎ ((n ≡ m) × (b ≡ false))) [
  | true ↦ λ w k. let z : true ≡ false = k in cc
  | false ↦ λ w. elim (ltb n m) as (λ t. ltb n m ≡ t → (false || cond t false b) ≡ false → (n < m) ⊎ ((n ≡ m) × (b ≡ false))) [
    | true ↦ λ v k. inl (ltb-true n m v)
    | false ↦ λ v k. inr (grind arith, k)
  ] refl
] refl h

before_true : (f g : Fault) → before f g ≡ true → Precedes f g
before_true f g h =
    ⊎_elim (λ p. inl p) (λ p. inr (p.0, ⊎_elim (λ q. inl q) (λ q. inr (q.0, let l = ltb-true (rank f) (rank g) q.1 in omega arith)) (lower_true (place f).col (place g).col (ltb (rank f) (rank g)) p.1)))
    (lower_true (place f).line (place g).line (lower (place f).col (place g).col (ltb (rank f) (rank g))) h)

before_false : (f g : Fault) → before f g ≡ false → Precedes g f
before_false f g h =
    ⊎_elim (λ p. inl p) (λ p. inr (p.0, ⊎_elim (λ q. inl q) (λ q. inr (q.0, let e : ltb (rank f) (rank g) ≡ false = q.1 in grind arith)) (lower_false (place f).col (place g).col (ltb (rank f) (rank g)) p.1)))
    (lower_false (place f).line (place g).line (lower (place f).col (place g).col (ltb (rank f) (rank g))) h)

pub precedes_trans : (f g h : Fault) → Precedes f g → Precedes g h → Precedes f h
precedes_trans f g h p q = rows_trans (place f).line (place f).col (rank f) (place g).line (place g).col (rank g) (place h).line (place h).col (rank h) p q

pub precedes_self : (f : Fault) → Precedes f f
precedes_self f = rows_self (place f).line (place f).col (rank f)

lesser_new : (o : Option Fault) (x : Fault) → Precedes (lesser o x) x
lesser_new None x = precedes_self x
lesser_new (Some g) x = elim (before x g) as (λ b. before x g ≡ b → Precedes (cond b x g) x) [ true ↦ λ w. precedes_self x | false ↦ λ w. before_false x g w ] refl

lesser_old : (g x : Fault) → Precedes (lesser (Some g) x) g
lesser_old g x = elim (before x g) as (λ b. before x g ≡ b → Precedes (cond b x g) g) [ true ↦ λ w. before_true x g w | false ↦ λ w. precedes_self g ] refl

lesser_is : (o : Option Fault) (x : Fault) → (o ≡ Some (lesser o x)) ⊎ (lesser o x ≡ x)
lesser_is None x = inr refl
lesser_is (Some g) x = elim (before x g) as (λ b. (Some g ≡ Some (cond b x g)) ⊎ (cond b x g ≡ x)) [ true ↦ inr refl | false ↦ inl refl ]

-- the kept one is noted or was kept, and comes before all
pub least_is : (fs : List Fault) (o : Option Fault) (f : Fault) → least o fs ≡ Some f
    → ((o ≡ Some f) ⊎ In fs f) × ((g : Fault) → o ≡ Some g → Precedes f g) × ((g : Fault) → In fs g → Precedes f g)
least_is [] o f h = (inl h, λ g e. let k : Some f ≡ Some g = sym h ∙ e in let q : f ≡ g = cc in subst (λ z. Precedes f z) q (precedes_self f), λ g e. absurd e)
least_is (x ∷ xs) o f h =
    let r = least_is xs (Some (lesser o x)) f h in (
      ⊎_elim (λ e. let k : f ≡ lesser o x = cc in ⊎_elim (λ w. inl (w ∙ ap Some (sym k))) (λ w. inr (inl (k ∙ w))) (lesser_is o x)) (λ w. inr (inr w)) r.0,
      λ g e. precedes_trans f (lesser o x) g (r.1 (lesser o x) refl) (subst (λ z. Precedes (lesser z x) g) (sym e) (lesser_old g x)),
      λ g w. ⊎_elim (λ e. subst (λ z. Precedes f z) (sym e) (precedes_trans f (lesser o x) x (r.1 (lesser o x) refl) (lesser_new o x))) (λ v. r.2 g v) w,
    )

pub none_some : (xs : List Fault) (g : Fault) → least (Some g) xs ≡ None → ⊥
none_some [] g h = cc
none_some (x ∷ xs) g h = none_some xs (lesser (Some g) x) h

pub least_none : (fs : List Fault) (o : Option Fault) → least o fs ≡ None → (f : Fault) → In fs f → ⊥
least_none [] o h f w = w
least_none (x ∷ xs) o h f w = none_some xs (lesser o x) h
