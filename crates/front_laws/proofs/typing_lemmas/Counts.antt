-- How often a position stands in a list.
use Rattle.std.proofs.Common.{◌≡◌, ◌≢◌, ℕ, zero, suc, ◌+◌, ◌<◌, ◌≤◌, ◌&&◌, Bool, true, false, cond, List, [], ◌∷◌, ◌++◌, length, refl, sym, ap, ◌∙◌, subst, arith, eqb}
use Rattle.std.specs.Prelude.{AllPairs, Contains, slice_index_or}
use Rattle.std.proofs.lemmas.Bool.{eqb-true, eq-eqb, and_parts}
use Rattle.std.proofs.lemmas.List.Kept.{AllPairs-cons}
use Rattle.hs_base.specs.declared.pos.Pos.{Pos}

abbrev pub same_pos : Pos → Pos → Bool
same_pos q p = eqb q.line p.line && eqb q.col p.col

pub same_pos_true : (q p : Pos) → same_pos q p ≡ true → q ≡ p
same_pos_true q p h =
    let k = and_parts (eqb q.line p.line) (eqb q.col p.col) h in
    ap (λ z. record { line = z; col = q.col }) (eqb-true q.line p.line k.0) ∙ ap (λ z. record { line = p.line; col = z }) (eqb-true q.col p.col k.1)

pub same_pos_self : (p : Pos) → same_pos p p ≡ true
same_pos_self p = ap (λ z. z && eqb p.col p.col) (eq-eqb p.line p.line refl) ∙ eq-eqb p.col p.col refl

-- 1 where the two are the same, else 0
abbrev pub here : Pos → Pos → ℕ
here q p = cond (same_pos q p) 1 0

pub here_self : (p : Pos) → here p p ≡ 1
here_self p = ap (λ b. cond b 1 0) (same_pos_self p)

abbrev pub times : Pos → List Pos → ℕ
times q [] = 0
times q (p ∷ ps) = here q p + times q ps

pub times-append : (q : Pos) (xs ys : List Pos) → times q (xs ++ ys) ≡ times q xs + times q ys
times-append q [] ys = omega arith
times-append q (x ∷ xs) ys = omega (arith, times-append q xs ys)

-- a position of the list stands in it
pub times_at : (xs : List Pos) (k : ℕ) (d : Pos) → k < length xs → 1 ≤ times (slice_index_or xs k d) xs
times_at [] k d h = absurd (omega (arith, h))
times_at (x ∷ xs) zero d h = omega (arith, here_self x)
times_at (x ∷ xs) (suc k) d h = omega (arith, times_at xs k d (omega (arith, h)))

pub times_contains : (q : Pos) (xs : List Pos) → 1 ≤ times q xs → Contains xs q
times_contains q [] h = absurd (omega (arith, h))
times_contains q (x ∷ xs) h = elim (same_pos q x) as (λ b. same_pos q x ≡ b → 1 ≤ cond b 1 0 + times q xs → Contains (x ∷ xs) q) [
  | true ↦ λ w k. (zero, omega arith, sym (same_pos_true q x w))
  | false ↦ λ w k. let r = times_contains q xs (omega (arith, k)) in (suc r.0, omega (arith, r.1), r.2)
] refl h

-- what stands in a list once at most is in no two places
pub once_apart : (xs : List Pos) → ((q : Pos) → times q xs ≤ 1) → AllPairs (λ p q. p ≢ q) xs
once_apart [] h = λ i j d lt k. absurd (omega (arith, k))
once_apart (x ∷ xs) h =
    AllPairs-cons (λ p q. p ≢ q) x xs
    (λ k d lt e. omega (arith, h x, here_self x, subst (λ z. 1 ≤ times z xs) (sym e) (times_at xs k d lt)))
    (once_apart xs (λ q. omega (arith, h q)))
