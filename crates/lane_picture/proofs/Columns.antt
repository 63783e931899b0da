-- The spans of a lane with one more column.
use Rattle.std.proofs.Common.{◌≡◌, ℕ, ◌+◌, ◌==◌, cond, ◌&&◌, Bool, true, false, List, [], ◌∷◌, ◌++◌, length, map, take, Option, Some, None, refl, sym, ap, ◌∙◌, arith, ◌<◌, get_or, length-take}
use Rattle.std.proofs.lemmas.Bool.{eqb-true, and_parts}
use Rattle.std.proofs.lemmas.List.{map-append, length-map, take_more}
use Rattle.hs_base.specs.declared.mask.Mask.{Mask}
use Rattle.hs_base.specs.declared.mask.Mask.TheVariants.{Unmasked, Masked, Uninterruptible}
use Rattle.lane_picture.specs.declared.film.Doing.{Doing}
use Rattle.lane_picture.specs.declared.film.Doing.TheVariants.{Running, Taking, Reading, Putting, Throwing, Sleeping}
use Rattle.lane_picture.specs.declared.film.Look.{Look}
use Rattle.lane_picture.specs.declared.film.Look.TheVariants as look
use Rattle.lane_picture.specs.declared.spans.Span.{Span}
use Rattle.lane_picture.specs.Marks.{span, same_doing, same_mask, same_bool, same_look, with_column, spans_from, spans_of}
use Rattle.lane_picture.specs.Growing.{with_next, next_look}

-- ---- at the end of a list
pub next_behind : (n : ℕ) (l : Look) (ss : List Span) (s : Span) → with_next n l (ss ++ s ∷ []) ≡ ss ++ with_next n l (s ∷ [])
next_behind n l [] s = refl
next_behind n l (r ∷ []) s = refl
next_behind n l (r ∷ q ∷ qs) s = ap (λ z. r ∷ z) (next_behind n l (q ∷ qs) s)

-- ---- what the tests say

doing_is : (a b : Doing) → same_doing a b ≡ true → a ≡ b
doing_is Running Running e = refl
doing_is (Taking m) (Taking n) e = ap (λ x. Taking x) (eqb-true m n e)
doing_is (Reading m) (Reading n) e = ap (λ x. Reading x) (eqb-true m n e)
doing_is (Putting m) (Putting n) e = ap (λ x. Putting x) (eqb-true m n e)
doing_is (Throwing m) (Throwing n) e = ap (λ x. Throwing x) (eqb-true m n e)
doing_is (Sleeping m) (Sleeping n) e = ap (λ x. Sleeping x) (eqb-true m n e)
doing_is _ _ e = absurd (cc e)

mask_is : (a b : Mask) → same_mask a b ≡ true → a ≡ b
mask_is Unmasked Unmasked e = refl
mask_is Masked Masked e = refl
mask_is Uninterruptible Uninterruptible e = refl
mask_is _ _ e = absurd (cc e)

bool_is : (a b : Bool) → same_bool a b ≡ true → a ≡ b
bool_is true b e = sym e
bool_is false true e = absurd (cc e)
bool_is false false e = refl

pub look_is : (a b : Look) → same_look a b ≡ true → a ≡ b
look_is (look.Thread p) (look.Thread q) e =
    let h = and_parts (same_doing p.doing q.doing) (same_mask p.mask q.mask) e in
    let d = doing_is p.doing q.doing h.0 in
    let m = mask_is p.mask q.mask h.1 in
    λ i. look.Thread (record { doing = d i; mask = m i })
look_is (look.Cell a) (look.Cell b) e = ap (λ x. look.Cell x) (bool_is a b e)
look_is (look.Thread p) (look.Cell b) e = absurd (cc e)
look_is (look.Cell a) (look.Thread q) e = absurd (cc e)

-- ---- a column before, and a column behind
module _ (k n : ℕ) (a l : Look) where
  first : (b : Bool) → (((n == k + 1) && same_look a l) ≡ b) →
      cond {A = List Span} b (span k (n + 1) l ∷ []) (span k (k + 1) a ∷ span n (n + 1) l ∷ []) ≡ cond b (span k (n + 1) a ∷ []) (span k (k + 1) a ∷ span n (n + 1) l ∷ [])
  first true e = let same = look_is a l (and_parts (n == k + 1) (same_look a l) e).1 in ap (λ z. span k (n + 1) z ∷ []) (sym same)
  first false e = refl

  one : (s : Span) (e b : Bool) → e ≡ ((n == s.to) && same_look s.look l) → b ≡ ((s.from == k + 1) && same_look a s.look) →
      with_column k (Some a) (cond e (span s.from (n + 1) s.look ∷ []) (s ∷ span n (n + 1) l ∷ [])) ≡ with_next n l (cond b (span k s.to s.look ∷ []) (span k (k + 1) a ∷ s ∷ []))
  one s true true e b = ap (λ z. cond z (span k (n + 1) s.look ∷ []) (span k (k + 1) a ∷ span s.from (n + 1) s.look ∷ [])) (sym b) ∙ ap (λ z. cond z (span k (n + 1) s.look ∷ []) (span k s.to s.look ∷ span n (n + 1) l ∷ [])) e
  one s true false e b = ap (λ z. cond z (span k (n + 1) s.look ∷ []) (span k (k + 1) a ∷ span s.from (n + 1) s.look ∷ [])) (sym b) ∙ ap (λ z. span k (k + 1) a ∷ cond z (span s.from (n + 1) s.look ∷ []) (s ∷ span n (n + 1) l ∷ [])) e
  one s false true e b = ap (λ z. cond z (span k s.to s.look ∷ span n (n + 1) l ∷ []) (span k (k + 1) a ∷ s ∷ span n (n + 1) l ∷ [])) (sym b) ∙ ap (λ z. cond z (span k (n + 1) s.look ∷ []) (span k s.to s.look ∷ span n (n + 1) l ∷ [])) e
  one s false false e b = ap (λ z. cond z (span k s.to s.look ∷ span n (n + 1) l ∷ []) (span k (k + 1) a ∷ s ∷ span n (n + 1) l ∷ [])) (sym b) ∙ ap (λ z. span k (k + 1) a ∷ cond z (span s.from (n + 1) s.look ∷ []) (s ∷ span n (n + 1) l ∷ [])) e

  many : (s r : Span) (rs : List Span) (b : Bool) →
      cond b (span k s.to s.look ∷ with_next n l (r ∷ rs)) (span k (k + 1) a ∷ s ∷ with_next n l (r ∷ rs)) ≡ with_next n l (cond b (span k s.to s.look ∷ r ∷ rs) (span k (k + 1) a ∷ s ∷ r ∷ rs))
  many s r rs true = refl
  many s r rs false = refl

commute : (k n : ℕ) (a : Option Look) (l : Look) (ss : List Span) → with_column k a (with_next n l ss) ≡ with_next n l (with_column k a ss)
commute k n None l ss = refl
commute k n (Some a) l [] = first k n a l ((n == k + 1) && same_look a l) refl
commute k n (Some a) l (s ∷ []) = one k n a l s ((n == s.to) && same_look s.look l) ((s.from == k + 1) && same_look a s.look) refl refl
commute k n (Some a) l (s ∷ r ∷ rs) = many k n a l s r rs ((s.from == k + 1) && same_look a s.look)

commute_look : (k n : ℕ) (a l : Option Look) (ss : List Span) → with_column k a (next_look n l ss) ≡ next_look n l (with_column k a ss)
commute_look k n a None ss = refl
commute_look k n a (Some l) ss = commute k n a l ss

alone : (k : ℕ) (x : Option Look) → with_column k x [] ≡ next_look k x []
alone k None = refl
alone k (Some l) = refl

pub spans_more : (k : ℕ) (xs : List (Option Look)) (x : Option Look) → spans_from k (xs ++ x ∷ []) ≡ next_look (k + length xs) x (spans_from k xs)
spans_more k [] x = alone k x ∙ ap (λ n. next_look n x []) (omega arith)
spans_more k (y ∷ ys) x =
    ap (with_column k y) (spans_more (k + 1) ys x ∙ ap (λ n. next_look n x (spans_from (k + 1) ys)) (omega arith))
    ∙ commute_look k (k + length (y ∷ ys)) y x (spans_from (k + 1) ys)

-- the same by whether the last span is joined
pub extended : (n : ℕ) (l : Look) (old rest : List Span) (s : Span) (b : Bool) → old ≡ rest ++ s ∷ [] → b ≡ ((n == s.to) && same_look s.look l) → with_next n l old ≡ rest ++ cond b (span s.from (n + 1) s.look ∷ []) (s ∷ span n (n + 1) l ∷ [])
extended n l old rest s b is e = ap (with_next n l) is ∙ (next_behind n l rest s ∙ ap (λ z. rest ++ cond z (span s.from (n + 1) s.look ∷ []) (s ∷ span n (n + 1) l ∷ [])) (sym e))

-- the columns of a lane, one more
pub lane_more : {A : Type 0} (f : A → Option Look) (xs : List A) (x : A) → spans_of (map f (xs ++ x ∷ [])) ≡ next_look (length xs) (f x) (spans_of (map f xs))
lane_more f xs x =
    ap spans_of (map-append f xs (x ∷ []))
    ∙ (spans_more 0 (map f xs) (f x)
    ∙ ap (λ n. next_look n (f x) (spans_of (map f xs))) (simp length-map (omega arith)))

pub lane_at : {A : Type 0} (f : A → Option Look) (xs : List A) (i : ℕ) (d : A) → i < length xs → spans_of (map f (take (i + 1) xs)) ≡ next_look i (f (get_or xs i d)) (spans_of (map f (take i xs)))
lane_at f xs i d h =
    ap (λ z. spans_of (map f z)) (take_more xs i d h)
    ∙ (lane_more f (take i xs) (get_or xs i d)
    ∙ ap (λ n. next_look n (f (get_or xs i d)) (spans_of (map f (take i xs)))) (simp length-take (omega arith)))
