-- What was measured, in counts: the rules that are broken from there on are the same.
use Rattle.std.proofs.Common.{◌≡◌, ℕ, zero, suc, ◌+◌, ◌<◌, ◌≤◌, ◌||◌, List, [], ◌∷◌, ◌++◌, Bool, true, false, cond, refl, sym, ap, ◌∙◌, arith, min, ltb}
use Rattle.std.proofs.lemmas.Bool.{ltb-true, lt-ltb}
use Rattle.rules_expansion.specs.trees.Programs.{Fn}
use Rattle.rules_expansion.specs.Sizes.{body_size}
use Rattle.rules_typing.specs.Typing.{large, Sig, Ctx}
use Rattle.rules_typing.specs.TypingSizes.{Extent, nil, worst_body, param_names}
use Rattle.rules_typing.specs.TypingScripts.{Measured, measured_with, none_of, head_faults}
use Rattle.typing_judge.specs.JudgingScripts.{def_faults, large_faults, faults_from, is_far, is_large}
use Rattle.typing_judge.proofs.Capped.{Same, SameTable}
use Rattle.hs_types.proofs.Worst.{same_worst, same_called}

abbrev pub SameAll : List Extent → List Extent → Type 0
SameAll [] [] = Unit {0}
SameAll (x ∷ xs) (y ∷ ys) = Same x y × SameAll xs ys
SameAll _ _ = ⊥

pub same_self : (xs : List Extent) → SameAll xs xs
same_self [] = tt
same_self (x ∷ xs) = (record { size = refl; height = refl }, same_self xs)

pub same_push : (xs ys : List Extent) (x y : Extent) → SameAll xs ys → Same x y → SameAll (xs ++ x ∷ []) (ys ++ y ∷ [])
same_push [] [] x y h k = (k, tt)
same_push [] (b ∷ ys) x y h k = absurd h
same_push (a ∷ xs) [] x y h k = absurd h
same_push (a ∷ xs) (b ∷ ys) x y h k = (h.0, same_push xs ys x y h.1 k)

same_table : (xs ys : List Extent) → SameAll xs ys → SameTable xs ys
same_table [] [] h k = record { size = refl; height = refl }
same_table [] (b ∷ ys) h k = absurd h
same_table (a ∷ xs) [] h k = absurd h
same_table (a ∷ xs) (b ∷ ys) h zero = h.0
same_table (a ∷ xs) (b ∷ ys) h (suc k) = same_table xs ys h.1 k

-- the same up to the greatest count
pub record SameMeasured (m n : Measured) : Type 0 where
  pub extents : SameAll m.extents n.extents
  pub total : min m.total 1000001 ≡ min n.total 1000001

ltb_by : (k a b : ℕ) → (k < a → k < b) → (k < b → k < a) → ltb k a ≡ ltb k b
ltb_by k a b p q = elim (ltb k a) as (λ t. ltb k a ≡ t → t ≡ ltb k b) [
  | true ↦ λ w. sym (lt-ltb k b (p (ltb-true k a w)))
  | false ↦ λ w. elim (ltb k b) as (λ t. ltb k b ≡ t → false ≡ t) [
    | true ↦ λ v. let z = lt-ltb k a (q (ltb-true k b v)) in cc
    | false ↦ λ v. refl
  ] refl
] refl

-- a limit below the greatest count
pub ltb_counted : (k a b : ℕ) → k ≤ 1000000 → min a 1000001 ≡ min b 1000001 → ltb k a ≡ ltb k b
ltb_counted k a b h e = ltb_by k a b (λ (l : k < a). omega arith) (λ (l : k < b). omega arith)

pub same_far : (x y : Extent) → Same x y → is_far x ≡ is_far y
same_far x y h = ap (λ t. t || ltb 1000 x.height) (ltb_counted 100000 x.size y.size (omega arith) h.size) ∙ ap (λ t. ltb 100000 y.size || t) (ltb_counted 1000 x.height y.height (omega arith) h.height)

-- by an extent and a total that are the same in counts
pub large_counted : (gs : List Sig) (m : Measured) (d : Fn) (x : Extent) (n : ℕ) → Same x (worst_body gs m.extents (param_names [] d.params) d.body) → min n 1000001 ≡ min (m.total + body_size d.body) 1000001
    → (is_far x || ltb 1000000 n) ≡ is_large gs m d
large_counted gs m d x n h e = let w = worst_body gs m.extents (param_names [] d.params) d.body in
    ap (λ t. t || ltb 1000000 n) (same_far x w h) ∙ ap (λ t. is_far w || t) (ltb_counted 1000000 n (m.total + body_size d.body) (omega arith) e)

sum_counted : (a b n : ℕ) → min a 1000001 ≡ min b 1000001 → min (a + n) 1000001 ≡ min (b + n) 1000001
sum_counted a b n e = omega arith

same_large : (gs : List Sig) (m n : Measured) (d : Fn) → SameMeasured m n → is_large gs m d ≡ is_large gs n d
same_large gs m n d h = large_counted gs n d (worst_body gs m.extents (param_names [] d.params) d.body) (m.total + body_size d.body)
    (same_worst gs m.extents n.extents (same_table m.extents n.extents h.extents) (param_names [] d.params) d.body) (sum_counted m.total n.total (body_size d.body) h.total)

same_cond : (b : Bool) (x y : Extent) → Same x y → Same (cond b x nil) (cond b y nil)
same_cond true x y h = h
same_cond false x y h = record { size = refl; height = refl }

same_with : (gs : List Sig) (m n : Measured) (d : Fn) → SameMeasured m n → SameMeasured (measured_with gs m d) (measured_with gs n d)
same_with gs m n d h = record {
  extents = same_push m.extents n.extents _ _ h.extents (same_cond (none_of (head_faults d)) _ _ (same_called gs m.extents n.extents (same_table m.extents n.extents h.extents) (param_names [] d.params) d.body));
  total = sum_counted m.total n.total (body_size d.body) h.total;
}

pub same_faults : (gs : List Sig) (m n : Measured) (k : ℕ) (ds : List Fn) → SameMeasured m n → faults_from gs m k ds ≡ faults_from gs n k ds
same_faults gs m n k [] h = refl
same_faults gs m n k (d ∷ ds) h = let c : Ctx = record { sigs = gs; here = k } in
    ap (λ b. (def_faults c d ++ cond (none_of (def_faults c d)) (cond b (large d.name.pos ∷ []) []) []) ++ faults_from gs (measured_with gs m d) (k + 1) ds) (same_large gs m n d h)
    ∙ ap (λ z. (def_faults c d ++ large_faults c n d) ++ z) (same_faults gs (measured_with gs m d) (measured_with gs n d) (k + 1) ds (same_with gs m n d h))
