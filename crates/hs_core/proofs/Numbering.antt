-- The numbers of action functions by the index of their names.
use Rattle.std.proofs.Common.{◌≡◌, ℕ, suc, ◌+◌, ◌<◌, List, [], ◌∷◌, ◌++◌, length, take, get_or, Bool, true, false, cond, Option, Some, None, bytes_eq, refl, ap, ◌∙◌, sym, arith}
use Rattle.std.specs.Option.{unwrap_or}
use Rattle.std.proofs.Math.Seq.{take-suc}
use Rattle.plain_laws.proofs.Lists.{bytes_eq_sym}
use Rattle.hs_index.specs.Indexing.{next, first_among}
use Rattle.hs_core.specs.Numbering.{index_among}

one_more : (b : Bool) (o : Option ℕ) (n : ℕ) → cond b 0 (1 + unwrap_or o n) ≡ unwrap_or (cond b (Some 0) (next o)) (suc n)
one_more true o n = refl
one_more false None n = omega arith
one_more false (Some k) n = omega arith

-- the place of the first such name, or behind the last
pub among_is : (xs : List (List ℕ)) (f : List ℕ) → index_among xs f ≡ unwrap_or (first_among xs f) (length xs)
among_is [] f = refl
among_is (x ∷ xs) f =
    ap (λ z. cond (bytes_eq f x) 0 (1 + z)) (among_is xs f)
    ∙ (ap (λ b. cond b 0 (1 + unwrap_or (first_among xs f) (length xs))) (bytes_eq_sym f x) ∙ one_more (bytes_eq x f) (first_among xs f) (length xs))

-- one name more of those in front
pub take_more : (xs : List (List ℕ)) (i j : ℕ) (x : List ℕ) → j ≡ i + 1 → i < length xs → x ≡ get_or xs i x → take i xs ++ x ∷ [] ≡ take j xs
take_more xs i j x e l is = sym (ap (λ n. take n xs) (let z : j ≡ suc i = omega arith in z) ∙ (take-suc xs i x l ∙ ap (λ z. take i xs ++ z ∷ []) (sym is)))
