-- A list cut behind some elements.
use Rattle.std.proofs.Common.{◌≡◌, ℕ, zero, suc, ◌+◌, ◌<◌, ◌≤◌, List, [], ◌∷◌, ◌++◌, length, take, drop, get_or, Bool, true, refl, sym, ap, ◌∙◌, arith, append_assoc, length-append, drop-cons, add-one}
use Rattle.std.proofs.Math.Seq.{take-append_seam, drop-append_seam}
use Rattle.hs_lex.specs.Fronts.{IsCut, Begins}

pub cut_take : (rest : List ℕ) (n : ℕ) (front after : List ℕ) → IsCut rest n front after → take n rest ≡ front
cut_take rest n front after cut = ap (take n) (sym cut.whole) ∙ (ap (λ k. take k (front ++ after)) (sym cut.len) ∙ take-append_seam front after)

pub cut_drop : (rest : List ℕ) (n : ℕ) (front after : List ℕ) → IsCut rest n front after → drop n rest ≡ after
cut_drop rest n front after cut = ap (drop n) (sym cut.whole) ∙ (ap (λ k. drop k (front ++ after)) (sym cut.len) ∙ drop-append_seam front after)

pub cut_within : (rest : List ℕ) (n : ℕ) (front after : List ℕ) → IsCut rest n front after → n ≤ length rest
cut_within rest n front after cut =
    let all : length front + length after ≡ length rest = sym (length-append front after) ∙ ap length cut.whole in
    let len : length front ≡ n = cut.len in
    omega arith

-- the front takes the first of what follows it
pub cut_one : (rest : List ℕ) (n : ℕ) (front : List ℕ) (c : ℕ) (after : List ℕ) → IsCut rest n front (c ∷ after) → IsCut rest (n + 1) (front ++ c ∷ []) after
cut_one rest n front c after cut = record {
  whole = append_assoc front (c ∷ []) after ∙ cut.whole;
  len = let len : length front ≡ n = cut.len in omega (arith, length-append front (c ∷ []));
}

pub cut_two : (rest : List ℕ) (n : ℕ) (front : List ℕ) (b c : ℕ) (after : List ℕ) → IsCut rest n front (b ∷ c ∷ after) → IsCut rest (n + 2) (front ++ b ∷ c ∷ []) after
cut_two rest n front b c after cut = record {
  whole = append_assoc front (b ∷ c ∷ []) after ∙ cut.whole;
  len = let len : length front ≡ n = cut.len in omega (arith, length-append front (b ∷ c ∷ []));
}

-- what follows begins with the element at that place
pub cut_head : (rest : List ℕ) (n : ℕ) (front after : List ℕ) → IsCut rest n front after → n < length rest → after ≡ get_or rest n 0 ∷ drop (n + 1) rest
cut_head rest n front after cut within = sym (cut_drop rest n front after cut) ∙ (drop-cons rest n 0 within ∙ ap (λ k. get_or rest n 0 ∷ drop k rest) (sym (add-one n)))

pub cut_end : (rest : List ℕ) (n : ℕ) (front after : List ℕ) → IsCut rest n front after → length rest ≤ n → after ≡ []
cut_end rest n front [] cut past = refl
cut_end rest n front (c ∷ after) cut past =
    let all : length front + length (c ∷ after) ≡ length rest = sym (length-append front (c ∷ after)) ∙ ap length cut.whole in
    let len : length front ≡ n = cut.len in
    absurd (omega arith)

-- the first element
pub begins_from : (p : ℕ → Bool) (rest : List ℕ) → 0 < length rest → p (get_or rest 0 0) ≡ true → Begins p rest
begins_from p [] more e = absurd (omega arith)
begins_from p (c ∷ cs) more e = e

-- an item that was read from a list
pub item_at : (xs : List ℕ) (i x : ℕ) → i < length xs → x ≡ get_or xs i x → get_or xs i 0 ≡ x
item_at [] i x more e = absurd (omega arith)
item_at (y ∷ ys) zero x more e = sym e
item_at (y ∷ ys) (suc i) x more e = item_at ys i x (omega arith) e
