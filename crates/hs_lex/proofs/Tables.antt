-- Rows of a table of texts.
use Rattle.std.proofs.Common.{◌≡◌, ◌≢◌, ℕ, zero, suc, ◌+◌, ◌<◌, ◌≤◌, List, [], ◌∷◌, ◌++◌, length, drop, get_or, eqb, Bool, true, false, Some, Option, refl, sym, ap, ◌∙◌, subst, arith, ⊎_elim}
use Rattle.std.proofs.lemmas.Bool.{cases_lt, false≢true}
use Rattle.std.specs.List.{starts_with}
use Rattle.std.proofs.lemmas.Bool.Decides.{Decides-eqb}
use Rattle.std.proofs.lemmas.Slice.Eq.{starts_is}
use denote.Ref.{Bor}
use Rattle.hs_lex.specs.Fronts.{IsCut, IsRow, NoneOf}

-- what the code reads past the end of a table
abbrev pub no_row : Bor (List ℕ)
no_row = record { ref_ptr = (0, 0); now = [] }

-- the row that was read
pub row_at : (table : List (Bor (List ℕ))) (i : ℕ) → i < length table → IsRow table i (get_or table i no_row).now
row_at [] i more = absurd (omega arith)
row_at (y ∷ ys) zero more = refl
row_at (y ∷ ys) (suc i) more = row_at ys i (omega arith)

pub row_within : (table : List (Bor (List ℕ))) (i : ℕ) (text : List ℕ) → IsRow table i text → i < length table
row_within [] i text e = absurd (cc)
row_within (y ∷ ys) zero text e = omega arith
row_within (y ∷ ys) (suc i) text e = let h : i < length ys = row_within ys i text e in omega arith

row_same : (table : List (Bor (List ℕ))) (i : ℕ) (a b : List ℕ) → IsRow table i a → IsRow table i b → a ≡ b
row_same table i a b h k = some (sym h ∙ k)
  where
    some : ◌≡◌ {A = Option (List ℕ)} (Some a) (Some b) → a ≡ b
    some e = cc

-- one more row that isn't the text
pub other_more : (table : List (Bor (List ℕ))) (i : ℕ) (row text : List ℕ) → IsRow table i row → (row ≡ text → ⊥) → ((n : ℕ) → n < i → ¬ IsRow table n text) → (n : ℕ) → n < i + 1 → ¬ IsRow table n text
other_more table i row text here differs before n less e =
    ⊎_elim (λ (h : n < i). before n h e)
    (λ (h : i ≤ n). let same : n ≡ i = omega arith in differs (row_same table i row text here (subst (λ k. IsRow table k text) same e)))
    (cases_lt n i)

pub other_all : (table : List (Bor (List ℕ))) (i : ℕ) (text : List ℕ) → length table ≤ i → ((n : ℕ) → n < i → ¬ IsRow table n text) → (n : ℕ) → ¬ IsRow table n text
other_all table i text past before n e = let within : n < length table = row_within table n text e in before n (omega arith) e

-- one more row that doesn't begin the rest
pub none_more : (table : List (Bor (List ℕ))) (i : ℕ) (row rest : List ℕ) → IsRow table i row → ((left : List ℕ) → row ++ left ≢ rest) → NoneOf i table rest → NoneOf (i + 1) table rest
none_more table i row rest here differs before m cs left less e whole =
    ⊎_elim (λ (h : m < i). before m cs left h e whole)
    (λ (h : i ≤ m). let same : m ≡ i = omega arith in
    let text : row ≡ cs = row_same table i row cs here (subst (λ k. IsRow table k cs) same e) in
    differs left (ap (λ z. z ++ left) text ∙ whole))
    (cases_lt m i)

-- a row that begins the rest, and one that doesn't
pub row_begins : (row rest : List ℕ) (b : Bool) → b ≡ starts_with eqb rest row → b ≡ true → IsCut rest (length row) row (drop (length row) rest)
row_begins row rest b e t = record { whole = sym ((starts_is Decides-eqb rest row b e).0 t); len = refl }

pub row_differs : (row rest : List ℕ) (b : Bool) → b ≡ starts_with eqb rest row → b ≡ false → (left : List ℕ) → row ++ left ≢ rest
row_differs row rest b e f left whole = false≢true (sym f ∙ (starts_is Decides-eqb rest row b e).1 left (sym whole))
