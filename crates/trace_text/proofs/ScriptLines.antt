-- The lines of a document, up to the first `script`.
use Rattle.std.proofs.Common.{◌≡◌, ◌≢◌, ℕ, zero, suc, ◌+◌, ◌-◌, ◌<◌, ◌≤◌, ◌==◌, List, [], ◌∷◌, ◌++◌, length, take, drop, get_or, Bool, true, false, Some, None, cond, refl, sym, ap, ◌∙◌, arith, ⊎_elim, inl, inr}
use Rattle.std.specs.List.{position, position_or_len}
use Rattle.std.proofs.lemmas.Bool.{cases_lt, lt-ltb}
use Rattle.std.proofs.lemmas.Bool.Decides.{Decides-eqb}
use Rattle.std.proofs.lemmas.List.{get_or-drop, get_or_past, take-append-drop, length-drop}
use Rattle.std.proofs.lemmas.List.Quantifiers.{position-Some}
use Rattle.std.proofs.lemmas.List.Sums.{fails_before_first}
use Rattle.std.proofs.lemmas.Slice.Eq.{starts_is}
use Rattle.std.specs.Cmp.Lexicographic.{pointwise}
use Rattle.std.proofs.Math.Dec.{eqb}
use Rattle.std.proofs.Math.Seq.{take-append_seam}
use Rattle.trace_text.specs.spelling.Traces.{BeginsLine, IsScriptLine, script_line}

-- a line begins at this place, and no line before it is `script`
pub record IsSearched (text : List ℕ) (begin : ℕ) : Type 0 where
  pub within : begin ≤ length text
  pub begins : BeginsLine text begin
  pub before : (at : ℕ) → IsScriptLine text at → begin ≤ at

pub searched_none : (text : List ℕ) → IsSearched text 0
searched_none text = record { within = omega arith; begins = inl refl; before = λ at h. omega arith }

is_ten : (b : ℕ) → (b == 10) ≡ true → b ≡ 10
is_ten b e = (Decides-eqb b 10).0 e

not_ten : (b : ℕ) → (b == 10) ≡ false → b ≢ 10
not_ten b e same = let yes : (b == 10) ≡ true = (Decides-eqb b 10).1 same in cc

-- no line begins between a place and behind the next line feed
next_begin : (text : List ℕ) (begin end at : ℕ) → position (λ b. b == 10) (drop begin text) ≡ Some end → BeginsLine text at → begin < at → begin + end + 1 ≤ at
next_begin text begin end at found (inl first) later = absurd (omega arith)
next_begin text begin end at found (inr behind) later =
    let p = position-Some (λ b. b == 10) (drop begin text) end 0 found in
    let k : ℕ = at - 1 - begin in
    let same : get_or (drop begin text) k 0 ≡ get_or text (begin + k) 0 = get_or-drop begin text k 0 in
    let place : begin + k ≡ at - 1 = omega arith in
    let ten : get_or (drop begin text) k 0 ≡ 10 = same ∙ (ap (λ i. get_or text i 0) place ∙ behind) in
    ⊎_elim (λ (h : k < end). absurd (not_ten (get_or (drop begin text) k 0) (p.2 k h) ten)) (λ (h : end ≤ k). let r : begin + end + 1 ≤ at = omega arith in r) (cases_lt k end)

-- past a line that isn't `script`
pub searched_more : (text : List ℕ) (begin end : ℕ) → IsSearched text begin → take 7 (drop begin text) ≢ script_line → position (λ b. b == 10) (drop begin text) ≡ Some end → IsSearched text (begin + (end + 1))
searched_more text begin end s other found =
    let p = position-Some (λ b. b == 10) (drop begin text) end 0 found in
    let ten : get_or text (begin + end) 0 ≡ 10 = sym (get_or-drop begin text end 0) ∙ is_ten (get_or (drop begin text) end 0) p.1 in
    let place : begin + end ≡ begin + (end + 1) - 1 = omega arith in
    record {
      within = omega (arith, p.0, length-drop begin text, s.within);
      begins = inr (ap (λ i. get_or text i 0) (sym place) ∙ ten);
      before = λ at h. ⊎_elim (λ (l : begin < at). let r : begin + (end + 1) ≤ at = omega (arith, next_begin text begin end at found h.begins l) in r)
          (λ (l : at ≤ begin). let same : at ≡ begin = omega (arith, s.before at h) in absurd (other (ap (λ i. take 7 (drop i text)) (sym same) ∙ h.line)))
          (cases_lt begin at);
    }

length_of_line : length script_line ≡ 7
unfolding script_line
length_of_line = refl

last_of_line : get_or script_line 6 0 ≡ 10
unfolding script_line
last_of_line = refl

take_place : (n i : ℕ) (xs : List ℕ) → i < n → get_or (take n xs) i 0 ≡ get_or xs i 0
take_place zero i xs h = absurd (omega arith)
take_place (suc n) i [] h = refl
take_place (suc n) zero (x ∷ xs) h = refl
take_place (suc n) (suc i) (x ∷ xs) h = take_place n i xs (omega arith)

no_position : (xs : List ℕ) → position (λ b. b == 10) xs ≡ None → length xs ≤ position_or_len (λ b. b == 10) xs
no_position xs e =
    let n : ℕ = position_or_len (λ b. b == 10) xs in
    ⊎_elim (λ (h : n < length xs). let found : position (λ b. b == 10) xs ≡ Some n = ap (λ b. cond b (Some n) None) (lt-ltb n (length xs) h) in absurd (let r : ⊥ = cc in r))
    (λ (h : length xs ≤ n). h)
    (cases_lt n (length xs))

-- where no line feed follows, no line is `script`
pub searched_all : (text : List ℕ) (begin : ℕ) → IsSearched text begin → position (λ b. b == 10) (drop begin text) ≡ None → (at : ℕ) → ¬ IsScriptLine text at
searched_all text begin s none at h =
    let later : begin ≤ at = s.before at h in
    let k : ℕ = at + 6 - begin in
    let place : begin + k ≡ at + 6 = omega arith in
    let ten : get_or (drop begin text) k 0 ≡ 10 =
    get_or-drop begin text k 0 ∙ (ap (λ i. get_or text i 0) place ∙ (sym (get_or-drop at text 6 0) ∙ (sym (take_place 7 6 (drop at text) (omega arith)) ∙ (ap (λ z. get_or z 6 0) h.line ∙ last_of_line)))) in
    let past = no_position (drop begin text) none in
    ⊎_elim (λ (l : k < length (drop begin text)). not_ten (get_or (drop begin text) k 0) (fails_before_first (λ b. b == 10) (drop begin text) k 0 (omega arith)) ten)
    (λ (l : length (drop begin text) ≤ k). omega (arith, ten, get_or_past (drop begin text) k 0 l))
    (cases_lt k (length (drop begin text)))

-- the code's test of a line
pub tested : (rest : List ℕ) (b : Bool) → b ≡ pointwise eqb script_line (take (length script_line) rest) → (b ≡ true → take 7 rest ≡ script_line) × (b ≡ false → take 7 rest ≢ script_line)
tested rest b e =
    let is = starts_is Decides-eqb rest script_line b e in (
      λ t. ap (λ k. take k rest) (sym length_of_line) ∙ (ap (take (length script_line)) (is.0 t) ∙ take-append_seam script_line (drop (length script_line) rest)),
      λ f same. let whole : rest ≡ script_line ++ drop 7 rest = sym (take-append-drop 7 rest) ∙ ap (λ z. z ++ drop 7 rest) same in let t : b ≡ true = is.1 (drop 7 rest) whole in cc,
    )
