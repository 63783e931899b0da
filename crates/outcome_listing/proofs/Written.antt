-- Texts that are written piece by piece.
use Rattle.std.proofs.Common.{◌≡◌, ◌≢◌, ℕ, zero, suc, ◌+◌, ◌<◌, ◌==◌, Bool, false, List, [], ◌∷◌, ◌++◌, length, get_or, OnOk, Result, Ok, Err, refl, sym, ap, ◌∙◌, arith, append_assoc, codes, drop, cond, inl, inr}
use Rattle.std.specs.List.{slice_split, All}
use Rattle.std.proofs.Math.Seq.{drop-cons}
use Rattle.std.proofs.lemmas.Bool.{cases_Bool}
use Rattle.std.proofs.lemmas.Bool.Decides.{Decides-eqb}
use Rattle.std.proofs.lemmas.List.Splits.{slice_split_at, slice_split_none, length-slice_split}
use Rattle.outcome_listing.specs.declared.explored.Outcome.{Outcome}
use Rattle.outcome_listing.specs.Listing.{lines_of_parts, text_lines, whole_line, cut_line, output_lines, errors_lines, block, blocks_from, blocks}

-- what was written, and then the rest of a whole
pub then_written : {E : Type 0} (r : Result (Unit {0}) E) (old x z a b whole : List ℕ) → x ≡ old ++ a → OnOk r (z ≡ x ++ b) → a ++ b ≡ whole → OnOk r (z ≡ old ++ whole)
then_written (Ok u) old x z a b whole e f w = f ∙ (ap (λ v. v ++ b) e ∙ (append_assoc old a b ∙ ap (λ v. old ++ v) w))
then_written (Err u) old x z a b whole e f w = tt

-- where the rest of a whole is what was written last
pub last_written : {E : Type 0} (r : Result (Unit {0}) E) (x z b rest whole : List ℕ) → OnOk r (z ≡ x ++ b) → rest ≡ b → x ++ rest ≡ whole → OnOk r (z ≡ whole)
last_written (Ok u) x z b rest whole f e w = f ∙ (ap (λ v. x ++ v) (sym e) ∙ w)
last_written (Err u) x z b rest whole f e w = tt

same_place : (xs : List ℕ) (k d : ℕ) → k < length xs → get_or xs k d ≡ get_or xs k 0
same_place [] k d h = absurd (omega arith)
same_place (x ∷ xs) zero d h = refl
same_place (x ∷ xs) (suc k) d h = same_place xs k d (omega arith)

not_ten : (b : ℕ) → b ≢ 10 → (b == 10) ≡ false
not_ten b h = elim (cases_Bool (b == 10)) as (λ v. (b == 10) ≡ false) [ inl t ↦ absurd (h ((Decides-eqb b 10).0 t)) | inr f ↦ f ]

-- a text without a line feed
abbrev pub HasNone : List ℕ → Type 0
HasNone xs = (i : ℕ) → i < length xs → get_or xs i 0 ≢ 10

none_passes : (xs : List ℕ) → HasNone xs → All (λ x. (x == 10) ≡ false) xs
none_passes xs h = λ k d less. not_ten (get_or xs k d) (λ e. h k less (sym (same_place xs k d less) ∙ e))

more_parts : (part : List ℕ) (ps : List (List ℕ)) → 0 < length ps → lines_of_parts (part ∷ ps) ≡ whole_line part ++ lines_of_parts ps
more_parts part [] h = absurd (omega arith)
more_parts part (p ∷ ps) h = refl

-- the lines of a text, up to its first line feed and behind it
pub lines_part : (text line more : List ℕ) → text ≡ line ++ 10 ∷ more → HasNone line → text_lines text ≡ whole_line line ++ text_lines more
lines_part text line more e h =
    ap text_lines e
    ∙ (ap lines_of_parts (slice_split_at (λ b. b == 10) line 10 more (none_passes line h) refl)
    ∙ more_parts line (slice_split (λ b. b == 10) more) (omega (arith, length-slice_split (λ b. b == 10) more)))

one_part : (part : List ℕ) (b : Bool) → b ≡ (length part == 0) → b ≡ false → lines_of_parts (part ∷ []) ≡ cut_line part
one_part part b e f = let n : (length part == 0) ≡ false = sym e ∙ f in rw n refl

-- the line of a text without a line feed
pub lines_last : (text : List ℕ) (b : Bool) → HasNone text → b ≡ (length text == 0) → b ≡ false → text_lines text ≡ cut_line text
lines_last text b h e f = ap lines_of_parts (slice_split_none (λ b. b == 10) text (none_passes text h)) ∙ one_part text b e f

-- a line was written, and the rest is less by it
pub line_written : (old new rest line more whole : List ℕ) → old ++ text_lines rest ≡ whole → new ≡ old ++ whole_line line → rest ≡ line ++ 10 ∷ more → HasNone line → new ++ text_lines more ≡ whole
line_written old new rest line more whole e w p h =
    ap (λ v. v ++ text_lines more) w ∙ (append_assoc old (whole_line line) (text_lines more) ∙ (ap (λ v. old ++ v) (sym (lines_part rest line more p h)) ∙ e))

-- ---- texts of a script, where there is one

pub output_some : (text : List ℕ) (b : Bool) → b ≡ (length text == 0) → b ≡ false → codes "   output:\n" ++ text_lines text ≡ output_lines text
output_some text b e f = ap (λ v. cond v (codes "   output: none\n") (codes "   output:\n" ++ text_lines text)) (sym f ∙ e)

pub errors_some : (text : List ℕ) (b : Bool) → b ≡ (length text == 0) → b ≡ false → codes "   errors:\n" ++ text_lines text ≡ errors_lines text
errors_some text b e f = ap (λ v. cond v [] (codes "   errors:\n" ++ text_lines text)) (sym f ∙ e)

-- ---- blocks

pub two_written : (old x y a b : List ℕ) → x ≡ old ++ a → y ≡ x ++ b → y ≡ old ++ (a ++ b)
two_written old x y a b e f = f ∙ (ap (λ v. v ++ b) e ∙ append_assoc old a b)

-- the blocks of the items from this place on are still to be written
abbrev pub IsWritten : List Outcome → ℕ → List ℕ → List ℕ → Type 0
IsWritten os i text whole = text ++ blocks_from (i + 1) (drop i os) ≡ whole

pub block_written : (os : List Outcome) (i : ℕ) (o : Outcome) (old new whole : List ℕ) → i < length os → o ≡ get_or os i o → IsWritten os i old whole → new ≡ old ++ block (i + 1) o → IsWritten os (i + 1) new whole
block_written os i o old new whole less at w e =
    let rest : drop i os ≡ o ∷ drop (i + 1) os = drop-cons os i o less ∙ (ap (λ z. z ∷ drop (suc i) os) (sym at) ∙ ap (λ k. o ∷ drop k os) (let n : suc i ≡ i + 1 = omega arith in n)) in
    ap (λ v. v ++ blocks_from (i + 1 + 1) (drop (i + 1) os)) e
    ∙ (append_assoc old (block (i + 1) o) (blocks_from (i + 1 + 1) (drop (i + 1) os))
    ∙ (ap (λ v. old ++ blocks_from (i + 1) v) (sym rest) ∙ w))

pub some_blocks : (os : List Outcome) (b : Bool) (old text : List ℕ) → b ≡ (length os == 0) → b ≡ false → text ≡ old ++ codes "\n" → IsWritten os 0 text (old ++ blocks os)
some_blocks [] b old text e f t = let r : ⊥ = cc in absurd r
some_blocks (o ∷ os) b old text e f t = ap (λ v. v ++ blocks_from 1 (o ∷ os)) t ∙ append_assoc old (codes "\n") (blocks_from 1 (o ∷ os))
