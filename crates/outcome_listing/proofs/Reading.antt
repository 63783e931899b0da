-- A listing can be read back.
use Rattle.std.proofs.Common.{◌≡◌, ◌≢◌, ℕ, zero, suc, ◌+◌, ◌/◌, ◌%◌, ◌<◌, ◌≤◌, ◌==◌, Bool, true, false, cond, List, [], ◌∷◌, ◌++◌, length, refl, sym, ap, ◌∙◌, subst, arith, append_assoc, codes, drop, get_or, ⊎_elim}
use Rattle.std.specs.Fmt.{decimal, digits, digits_onto, digit_glyph}
use Rattle.std.specs.List.{slice_split, onto_first, AllByRecursion}
use Rattle.std.proofs.lemmas.Bool.{cases_Bool}
use Rattle.std.proofs.lemmas.Bool.Decides.{Decides-eqb, nat_tests}
use Rattle.std.proofs.lemmas.List.Splits.{join_with_byte-slice_split, length-slice_split}
use Rattle.std.specs.List.{join_with_byte}
use Rattle.hs_rules.specs.declared.entry.LimitKind.TheVariants as limit
use Rattle.hs_rules.specs.declared.entry.LimitKind.{LimitKind}
use Rattle.outcome_listing.specs.declared.explored.Cause.{Cause}
use Rattle.outcome_listing.specs.declared.explored.Cause.TheVariants as cause
use Rattle.outcome_listing.specs.declared.explored.Extent.{Extent}
use Rattle.outcome_listing.specs.declared.explored.Extent.TheVariants as extent
use Rattle.outcome_listing.specs.declared.explored.Endless.{Endless}
use Rattle.outcome_listing.specs.declared.explored.Endless.TheVariants as endless
use Rattle.outcome_listing.specs.declared.explored.Explored.{Explored}
use Rattle.outcome_listing.specs.declared.explored.Final.{Final}
use Rattle.outcome_listing.specs.declared.explored.Final.TheVariants as final
use Rattle.outcome_listing.specs.declared.explored.Outcome.{Outcome}
use Rattle.outcome_listing.specs.Finals.{outcome_of, outcomes_of}
use Rattle.outcome_listing.specs.Listing.{limit_word, cause_words, extent_words, endless_words, count_words, whole_line, cut_line, lines_of_parts, text_lines, end_word, head_line, output_lines, errors_lines, block, blocks_from, blocks, listing_of}

-- two lists that have different bytes at one place
apart : (i : ℕ) (xs ys : List ℕ) → xs ≡ ys → (get_or xs i 0 == get_or ys i 0) ≡ false → ⊥
apart i xs ys h f = let t : (get_or xs i 0 == get_or ys i 0) ≡ true = (Decides-eqb (get_or xs i 0) (get_or ys i 0)).1 (ap (λ z. get_or z i 0) h) in let r : ⊥ = cc in r

-- ---- up to the first line feed

-- no byte is a line feed
abbrev plain : List ℕ → Bool
plain [] = true
plain (b ∷ bs) = cond (b == 10) false (plain bs)

cut : (a b x y : List ℕ) → plain a ≡ true → plain b ≡ true → a ++ 10 ∷ x ≡ b ++ 10 ∷ y → (a ≡ b) × (x ≡ y)
cut [] [] x y p q h = (refl, let t : x ≡ y = cc in t)
cut [] (c ∷ b) x y p q h = let ten : 10 ≡ c = cc in let no : false ≡ true = ap (λ n. cond (n == 10) false (plain b)) ten ∙ q in cc
cut (c ∷ a) [] x y p q h = let ten : 10 ≡ c = cc in let no : false ≡ true = ap (λ n. cond (n == 10) false (plain a)) ten ∙ p in cc
cut (c ∷ a) (d ∷ b) x y p q h =
    let head : c ≡ d = cc in
    let tail : a ++ 10 ∷ x ≡ b ++ 10 ∷ y = cc in
    let more = cut a b x y (later c a p) (later d b q) tail in
    (let e : a ≡ b = more.0 in cc, more.1)
  where
    later : (c : ℕ) (a : List ℕ) → plain (c ∷ a) ≡ true → plain a ≡ true
    later c a p = ⊎_elim (λ (t : (c == 10) ≡ true). let no : false ≡ true = sym (ap (λ b. cond b false (plain a)) t) ∙ p in absurd (let r : ⊥ = cc in r)) (λ (f : (c == 10) ≡ false). sym (ap (λ b. cond b false (plain a)) f) ∙ p) (cases_Bool (c == 10))

plain_both : (a b : List ℕ) → plain a ≡ true → plain b ≡ true → plain (a ++ b) ≡ true
plain_both [] b p q = q
plain_both (c ∷ a) b p q =
    ⊎_elim (λ (t : (c == 10) ≡ true). let no : false ≡ true = sym (ap (λ v. cond v false (plain a)) t) ∙ p in absurd (let r : ⊥ = cc in r))
    (λ (f : (c == 10) ≡ false). ap (λ v. cond v false (plain (a ++ b))) f ∙ plain_both a b (sym (ap (λ v. cond v false (plain a)) f) ∙ p) q)
    (cases_Bool (c == 10))

-- ---- digits

-- a byte is no line feed and no blank
abbrev IsMark : ℕ → Type 0
IsMark b = 48 ≤ b

marks_plain : (bs : List ℕ) → AllByRecursion IsMark bs → plain bs ≡ true
marks_plain [] h = refl
marks_plain (b ∷ bs) h =
    ⊎_elim (λ (t : (b == 10) ≡ true). let e : b ≡ 10 = (Decides-eqb b 10).0 t in let at : 48 ≤ b = h.0 in absurd (omega arith))
    (λ (f : (b == 10) ≡ false). ap (λ v. cond v false (plain bs)) f ∙ marks_plain bs h.1)
    (cases_Bool (b == 10))

glyph_marks : (d : ℕ) → IsMark (digit_glyph false d)
glyph_marks d = grind (arith, nat_tests)

digits_mark : (k n : ℕ) (acc : List ℕ) → AllByRecursion IsMark acc → AllByRecursion IsMark (digits_onto k 10 false n acc)
digits_mark zero n acc h = h
digits_mark (suc k) n acc h =
    let more : AllByRecursion IsMark (digit_glyph false (n % 10) ∷ acc) = (glyph_marks (n % 10), h) in
    let P : List ℕ → Type 0 = AllByRecursion IsMark in
    ⊎_elim (λ (t : (n / 10 == 0) ≡ true). subst (λ v. P (cond v (digit_glyph false (n % 10) ∷ acc) (digits_onto k 10 false (n / 10) (digit_glyph false (n % 10) ∷ acc)))) (sym t) more)
    (λ (f : (n / 10 == 0) ≡ false). subst (λ v. P (cond v (digit_glyph false (n % 10) ∷ acc) (digits_onto k 10 false (n / 10) (digit_glyph false (n % 10) ∷ acc)))) (sym f) (digits_mark k (n / 10) (digit_glyph false (n % 10) ∷ acc) more))
    (cases_Bool (n / 10 == 0))

decimal_marks : (n : ℕ) → AllByRecursion IsMark (decimal n)
unfolding digits
decimal_marks n = digits_mark 64 n [] tt

decimal_plain : (n : ℕ) → plain (decimal n) ≡ true
decimal_plain n = marks_plain (decimal n) (decimal_marks n)

-- ---- the lines of a text

-- the bytes don't begin as a line of a text does
abbrev pub EndsLines : List ℕ → Type 0
EndsLines x = (rest : List ℕ) → x ≢ 32 ∷ 32 ∷ 32 ∷ 32 ∷ rest

abbrev PlainParts : List (List ℕ) → Type 0
PlainParts = AllByRecursion (λ p. plain p ≡ true)

onto_plain : (b : ℕ) (ps : List (List ℕ)) → (b == 10) ≡ false → PlainParts ps → PlainParts (onto_first b ps)
onto_plain b [] f h = (ap (λ v. cond v false true) f, tt)
onto_plain b (p ∷ ps) f h = (ap (λ v. cond v false (plain p)) f ∙ h.0, h.1)

parts_plain : (text : List ℕ) → PlainParts (slice_split (λ b. b == 10) text)
parts_plain [] = (refl, tt)
parts_plain (b ∷ bs) =
    let ps : List (List ℕ) = slice_split (λ c. c == 10) bs in
    ⊎_elim (λ (t : (b == 10) ≡ true). subst (λ v. PlainParts (cond v ([] ∷ ps) (onto_first b ps))) (sym t) (refl, parts_plain bs))
    (λ (f : (b == 10) ≡ false). subst (λ v. PlainParts (cond v ([] ∷ ps) (onto_first b ps))) (sym f) (onto_plain b ps f (parts_plain bs)))
    (cases_Bool (b == 10))

-- a line of a text, and what stands behind it
line_then : (line x : List ℕ) → (line ++ codes "\n") ++ x ≡ line ++ 10 ∷ x
line_then line x = append_assoc line (codes "\n") x

some_length : (b : ℕ) (bs : List ℕ) → (length (b ∷ bs) == 0) ≡ false
some_length b bs = grind (arith, nat_tests)

-- the last part of a text, where it isn't empty
last_part : (b : ℕ) (bs : List ℕ) → lines_of_parts ((b ∷ bs) ∷ []) ≡ cut_line (b ∷ bs)
last_part b bs = ap (λ v. cond v [] (cut_line (b ∷ bs))) (some_length b bs)

last_then : (b : ℕ) (bs x : List ℕ) → lines_of_parts ((b ∷ bs) ∷ []) ++ x ≡ codes "     : " ++ ((b ∷ bs) ++ 10 ∷ x)
last_then b bs x = ap (λ z. z ++ x) (last_part b bs) ∙ ap (λ z. codes "     : " ++ z) (line_then (b ∷ bs) x)

-- one part more or fewer
parts_differ : (p q : List ℕ) (rs : List (List ℕ)) (x y : List ℕ) → EndsLines x → lines_of_parts (p ∷ []) ++ x ≡ whole_line q ++ (lines_of_parts rs ++ y) → ⊥
parts_differ [] q rs x y ends h = ends (32 ∷ 124 ∷ 32 ∷ ((q ++ codes "\n") ++ (lines_of_parts rs ++ y))) h
parts_differ (b ∷ p) q rs x y ends h = apart 5 (codes "     : " ++ ((b ∷ p) ++ 10 ∷ x)) (whole_line q ++ (lines_of_parts rs ++ y)) (sym (last_then b p x) ∙ h) refl

last_apart : (p q x y : List ℕ) → plain p ≡ true → plain q ≡ true → EndsLines x → EndsLines y → lines_of_parts (p ∷ []) ++ x ≡ lines_of_parts (q ∷ []) ++ y → (p ≡ q) × (x ≡ y)
last_apart [] [] x y f g ex ey h = (refl, h)
last_apart [] (c ∷ q) x y f g ex ey h = absurd (ex (32 ∷ 58 ∷ 32 ∷ ((c ∷ q) ++ 10 ∷ y)) (h ∙ last_then c q y))
last_apart (b ∷ p) [] x y f g ex ey h = absurd (ey (32 ∷ 58 ∷ 32 ∷ ((b ∷ p) ++ 10 ∷ x)) (sym h ∙ last_then b p x))
last_apart (b ∷ p) (c ∷ q) x y f g ex ey h = cut (b ∷ p) (c ∷ q) x y f g (ap (drop 7) (sym (last_then b p x) ∙ (h ∙ last_then c q y)))

parts_apart : (ps qs : List (List ℕ)) (x y : List ℕ) → PlainParts ps → PlainParts qs → 0 < length ps → 0 < length qs → EndsLines x → EndsLines y → lines_of_parts ps ++ x ≡ lines_of_parts qs ++ y → (ps ≡ qs) × (x ≡ y)
parts_apart [] qs x y f g m n ex ey h = absurd (omega arith)
parts_apart (p ∷ ps) [] x y f g m n ex ey h = absurd (omega arith)
parts_apart (p ∷ []) (q ∷ []) x y f g m n ex ey h = let both = last_apart p q x y f.0 g.0 ex ey h in (ap (λ z. z ∷ []) both.0, both.1)
parts_apart (p ∷ []) (q ∷ r ∷ qs) x y f g m n ex ey h = absurd (parts_differ p q (r ∷ qs) x y ex (h ∙ append_assoc (whole_line q) (lines_of_parts (r ∷ qs)) y))
parts_apart (p ∷ r ∷ ps) (q ∷ []) x y f g m n ex ey h = absurd (parts_differ q p (r ∷ ps) y x ey (sym h ∙ append_assoc (whole_line p) (lines_of_parts (r ∷ ps)) x))
parts_apart (p ∷ r ∷ ps) (q ∷ s ∷ qs) x y f g m n ex ey h =
    let u : List ℕ = lines_of_parts (r ∷ ps) ++ x in
    let v : List ℕ = lines_of_parts (s ∷ qs) ++ y in
    let whole : whole_line p ++ u ≡ whole_line q ++ v = sym (append_assoc (whole_line p) (lines_of_parts (r ∷ ps)) x) ∙ (h ∙ append_assoc (whole_line q) (lines_of_parts (s ∷ qs)) y) in
    let both = cut p q u v f.0 g.0 (sym (line_then p u) ∙ (ap (drop 7) whole ∙ line_then q v)) in
    let more = parts_apart (r ∷ ps) (s ∷ qs) x y f.1 g.1 (omega arith) (omega arith) ex ey both.1 in
    (ap (λ z. z ∷ r ∷ ps) both.0 ∙ ap (λ z. q ∷ z) more.0, more.1)

pub lines_apart : (a b x y : List ℕ) → EndsLines x → EndsLines y → text_lines a ++ x ≡ text_lines b ++ y → (a ≡ b) × (x ≡ y)
lines_apart a b x y ex ey h =
    let some : (z : List ℕ) → 0 < length (slice_split (λ c. c == 10) z) = λ z. omega (arith, length-slice_split (λ c. c == 10) z) in
    let both = parts_apart (slice_split (λ c. c == 10) a) (slice_split (λ c. c == 10) b) x y (parts_plain a) (parts_plain b) (some a) (some b) ex ey h in
    (sym (join_with_byte-slice_split 10 a) ∙ (ap (join_with_byte 10) both.0 ∙ join_with_byte-slice_split 10 b), both.1)

pub one_text : (a b : List ℕ) → text_lines a ≡ text_lines b → a ≡ b
one_text a b h = (lines_apart a b [] [] (λ rest e. cc) (λ rest e. cc) (ap (λ z. z ++ []) h)).0

-- ---- the block of an outcome

-- the bytes don't begin with a blank
abbrev EndsBlock : List ℕ → Type 0
EndsBlock x = (rest : List ℕ) → x ≢ 32 ∷ rest

same_front : (a x y : List ℕ) → a ++ x ≡ a ++ y → x ≡ y
same_front [] x y h = h
same_front (b ∷ a) x y h = same_front a x y (let t : a ++ x ≡ a ++ y = cc in t)

ends_apart : (e f : Final) (x y : List ℕ) → end_word e ++ codes ", after " ++ x ≡ end_word f ++ codes ", after " ++ y → e ≡ f
ends_apart final.Done final.Done x y h = refl
ends_apart final.Done final.Uncaught x y h = absurd (apart 0 (end_word final.Done ++ codes ", after " ++ x) (end_word final.Uncaught ++ codes ", after " ++ y) h refl)
ends_apart final.Done final.Deadlock x y h = absurd (apart 1 (end_word final.Done ++ codes ", after " ++ x) (end_word final.Deadlock ++ codes ", after " ++ y) h refl)
ends_apart final.Uncaught final.Done x y h = absurd (apart 0 (end_word final.Uncaught ++ codes ", after " ++ x) (end_word final.Done ++ codes ", after " ++ y) h refl)
ends_apart final.Uncaught final.Uncaught x y h = refl
ends_apart final.Uncaught final.Deadlock x y h = absurd (apart 0 (end_word final.Uncaught ++ codes ", after " ++ x) (end_word final.Deadlock ++ codes ", after " ++ y) h refl)
ends_apart final.Deadlock final.Done x y h = absurd (apart 1 (end_word final.Deadlock ++ codes ", after " ++ x) (end_word final.Done ++ codes ", after " ++ y) h refl)
ends_apart final.Deadlock final.Uncaught x y h = absurd (apart 0 (end_word final.Deadlock ++ codes ", after " ++ x) (end_word final.Uncaught ++ codes ", after " ++ y) h refl)
ends_apart final.Deadlock final.Deadlock x y h = refl

end_plain : (e : Final) → plain (end_word e) ≡ true
end_plain final.Done = refl
end_plain final.Uncaught = refl
end_plain final.Deadlock = refl

-- a head line without its line feed: the number, and what stands behind it
abbrev head_rest : Final → ℕ → List ℕ
head_rest end entries = codes ". " ++ ((end_word end ++ codes ", after ") ++ (decimal entries ++ codes " entries"))

head_plain : (n k : ℕ) (e : Final) → plain (decimal n ++ head_rest e k) ≡ true
head_plain n k e =
    plain_both (decimal n) (head_rest e k) (decimal_plain n)
    (plain_both (end_word e ++ codes ", after ") (decimal k ++ codes " entries") (plain_both (end_word e) (codes ", after ") (end_plain e) refl) (plain_both (decimal k) (codes " entries") (decimal_plain k) refl))

head_then : (n k : ℕ) (e : Final) (x : List ℕ) → head_line n e k ++ x ≡ (decimal n ++ head_rest e k) ++ 10 ∷ x
head_then n k e x = simp append_assoc refl

head_apart : (n k l : ℕ) (e f : Final) (x y : List ℕ) → head_line n e k ++ x ≡ head_line n f l ++ y → (e ≡ f) × (x ≡ y)
head_apart n k l e f x y h =
    let both = cut (decimal n ++ head_rest e k) (decimal n ++ head_rest f l) x y (head_plain n k e) (head_plain n l f) (sym (head_then n k e x) ∙ (h ∙ head_then n l f y)) in
    let rest = same_front (decimal n) (head_rest e k) (head_rest f l) both.0 in
    (ends_apart e f (decimal k ++ codes " entries") (decimal l ++ codes " entries") (ap (drop 2) rest), both.1)

some_output : (b : ℕ) (bs x : List ℕ) → output_lines (b ∷ bs) ++ x ≡ codes "   output:\n" ++ (text_lines (b ∷ bs) ++ x)
some_output b bs x = ap (λ v. cond v (codes "   output: none\n") (codes "   output:\n" ++ text_lines (b ∷ bs)) ++ x) (some_length b bs)

some_errors : (b : ℕ) (bs x : List ℕ) → errors_lines (b ∷ bs) ++ x ≡ codes "   errors:\n" ++ (text_lines (b ∷ bs) ++ x)
some_errors b bs x = ap (λ v. cond v [] (codes "   errors:\n" ++ text_lines (b ∷ bs)) ++ x) (some_length b bs)

output_apart : (a b x y : List ℕ) → EndsLines x → EndsLines y → output_lines a ++ x ≡ output_lines b ++ y → (a ≡ b) × (x ≡ y)
output_apart [] [] x y ex ey h = (refl, ap (drop 16) h)
output_apart [] (c ∷ b) x y ex ey h = absurd (apart 10 (codes "   output: none\n" ++ x) (codes "   output:\n" ++ (text_lines (c ∷ b) ++ y)) (h ∙ some_output c b y) refl)
output_apart (c ∷ a) [] x y ex ey h = absurd (apart 10 (codes "   output:\n" ++ (text_lines (c ∷ a) ++ x)) (codes "   output: none\n" ++ y) (sym (some_output c a x) ∙ h) refl)
output_apart (c ∷ a) (d ∷ b) x y ex ey h = lines_apart (c ∷ a) (d ∷ b) x y ex ey (ap (drop 11) (sym (some_output c a x) ∙ (h ∙ some_output d b y)))

-- what doesn't begin with a blank doesn't begin as a line of a text does
block_lines : (x : List ℕ) → EndsBlock x → EndsLines x
block_lines x ex = λ rest e. ex (32 ∷ 32 ∷ 32 ∷ rest) e

errors_end : (a x : List ℕ) → EndsBlock x → EndsLines (errors_lines a ++ x)
errors_end [] x ex = block_lines x ex
errors_end (b ∷ a) x ex = λ rest e. apart 3 (codes "   errors:\n" ++ (text_lines (b ∷ a) ++ x)) (32 ∷ 32 ∷ 32 ∷ 32 ∷ rest) (sym (some_errors b a x) ∙ e) refl

errors_apart : (a b x y : List ℕ) → EndsBlock x → EndsBlock y → errors_lines a ++ x ≡ errors_lines b ++ y → (a ≡ b) × (x ≡ y)
errors_apart [] [] x y ex ey h = (refl, h)
errors_apart [] (c ∷ b) x y ex ey h = absurd (ex (drop 1 (codes "   errors:\n") ++ (text_lines (c ∷ b) ++ y)) (h ∙ some_errors c b y))
errors_apart (c ∷ a) [] x y ex ey h = absurd (ey (drop 1 (codes "   errors:\n") ++ (text_lines (c ∷ a) ++ x)) (sym h ∙ some_errors c a x))
errors_apart (c ∷ a) (d ∷ b) x y ex ey h = lines_apart (c ∷ a) (d ∷ b) x y (block_lines x ex) (block_lines y ey) (ap (drop 11) (sym (some_errors c a x) ∙ (h ∙ some_errors d b y)))

block_then : (n : ℕ) (o : Outcome) (x : List ℕ) → block n o ++ x ≡ head_line n o.end (length o.witness.list) ++ (output_lines o.out ++ (errors_lines o.err ++ x))
block_then n o x =
    append_assoc (head_line n o.end (length o.witness.list) ++ output_lines o.out) (errors_lines o.err) x
    ∙ append_assoc (head_line n o.end (length o.witness.list)) (output_lines o.out) (errors_lines o.err ++ x)

block_apart : (n : ℕ) (o p : Outcome) (x y : List ℕ) → EndsBlock x → EndsBlock y → block n o ++ x ≡ block n p ++ y → (outcome_of o ≡ outcome_of p) × (x ≡ y)
block_apart n o p x y ex ey h =
    let head = head_apart n (length o.witness.list) (length p.witness.list) o.end p.end (output_lines o.out ++ (errors_lines o.err ++ x)) (output_lines p.out ++ (errors_lines p.err ++ y)) (sym (block_then n o x) ∙ (h ∙ block_then n p y)) in
    let out = output_apart o.out p.out (errors_lines o.err ++ x) (errors_lines p.err ++ y) (errors_end o.err x ex) (errors_end p.err y ey) head.1 in
    let err = errors_apart o.err p.err x y ex ey out.1 in
    (let e : o.end ≡ p.end = head.0 in let a : o.out ≡ p.out = out.0 in let b : o.err ≡ p.err = err.0 in cc, err.1)

-- ---- all blocks

marks_then : (bs x rest : List ℕ) → AllByRecursion IsMark bs → bs ++ 46 ∷ x ≢ 32 ∷ rest
marks_then [] x rest h = λ e. apart 0 (46 ∷ x) (32 ∷ rest) e refl
marks_then (b ∷ bs) x rest h = λ e. let r : b ≡ 32 = ap (λ z. get_or z 0 0) e in let m : 48 ≤ b = h.0 in let no : ⊥ = omega arith in no

begins_block : (n : ℕ) (o : Outcome) (x : List ℕ) → (z : List ℕ) × (block n o ++ x ≡ decimal n ++ 46 ∷ z)
begins_block n o x =
    let k : ℕ = length o.witness.list in
    let z : List ℕ = output_lines o.out ++ (errors_lines o.err ++ x) in
    (drop 1 (head_rest o.end k) ++ 10 ∷ z, block_then n o x ∙ (head_then n k o.end z ∙ append_assoc (decimal n) (head_rest o.end k) (10 ∷ z)))

ends_block : (n : ℕ) (os : List Outcome) → EndsBlock (blocks_from n os)
ends_block n [] = λ rest e. apart 0 [] (32 ∷ rest) e refl
ends_block n (o ∷ os) = λ rest e. let b = begins_block n o (blocks_from (n + 1) os) in marks_then (decimal n) b.0 rest (decimal_marks n) (sym b.1 ∙ e)

never_empty : (bs x : List ℕ) → [] ≢ bs ++ 46 ∷ x
never_empty [] x = λ e. apart 0 [] (46 ∷ x) e refl
never_empty (b ∷ bs) x = λ e. let r : 0 ≡ suc (length (bs ++ 46 ∷ x)) = ap length e in let no : ⊥ = omega arith in no

blocks_apart : (n : ℕ) (os ps : List Outcome) → blocks_from n os ≡ blocks_from n ps → outcomes_of os ≡ outcomes_of ps
blocks_apart n [] [] h = refl
blocks_apart n [] (p ∷ ps) h = let b = begins_block n p (blocks_from (n + 1) ps) in absurd (never_empty (decimal n) b.0 (h ∙ b.1))
blocks_apart n (o ∷ os) [] h = let b = begins_block n o (blocks_from (n + 1) os) in absurd (never_empty (decimal n) b.0 (sym h ∙ b.1))
blocks_apart n (o ∷ os) (p ∷ ps) h =
    let both = block_apart n o p (blocks_from (n + 1) os) (blocks_from (n + 1) ps) (ends_block (n + 1) os) (ends_block (n + 1) ps) h in
    ap (λ z. z ∷ outcomes_of os) both.0 ∙ ap (λ z. outcome_of p ∷ z) (blocks_apart (n + 1) os ps both.1)

all_apart : (os ps : List Outcome) → blocks os ≡ blocks ps → outcomes_of os ≡ outcomes_of ps
all_apart [] [] h = refl
all_apart [] (p ∷ ps) h = absurd (apart 0 [] (10 ∷ blocks_from 1 (p ∷ ps)) h refl)
all_apart (o ∷ os) [] h = absurd (apart 0 (10 ∷ blocks_from 1 (o ∷ os)) [] h refl)
all_apart (o ∷ os) (p ∷ ps) h = blocks_apart 1 (o ∷ os) (p ∷ ps) (ap (drop 1) h)

-- ---- the first two lines

limit_plain : (k : LimitKind) → plain (limit_word k) ≡ true
limit_plain limit.Threads = refl
limit_plain limit.Cells = refl
limit_plain limit.Frames = refl
limit_plain limit.Output = refl

cause_plain : (c : Cause) → plain (cause_words c) ≡ true
cause_plain cause.States = refl
cause_plain cause.Fuel = refl
cause_plain cause.Clock = refl
cause_plain (cause.Limit k) = limit_plain k

extent_plain : (e : Extent) → plain (extent_words e) ≡ true
extent_plain extent.All = refl
extent_plain (extent.NotAll c h) = cause_plain c

endless_plain : (e : Endless) → plain (endless_words e) ≡ true
endless_plain endless.Never = refl
endless_plain (endless.Round to round) = refl
endless_plain endless.Unknown = refl

words_plain : (b : Bool) → plain (cond b (codes " outcome, and ") (codes " outcomes, and ")) ≡ true
words_plain true = refl
words_plain false = refl

-- the two lines without their line feeds
abbrev front_one : Explored → List ℕ
front_one e = count_words (length e.outcomes) ++ extent_words e.extent

abbrev front_two : Explored → List ℕ
front_two e = decimal e.states ++ (codes " states; " ++ endless_words e.endless)

one_plain : (e : Explored) → plain (front_one e) ≡ true
one_plain e =
    let n : ℕ = length e.outcomes in
    plain_both (count_words n) (extent_words e.extent) (plain_both (decimal n) (cond (n == 1) (codes " outcome, and ") (codes " outcomes, and ")) (decimal_plain n) (words_plain (n == 1))) (extent_plain e.extent)

two_plain : (e : Explored) → plain (front_two e) ≡ true
two_plain e = plain_both (decimal e.states) (codes " states; " ++ endless_words e.endless) (decimal_plain e.states) (endless_plain e.endless)

lines_then : (e : Explored) → listing_of e ≡ front_one e ++ 10 ∷ (front_two e ++ 10 ∷ blocks e.outcomes)
lines_then e = simp append_assoc refl

pub one_list : (e f : Explored) → listing_of e ≡ listing_of f → outcomes_of e.outcomes ≡ outcomes_of f.outcomes
one_list e f h =
    let one = cut (front_one e) (front_one f) (front_two e ++ 10 ∷ blocks e.outcomes) (front_two f ++ 10 ∷ blocks f.outcomes) (one_plain e) (one_plain f) (sym (lines_then e) ∙ (h ∙ lines_then f)) in
    let two = cut (front_two e) (front_two f) (blocks e.outcomes) (blocks f.outcomes) (two_plain e) (two_plain f) one.1 in
    all_apart e.outcomes f.outcomes two.1
