-- When nothing longer than what begins a text has the form of a token.
use Rattle.std.proofs.Common.{◌≡◌, ℕ, zero, suc, ◌<◌, ◌≤◌, List, [], ◌∷◌, ◌++◌, length, Bool, true, false, ◌&&◌, leb, Some, refl, sym, ap, ◌∙◌, subst, arith, ⊎_elim}
use Rattle.std.specs.Prelude.{slice_get}
use Rattle.std.specs.List.{list_all}
use Rattle.std.specs.Char.{is_ascii_digit}
use Rattle.std.proofs.lemmas.Bool.{and_parts, false≢true, leb-true, cases_lt}
use Rattle.rules_tokens.specs.Tokens.{continues_word, symbols, IsWord, IsNumber, IsSymbol, IsSymbolNumber, IsLiteral, IsLongest, literal_text}
use Rattle.hs_lex.specs.Fronts.{NoneBelow}
use Rattle.hs_lex.proofs.Forms.{Form, word, number, symbol, literal, HasFormOf, form_of, form_not_empty, same_form, list_all_at}
use Rattle.hs_lex.proofs.Literals.{literal_same}

-- the text is at its end, or its first character fails the test
abbrev pub Stops : (ℕ → Bool) → List ℕ → Type 0
Stops p [] = Unit {0}
Stops p (c ∷ cs) = p c ≡ false

-- what passes the test is no longer than the front where it stops
run_le : (p : ℕ → Bool) (xs ys left after : List ℕ) → list_all p xs ≡ true → Stops p after → xs ++ left ≡ ys ++ after → length xs ≤ length ys
run_le p [] ys left after a s e = omega arith
run_le p (x ∷ xs) [] left after a s e = let no : p x ≡ false = subst (Stops p) (sym e) s in absurd (false≢true (sym no ∙ (and_parts _ _ a).0))
run_le p (x ∷ xs) (y ∷ ys) left after a s e = let rest : length xs ≤ length ys = run_le p xs ys left after ((and_parts _ _ a).1) s (cc) in omega arith

-- It is enough to look at what has the same form.
from_same_form : (f : Form) (c : ℕ) (cs after : List ℕ) → HasFormOf f (c ∷ cs)
    → ((ds left : List ℕ) → HasFormOf f (c ∷ ds) → ds ++ left ≡ cs ++ after → length ds ≤ length cs) → IsLongest (c ∷ cs) after
from_same_form f c cs after h within [] left form e = omega arith
from_same_form f c cs after h within (d ∷ ds) left form e =
    let (g, k) = form_of (d ∷ ds) form in
    let head : d ≡ c = cc in
    let here : HasFormOf g (c ∷ ds) = subst (λ z. HasFormOf g (z ∷ ds)) head k in
    let same : g ≡ f = same_form g f c ds cs here h in
    let rest : length ds ≤ length cs = within ds left (subst (λ z. HasFormOf z (c ∷ ds)) same here) (cc) in
    omega arith

pub word_longest : (c : ℕ) (cs after : List ℕ) → IsWord (c ∷ cs) → Stops continues_word after → IsLongest (c ∷ cs) after
word_longest c cs after h s = from_same_form word c cs after h (λ ds left k e. run_le continues_word ds cs left after k.1 s e)

pub number_longest : (c : ℕ) (cs after : List ℕ) → IsNumber (c ∷ cs) → Stops is_ascii_digit after → IsLongest (c ∷ cs) after
number_longest c cs after h s = from_same_form number c cs after h (λ ds left k e. run_le is_ascii_digit ds cs left after ((and_parts _ _ k).1) s e)

literal_within : (c : ℕ) (cs ds left after : List ℕ) → IsLiteral (c ∷ cs) → IsLiteral (c ∷ ds) → ds ++ left ≡ cs ++ after → length ds ≤ length cs
literal_within c cs ds left after l k e =
    let whole : literal_text k.0 ++ left ≡ literal_text l.0 ++ after = ap (λ z. z ++ left) (sym k.2) ∙ (ap (λ z. c ∷ z) e ∙ ap (λ z. z ++ after) l.2) in
    let parts = literal_same k.0 l.0 left after k.1 l.1 whole in
    let same : c ∷ ds ≡ c ∷ cs = k.2 ∙ (ap literal_text parts.0 ∙ sym l.2) in
    let rest : ds ≡ cs = cc in
    omega (arith, ap length rest)

pub literal_longest : (c : ℕ) (cs after : List ℕ) → IsLiteral (c ∷ cs) → IsLongest (c ∷ cs) after
literal_longest c cs after h = from_same_form literal c cs after h (λ ds left k e. literal_within c cs ds left after h k e)

-- ---- symbols: in their table none stands behind a shorter one

abbrev no_longer_after : List (List ℕ) → Bool
no_longer_after [] = true
no_longer_after (x ∷ xs) = list_all (λ y. leb (length y) (length x)) xs && no_longer_after xs

later_no_longer : (xs : List (List ℕ)) (m n : ℕ) (x y : List ℕ) → no_longer_after xs ≡ true → m ≤ n → slice_get xs m ≡ Some x → slice_get xs n ≡ Some y → length y ≤ length x
later_no_longer [] m n x y o le e g = absurd (cc)
later_no_longer (z ∷ zs) zero zero x y o le e g = let same : x ≡ y = cc in omega (arith, ap length same)
later_no_longer (z ∷ zs) zero (suc n) x y o le e g =
    let same : z ≡ x = cc in
    let no_longer : leb (length y) (length z) ≡ true = list_all_at (λ w. leb (length w) (length z)) zs n y ((and_parts _ _ o).0) g in
    omega (arith, leb-true (length y) (length z) no_longer, ap length same)
later_no_longer (z ∷ zs) (suc m) zero x y o le e g = absurd (omega arith)
later_no_longer (z ∷ zs) (suc m) (suc n) x y o le e g = later_no_longer zs m n x y ((and_parts _ _ o).1) (omega arith) e g

symbols_shrink : no_longer_after symbols ≡ true
symbols_shrink = refl

symbol_within : (n : ℕ) (c : ℕ) (cs ds left after : List ℕ) → IsSymbolNumber n (c ∷ cs) → NoneBelow n ((c ∷ cs) ++ after) → IsSymbol (c ∷ ds) → ds ++ left ≡ cs ++ after → length ds ≤ length cs
symbol_within n c cs ds left after h none (m, k) e =
    ⊎_elim (λ (lt : m < n). absurd (none m (c ∷ ds) left lt k (ap (λ z. c ∷ z) e)))
    (λ (le : n ≤ m). let all : length (c ∷ ds) ≤ length (c ∷ cs) = later_no_longer symbols n m (c ∷ cs) (c ∷ ds) symbols_shrink le h k in omega arith)
    (cases_lt m n)

pub symbol_longest : (n : ℕ) (cs after : List ℕ) → IsSymbolNumber n cs → NoneBelow n (cs ++ after) → IsLongest cs after
symbol_longest n [] after h none = absurd (form_not_empty symbol (n, h))
symbol_longest n (c ∷ cs) after h none = from_same_form symbol c cs after (n, h) (λ ds left k e. symbol_within n c cs ds left after h none k e)
