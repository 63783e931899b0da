-- The first character tells the form of a token.
use Rattle.std.proofs.Common.{◌≡◌, ◌≢◌, ℕ, zero, suc, ◌<◌, ◌≤◌, List, [], ◌∷◌, Bool, true, false, ◌&&◌, leb, Some, refl, sym, ap, ◌∙◌, subst, arith, ◌⊎◌, inl, inr, ⊎_elim}
use Rattle.std.specs.Prelude.{if◌then◌else◌, slice_get, ◌==◌}
use Rattle.std.specs.List.{list_all}
use Rattle.std.specs.Char.{is_ascii_digit, is_ascii_alphabetic}
use Rattle.std.proofs.lemmas.Bool.{and_parts, or_cases, eqb-true, false_from_ne_true, false≢true, ne_eqb, leb-true}
use Rattle.unicode_ident.specs.Ident.{is_xid_start}
use Rattle.unicode_ident.proofs.Computing.{unicode_ident}
use Rattle.unicode_ident.proofs.IdentLemmas.{is_xid_start-ascii}
use Rattle.rules_tokens.specs.Tokens.{quote, underscore, starts_word, symbols, IsWord, IsNumber, IsSymbol, IsSymbolNumber, IsLiteral, HasForm}

pub data Form : Type 0 where
  word : Form
  number : Form
  symbol : Form
  literal : Form

-- the form of a token that begins with the character
abbrev pub form_at : ℕ → Form
form_at c = if c == quote then literal else (if is_ascii_digit c then number else (if starts_word c then word else symbol))

abbrev pub HasFormOf : Form → List ℕ → Type 0
HasFormOf word cs = IsWord cs
HasFormOf number cs = IsNumber cs
HasFormOf symbol cs = IsSymbol cs
HasFormOf literal cs = IsLiteral cs

pub form_of : (cs : List ℕ) → HasForm cs → (f : Form) × HasFormOf f cs
form_of cs (inl w) = (word, w)
form_of cs (inr (inl n)) = (number, n)
form_of cs (inr (inr (inl s))) = (symbol, s)
form_of cs (inr (inr (inr l))) = (literal, l)

-- ---- symbols, by their table
pub list_all_at : {X : Type 0} (p : X → Bool) (xs : List X) (n : ℕ) (x : X) → list_all p xs ≡ true → slice_get xs n ≡ Some x → p x ≡ true
list_all_at p [] n x all e = absurd (cc)
list_all_at p (y ∷ ys) zero x all e = let same : y ≡ x = cc in subst (λ z. p z ≡ true) same ((and_parts _ _ all).0)
list_all_at p (y ∷ ys) (suc n) x all e = list_all_at p ys n x ((and_parts _ _ all).1) e

abbrev is_symbol : Form → Bool
is_symbol symbol = true
is_symbol word = false
is_symbol number = false
is_symbol literal = false

is_symbol_is : (f : Form) → is_symbol f ≡ true → f ≡ symbol
is_symbol_is symbol e = refl
is_symbol_is word e = absurd (false≢true e)
is_symbol_is number e = absurd (false≢true e)
is_symbol_is literal e = absurd (false≢true e)

abbrev begins_symbol : List ℕ → Bool
begins_symbol [] = false
begins_symbol (c ∷ cs) = is_symbol (form_at c)

symbols_begin : list_all begins_symbol symbols ≡ true
unfolding unicode_ident
symbols_begin = refl

pub symbol_begins : (n : ℕ) (cs : List ℕ) → IsSymbolNumber n cs → begins_symbol cs ≡ true
symbol_begins n cs e = list_all_at begins_symbol symbols n cs symbols_begin e

-- ---- the character tells the form
not_quote : (c : ℕ) → starts_word c ≡ true → c ≢ quote
unfolding unicode_ident
not_quote c e h = let P : ℕ → Type 0 = λ n. starts_word n ≡ true in false≢true (subst P h e)

in_range : (low high c : ℕ) → (leb low c && leb c high) ≡ true → (low ≤ c) × (c ≤ high)
in_range low high c e = let both = and_parts (leb low c) (leb c high) e in (leb-true low c both.0, leb-true c high both.1)

-- a digit is no letter
digit_no_letter : (c : ℕ) → is_ascii_digit c ≡ true → is_ascii_alphabetic c ≡ true → ⊥
digit_no_letter c d a =
    let digit : (48 ≤ c) × (c ≤ 57) = in_range 48 57 c d in
    ⊎_elim (λ (h : (leb 65 c && leb c 90) ≡ true). let letter : (65 ≤ c) × (c ≤ 90) = in_range 65 90 c h in omega arith)
    (λ (h : (leb 97 c && leb c 122) ≡ true). let letter : (97 ≤ c) × (c ≤ 122) = in_range 97 122 c h in omega arith)
    (or_cases (leb 65 c && leb c 90) (leb 97 c && leb c 122) a)

digit_starts_no_word : (c : ℕ) → is_ascii_digit c ≡ true → ((c == underscore) ≡ true) ⊎ (is_xid_start c ≡ true) → ⊥
digit_starts_no_word c d (inl u) = let P : ℕ → Type 0 = λ n. is_ascii_digit n ≡ true in false≢true (subst P (eqb-true c underscore u) d)
digit_starts_no_word c d (inr x) =
    let digit : (48 ≤ c) × (c ≤ 57) = in_range 48 57 c d in
    let small : c < 128 = omega arith in
    digit_no_letter c d (sym (is_xid_start-ascii c small) ∙ x)

word_no_digit : (c : ℕ) → starts_word c ≡ true → is_ascii_digit c ≡ false
word_no_digit c e = false_from_ne_true (is_ascii_digit c) (λ d. digit_starts_no_word c d (or_cases (c == underscore) (is_xid_start c) e))

digit_no_quote : (c : ℕ) → is_ascii_digit c ≡ true → c ≢ quote
digit_no_quote c e h = let P : ℕ → Type 0 = λ n. is_ascii_digit n ≡ true in false≢true (subst P h e)

pub form_at_literal : (c : ℕ) → c ≡ quote → form_at c ≡ literal
form_at_literal c h = ap form_at h

if_false : {A : Type 0} (b : Bool) (x y : A) → b ≡ false → (if b then x else y) ≡ y
if_false b x y e = ap (λ z. if z then x else y) e

if_true : {A : Type 0} (b : Bool) (x y : A) → b ≡ true → (if b then x else y) ≡ x
if_true b x y e = ap (λ z. if z then x else y) e

pub form_at_number : (c : ℕ) → is_ascii_digit c ≡ true → form_at c ≡ number
form_at_number c e = if_false _ _ _ (ne_eqb c quote (digit_no_quote c e)) ∙ if_true _ _ _ e

pub form_at_word : (c : ℕ) → starts_word c ≡ true → form_at c ≡ word
form_at_word c e = if_false _ _ _ (ne_eqb c quote (not_quote c e)) ∙ (if_false _ _ _ (word_no_digit c e) ∙ if_true _ _ _ e)

pub form_first : (f : Form) (c : ℕ) (cs : List ℕ) → HasFormOf f (c ∷ cs) → form_at c ≡ f
form_first word c cs h = form_at_word c h.0
form_first number c cs h = form_at_number c ((and_parts _ _ h).0)
form_first symbol c cs h = is_symbol_is (form_at c) (symbol_begins h.0 (c ∷ cs) h.1)
form_first literal c cs h = let e : c ≡ quote = cc h.2 in form_at_literal c e

pub form_not_empty : (f : Form) → HasFormOf f [] → ⊥
form_not_empty word h = h
form_not_empty number h = h
form_not_empty symbol h = false≢true (symbol_begins h.0 [] h.1)
form_not_empty literal h = cc h.2

-- two tokens that begin alike have one form
pub same_form : (f g : Form) (c : ℕ) (cs ds : List ℕ) → HasFormOf f (c ∷ cs) → HasFormOf g (c ∷ ds) → f ≡ g
same_form f g c cs ds h k = sym (form_first f c cs h) ∙ form_first g c ds k
