-- The characters of a token say which token it is.
use Rattle.std.proofs.Common.{◌≡◌, ℕ, zero, suc, List, [], ◌∷◌, ◌++◌, Bool, true, false, ◌&&◌, not, Some, None, refl, sym, ap, ◌∙◌, subst, inl, inr}
use Rattle.std.specs.Prelude.{slice_get, map}
use Rattle.std.specs.List.{list_any}
use Rattle.std.specs.Str.{bytes_eq, encode_utf8_all}
use Rattle.std.proofs.lemmas.Bool.{and_parts, or_parts, not-true, false≢true}
use Rattle.std.proofs.lemmas.Slice.Eq.{bytes_eq-Decides}
use Rattle.rules_tokens.specs.declared.token.Tok.{Tok}
use Rattle.rules_tokens.specs.declared.token.Tok.TheVariants as tok
use Rattle.rules_tokens.specs.Tokens.{IsReserved, reserved_words, IsSymbolNumber, symbols, HasForm, Spells, LiteralPart, Escape, meaning, escaped, StandFor}
use Rattle.hs_lex.proofs.Forms.{Form, word, number, symbol, literal, HasFormOf, form_not_empty, same_form}
use Rattle.hs_lex.proofs.Literals.{literal_same}

-- ---- a table in which no text stands twice

abbrev distinct : List (List ℕ) → Bool
distinct [] = true
distinct (x ∷ xs) = not (list_any (bytes_eq x) xs) && distinct xs

among : (xs : List (List ℕ)) (n : ℕ) (x : List ℕ) → slice_get xs n ≡ Some x → list_any (bytes_eq x) xs ≡ false → ⊥
among [] n x e a = cc
among (y ∷ ys) zero x e a =
    let same : x ≡ y = cc in
    let parts : (bytes_eq x y ≡ false) × (list_any (bytes_eq x) ys ≡ false) = or_parts (bytes_eq x y) (list_any (bytes_eq x) ys) a in
    false≢true (sym parts.0 ∙ (bytes_eq-Decides x y).1 same)
among (y ∷ ys) (suc n) x e a =
    let parts : (bytes_eq x y ≡ false) × (list_any (bytes_eq x) ys ≡ false) = or_parts (bytes_eq x y) (list_any (bytes_eq x) ys) a in
    among ys n x e parts.1

not_behind : (x : List ℕ) (xs : List (List ℕ)) (n : ℕ) → distinct (x ∷ xs) ≡ true → slice_get xs n ≡ Some x → ⊥
not_behind x xs n d e = among xs n x e (not-true (list_any (bytes_eq x) xs) ((and_parts _ _ d).0))

pub one_place : (xs : List (List ℕ)) (m n : ℕ) (x : List ℕ) → distinct xs ≡ true → slice_get xs m ≡ Some x → slice_get xs n ≡ Some x → m ≡ n
one_place [] m n x d e g = absurd (cc)
one_place (y ∷ ys) zero zero x d e g = refl
one_place (y ∷ ys) zero (suc n) x d e g = let same : y ≡ x = cc in absurd (not_behind y ys n d (g ∙ ap Some (sym same)))
one_place (y ∷ ys) (suc m) zero x d e g = let same : y ≡ x = cc in absurd (not_behind y ys m d (e ∙ ap Some (sym same)))
one_place (y ∷ ys) (suc m) (suc n) x d e g = ap suc (one_place ys m n x ((and_parts _ _ d).1) e g)

words_distinct : distinct reserved_words ≡ true
words_distinct = refl

symbols_distinct : distinct symbols ≡ true
symbols_distinct = refl

pub reserved_same : (m n : ℕ) (cs : List ℕ) → IsReserved m cs → IsReserved n cs → m ≡ n
reserved_same m n cs h k = one_place reserved_words m n (encode_utf8_all cs) words_distinct h k

pub symbol_same : (m n : ℕ) (cs : List ℕ) → IsSymbolNumber m cs → IsSymbolNumber n cs → m ≡ n
symbol_same m n cs h k = one_place symbols m n cs symbols_distinct h k

-- ---- what parts stand for

pub some_same : (xs ys : List ℕ) → map Some xs ≡ map Some ys → xs ≡ ys
some_same [] [] e = refl
some_same [] (y ∷ ys) e = absurd (cc)
some_same (x ∷ xs) [] e = absurd (cc)
some_same (x ∷ xs) (y ∷ ys) e = let head : x ≡ y = cc in let rest : xs ≡ ys = some_same xs ys (cc) in cc

pub meant_same : (ps : List LiteralPart) (cs ds : List ℕ) → StandFor ps cs → StandFor ps ds → cs ≡ ds
meant_same ps cs ds h k = some_same cs ds (sym h ∙ k)

-- no characters are meant where an escape is wrong
pub wrong_means_none : (good more : List LiteralPart) (wrong : ℕ) (cs : List ℕ) → escaped wrong ≡ None → StandFor (good ++ Escape wrong ∷ more) cs → ⊥
wrong_means_none [] more wrong [] n e = cc
wrong_means_none [] more wrong (c ∷ cs) n e = cc
wrong_means_none (p ∷ ps) more wrong [] n e = cc
wrong_means_none (p ∷ ps) more wrong (c ∷ cs) n e = wrong_means_none ps more wrong cs n (cc)

-- the first wrong escape stands at one place
pub first_wrong_same : (ps qs more rest : List LiteralPart) (c d : ℕ) (xs ys : List ℕ) → escaped c ≡ None → escaped d ≡ None → StandFor ps xs → StandFor qs ys
    → ps ++ Escape c ∷ more ≡ qs ++ Escape d ∷ rest → ps ≡ qs
first_wrong_same [] [] more rest c d xs ys m n h k e = refl
first_wrong_same [] (q ∷ qs) more rest c d xs [] m n h k e = absurd (cc)
first_wrong_same [] (q ∷ qs) more rest c d xs (y ∷ ys) m n h k e =
    let same : Escape c ≡ q = cc in let means : meaning q ≡ Some y = cc in let none : escaped c ≡ Some y = ap meaning same ∙ means in absurd (cc)
first_wrong_same (p ∷ ps) [] more rest c d [] ys m n h k e = absurd (cc)
first_wrong_same (p ∷ ps) [] more rest c d (x ∷ xs) ys m n h k e =
    let same : Escape d ≡ p = cc in let means : meaning p ≡ Some x = cc in let none : escaped d ≡ Some x = ap meaning same ∙ means in absurd (cc)
first_wrong_same (p ∷ ps) (q ∷ qs) more rest c d [] ys m n h k e = absurd (cc)
first_wrong_same (p ∷ ps) (q ∷ qs) more rest c d (x ∷ xs) [] m n h k e = absurd (cc)
first_wrong_same (p ∷ ps) (q ∷ qs) more rest c d (x ∷ xs) (y ∷ ys) m n h k e =
    let head : p ≡ q = cc in
    let tail : ps ≡ qs = first_wrong_same ps qs more rest c d xs ys m n (cc) (cc) (cc) in
    cc

-- ---- tokens

abbrev pub form_of_token : Tok → Form
form_of_token (tok.Name text) = word
form_of_token tok.Upper = word
form_of_token (tok.Int value) = number
form_of_token (tok.Text text) = literal
form_of_token (tok.Word n) = word
form_of_token (tok.Sym n) = symbol

pub spelled_form : (cs : List ℕ) (t : Tok) → Spells cs t → HasFormOf (form_of_token t) cs
spelled_form cs (tok.Name text) h = h.0
spelled_form cs tok.Upper h = h.0
spelled_form cs (tok.Int value) h = h.0
spelled_form cs (tok.Text text) (ps, meant, stands, e, m, t) = (ps, stands, e)
spelled_form cs (tok.Word n) h = h.0
spelled_form cs (tok.Sym n) h = (n, h)

pub form_has : (f : Form) (cs : List ℕ) → HasFormOf f cs → HasForm cs
form_has word cs h = inl h
form_has number cs h = inr (inl h)
form_has symbol cs h = inr (inr (inl h))
form_has literal cs h = inr (inr (inr h))

pub spelled_has_form : (cs : List ℕ) (t : Tok) → Spells cs t → HasForm cs
spelled_has_form cs t h = form_has (form_of_token t) cs (spelled_form cs t h)

text_same : (cs : List ℕ) (a b : List ℕ) → Spells cs (tok.Text a) → Spells cs (tok.Text b) → a ≡ b
text_same cs a b (ps, meant, stands, e, m, t) (qs, meant', stands', e', m', t') =
    let empty : List ℕ = [] in
    let same : (ps ≡ qs) × (empty ≡ empty) = literal_same ps qs empty empty stands stands' (ap (λ z. z ++ empty) (sym e ∙ e')) in
    let meant_too : meant ≡ meant' = meant_same qs meant meant' (subst (λ z. StandFor z meant) same.0 m) m' in
    t ∙ (ap encode_utf8_all meant_too ∙ sym t')

spelled_same_at : (c : ℕ) (cs : List ℕ) (t u : Tok) → form_of_token t ≡ form_of_token u → Spells (c ∷ cs) t → Spells (c ∷ cs) u → t ≡ u
spelled_same_at c cs (tok.Name a) (tok.Name b) f h k = ap tok.Name (h.3 ∙ sym k.3)
spelled_same_at c cs (tok.Name a) tok.Upper f h k = absurd (false≢true (sym h.2 ∙ k.2))
spelled_same_at c cs (tok.Name a) (tok.Word n) f h k = absurd (h.1 n k.1)
spelled_same_at c cs tok.Upper (tok.Name b) f h k = absurd (false≢true (sym k.2 ∙ h.2))
spelled_same_at c cs tok.Upper tok.Upper f h k = refl
spelled_same_at c cs tok.Upper (tok.Word n) f h k = absurd (h.1 n k.1)
spelled_same_at c cs (tok.Word n) (tok.Name b) f h k = absurd (k.1 n h.1)
spelled_same_at c cs (tok.Word n) tok.Upper f h k = absurd (k.1 n h.1)
spelled_same_at c cs (tok.Word m) (tok.Word n) f h k = ap tok.Word (reserved_same m n (c ∷ cs) h.1 k.1)
spelled_same_at c cs (tok.Int m) (tok.Int n) f h k = ap tok.Int (h.2 ∙ sym k.2)
spelled_same_at c cs (tok.Text a) (tok.Text b) f h k = ap tok.Text (text_same (c ∷ cs) a b h k)
spelled_same_at c cs (tok.Sym m) (tok.Sym n) f h k = ap tok.Sym (symbol_same m n (c ∷ cs) h k)
spelled_same_at c cs t u f h k = absurd (cc)

pub spelled_same : (cs : List ℕ) (t u : Tok) → Spells cs t → Spells cs u → t ≡ u
spelled_same [] t u h k = absurd (form_not_empty (form_of_token t) (spelled_form [] t h))
spelled_same (c ∷ cs) t u h k =
    spelled_same_at c cs t u (same_form (form_of_token t) (form_of_token u) c cs cs (spelled_form (c ∷ cs) t h) (spelled_form (c ∷ cs) u k)) h k
