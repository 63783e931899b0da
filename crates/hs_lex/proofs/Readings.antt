-- A text is read as pieces in one way, up to its end or to a place where no piece can be read.
use Rattle.std.proofs.Common.{◌≡◌, ◌≢◌, ℕ, ◌≤◌, List, [], ◌∷◌, ◌++◌, length, Bool, true, false, ◌||◌, not, refl, sym, ap, ◌∙◌, subst, arith, ◌⊎◌, inl, inr, ⊎_elim}
use Rattle.std.specs.Prelude.{◌==◌}
use Rattle.std.specs.List.{list_any, list_all}
use Rattle.std.proofs.lemmas.Bool.{or_parts, or_cases, not-true, false≢true, eqb-true}
use Rattle.unicode_ident.proofs.Computing.{unicode_ident}
use Rattle.rules_tokens.specs.declared.token.Tok.{Tok}
use Rattle.rules_tokens.specs.Tokens.{dash, space, tab, carriage_return, line_feed, is_blank, is_line_feed, symbols, IsSymbolNumber, HasForm, IsLongest, EndsLine, Piece, Blank, Comment, Lexeme, piece_text, Fits, Spells, text_then, Read}
use Rattle.hs_lex.proofs.Forms.{Form, symbol, form_at, HasFormOf, form_first, form_not_empty, list_all_at}
use Rattle.hs_lex.proofs.Spellings.{form_of_token, spelled_form, spelled_has_form, spelled_same}

-- ---- a blank begins no token

blank_is_one : (c : ℕ) → is_blank c ≡ true → (c ≡ space) ⊎ (c ≡ tab) ⊎ (c ≡ carriage_return) ⊎ (c ≡ line_feed)
blank_is_one c e = ⊎_elim (λ a. ⊎_elim (λ b. ⊎_elim (λ d. inl (eqb-true c space d)) (λ d. inr (inl (eqb-true c tab d))) (or_cases (c == space) (c == tab) b)) (λ b. inr (inr (inl (eqb-true c carriage_return b)))) (or_cases ((c == space) || (c == tab)) (c == carriage_return) a)) (λ a. inr (inr (inr (eqb-true c line_feed a)))) (or_cases (((c == space) || (c == tab)) || (c == carriage_return)) (c == line_feed) e)

at_blank : (c : ℕ) → (c ≡ space) ⊎ (c ≡ tab) ⊎ (c ≡ carriage_return) ⊎ (c ≡ line_feed) → form_at c ≡ symbol
unfolding unicode_ident
at_blank c (inl e) = ap form_at e
at_blank c (inr (inl e)) = ap form_at e
at_blank c (inr (inr (inl e))) = ap form_at e
at_blank c (inr (inr (inr e))) = ap form_at e

pub at_dash : form_at dash ≡ symbol
unfolding unicode_ident
at_dash = refl

begins_no_blank : List ℕ → Bool
begins_no_blank [] = true
begins_no_blank (c ∷ cs) = not (is_blank c)

symbols_no_blank : list_all begins_no_blank symbols ≡ true
unfolding begins_no_blank
symbols_no_blank = refl

symbol_no_blank : (n : ℕ) (c : ℕ) (cs : List ℕ) → IsSymbolNumber n (c ∷ cs) → is_blank c ≡ false
unfolding begins_no_blank
symbol_no_blank n c cs e = not-true (is_blank c) (list_all_at begins_no_blank symbols n (c ∷ cs) symbols_no_blank e)

pub blank_no_form : (f : Form) (c : ℕ) (cs : List ℕ) → is_blank c ≡ true → HasFormOf f (c ∷ cs) → ⊥
blank_no_form f c cs b h =
    let form : f ≡ symbol = sym (form_first f c cs h) ∙ at_blank c (blank_is_one c b) in
    let s : HasFormOf symbol (c ∷ cs) = subst (λ z. HasFormOf z (c ∷ cs)) form h in
    false≢true (sym (symbol_no_blank s.0 c cs s.1) ∙ b)

-- ---- two pieces that begin one text

blank_comment : (c : ℕ) (body x y : List ℕ) → is_blank c ≡ true → c ∷ x ≡ dash ∷ dash ∷ y → ⊥
blank_comment c body x y b e = let same : c ≡ dash = cc in let P : ℕ → Type 0 = λ n. is_blank n ≡ true in false≢true (subst P same b)

blank_lexeme : (c : ℕ) (cs : List ℕ) (t : Tok) (x y : List ℕ) → is_blank c ≡ true → Spells cs t → c ∷ x ≡ cs ++ y → ⊥
blank_lexeme c [] t x y b h e = form_not_empty (form_of_token t) (spelled_form [] t h)
blank_lexeme c (d ∷ ds) t x y b h e = let same : d ≡ c = cc in blank_no_form (form_of_token t) d ds (ap is_blank same ∙ b) (spelled_form (d ∷ ds) t h)

lines_same : (a b x y : List ℕ) → list_any is_line_feed a ≡ false → list_any is_line_feed b ≡ false → EndsLine x → EndsLine y → a ++ x ≡ b ++ y → (a ≡ b) × (x ≡ y)
lines_same [] [] x y h k i j e = (refl, e)
lines_same [] (d ∷ b) x y h k i j e =
    let ends : is_line_feed d ≡ true = subst EndsLine e i in absurd (false≢true (sym (or_parts (is_line_feed d) (list_any is_line_feed b) k).0 ∙ ends))
lines_same (c ∷ a) [] x y h k i j e =
    let ends : is_line_feed c ≡ true = subst EndsLine (sym e) j in absurd (false≢true (sym (or_parts (is_line_feed c) (list_any is_line_feed a) h).0 ∙ ends))
lines_same (c ∷ a) (d ∷ b) x y h k i j e =
    let head : c ≡ d = cc in
    let rest : (a ≡ b) × (x ≡ y) = lines_same a b x y ((or_parts (is_line_feed c) (list_any is_line_feed a) h).1) ((or_parts (is_line_feed d) (list_any is_line_feed b) k).1) i j (cc) in
    let tail : a ≡ b = rest.0 in
    (cc, rest.1)

pub front_same : (a b x y : List ℕ) → length a ≡ length b → a ++ x ≡ b ++ y → (a ≡ b) × (x ≡ y)
front_same [] [] x y l e = (refl, e)
front_same [] (d ∷ b) x y l e = absurd (omega arith)
front_same (c ∷ a) [] x y l e = absurd (omega arith)
front_same (c ∷ a) (d ∷ b) x y l e =
    let head : c ≡ d = cc in
    let rest : (a ≡ b) × (x ≡ y) = front_same a b x y (omega arith) (cc) in
    let tail : a ≡ b = rest.0 in
    (cc, rest.1)

pub longest_same : (a b x y : List ℕ) → HasForm a → HasForm b → IsLongest a x → IsLongest b y → a ++ x ≡ b ++ y → (a ≡ b) × (x ≡ y)
longest_same a b x y f g h k e =
    let le : length b ≤ length a = h b y g (sym e) in
    let ge : length a ≤ length b = k a x f e in
    front_same a b x y (omega arith) e

pub piece_same : (p q : Piece) (x y : List ℕ) → Fits p x → Fits q y → piece_text p ++ x ≡ piece_text q ++ y → (p ≡ q) × (x ≡ y)
piece_same (Blank c) (Blank d) x y h k e = let same : c ≡ d = cc in (ap Blank same, cc)
piece_same (Blank c) (Comment b) x y h k e = absurd (blank_comment c b x (b ++ y) h e)
piece_same (Blank c) (Lexeme ds u) x y h k e = absurd (blank_lexeme c ds u x y h k.0 e)
piece_same (Comment a) (Blank d) x y h k e = absurd (blank_comment d a y (a ++ x) k (sym e))
piece_same (Comment a) (Comment b) x y h k e = let same : (a ≡ b) × (x ≡ y) = lines_same a b x y h.0 k.0 h.1 k.1 (cc) in (ap Comment same.0, same.1)
piece_same (Comment a) (Lexeme ds u) x y h k e = absurd (k.2 (a ++ x, sym e))
piece_same (Lexeme cs t) (Blank d) x y h k e = absurd (blank_lexeme d cs t y x k h.0 (sym e))
piece_same (Lexeme cs t) (Comment b) x y h k e = absurd (h.2 (b ++ y, e))
piece_same (Lexeme cs t) (Lexeme ds u) x y h k e =
    let same : (cs ≡ ds) × (x ≡ y) = longest_same cs ds x y (spelled_has_form cs t h.0) (spelled_has_form ds u k.0) h.1 k.1 e in
    let texts : cs ≡ ds = same.0 in
    let tokens : t ≡ u = spelled_same ds t u (subst (λ z. Spells z t) texts h.0) k.0 in
    (cc, same.1)

-- ---- where no piece begins

abbrev pub IsDead : List ℕ → Type 0
IsDead rest = (p : Piece) (x : List ℕ) → Fits p x → piece_text p ++ x ≢ rest

pub dead_end : IsDead []
dead_end (Blank c) x h e = cc
dead_end (Comment b) x h e = cc
dead_end (Lexeme [] t) x h e = form_not_empty (form_of_token t) (spelled_form [] t h.0)
dead_end (Lexeme (c ∷ cs) t) x h e = cc

pub read_same : (ps qs : List Piece) (x y : List ℕ) → Read ps x → Read qs y → IsDead x → IsDead y → text_then ps x ≡ text_then qs y → (ps ≡ qs) × (x ≡ y)
read_same [] [] x y h k i j e = (refl, e)
read_same [] (q ∷ qs) x y h k i j e = absurd (i q (text_then qs y) k.0 (sym e))
read_same (p ∷ ps) [] x y h k i j e = absurd (j p (text_then ps x) h.0 e)
read_same (p ∷ ps) (q ∷ qs) x y h k i j e =
    let head : (p ≡ q) × (text_then ps x ≡ text_then qs y) = piece_same p q (text_then ps x) (text_then qs y) h.0 k.0 e in
    let rest : (ps ≡ qs) × (x ≡ y) = read_same ps qs x y h.1 k.1 i j head.1 in
    let first : p ≡ q = head.0 in
    let tail : ps ≡ qs = rest.0 in
    (cc, rest.1)
