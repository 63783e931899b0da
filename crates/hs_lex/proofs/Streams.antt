-- A script read piece by piece.
use Rattle.std.proofs.Common.{◌≡◌, ℕ, ◌+◌, ◌<◌, ◌≤◌, List, [], ◌∷◌, ◌++◌, length, take, drop, refl, sym, ap, ◌∙◌, subst, arith, append_assoc, append-nil, length-append}
use Rattle.std.specs.Str.{encode_utf8_all}
use Rattle.std.proofs.lemmas.List.{take-append-drop, take_all, drop_all, length-take-le}
use Rattle.hs_base.specs.declared.pos.Pos.{Pos}
use Rattle.rules_tokens.specs.declared.token.Tok.{Tok}
use Rattle.rules_tokens.specs.declared.token.Token.{Token}
use Rattle.rules_tokens.specs.Tokens.{dash, Piece, Blank, Comment, Lexeme, piece_text, Fits, text_then, Read, token_behind, tokens_behind, position_after, IsTextOf, HasTokens, HasFault}
use Rattle.hs_lex.specs.declared.place.Place.{Place}
use Rattle.hs_lex.specs.declared.front.Front.TheVariants as front
use Rattle.hs_lex.specs.declared.front.Flaw.{Flaw}
use Rattle.hs_lex.specs.Fronts.{IsCut, IsGap, IsPlace, StandsAt, fault_of}
use Rattle.hs_lex.proofs.Cuts.{cut_take, cut_drop, cut_within}
use Rattle.hs_lex.proofs.Forms.{form_not_empty}
use Rattle.hs_lex.proofs.Spellings.{form_of_token, spelled_form}

-- the first n characters are pieces, and these are their tokens
pub record IsReadTo (chars : List ℕ) (n : ℕ) (list : List Token) : Type 0 where
  pub pieces : List Piece
  pub whole : text_then pieces (drop n chars) ≡ chars
  pub front : text_then pieces [] ≡ take n chars
  pub read : Read pieces (drop n chars)
  pub tokens : list ≡ tokens_behind [] pieces

pub read_start : (chars : List ℕ) → IsReadTo chars 0 []
read_start chars = record { pieces = []; whole = refl; front = refl; read = tt; tokens = refl }

-- ---- one piece more

text_then-split : (ps : List Piece) (after : List ℕ) → text_then ps after ≡ text_then ps [] ++ after
text_then-split [] after = refl
text_then-split (p ∷ ps) after = ap (λ z. piece_text p ++ z) (text_then-split ps after) ∙ sym (append_assoc (piece_text p) (text_then ps []) after)

text_then-push : (ps : List Piece) (p : Piece) (after : List ℕ) → text_then (ps ++ p ∷ []) after ≡ text_then ps (piece_text p ++ after)
text_then-push [] p after = refl
text_then-push (q ∷ ps) p after = ap (λ z. piece_text q ++ z) (text_then-push ps p after)

read-push : (ps : List Piece) (p : Piece) (after : List ℕ) → Read ps (piece_text p ++ after) → Fits p after → Read (ps ++ p ∷ []) after
read-push [] p after r f = (f, tt)
read-push (q ∷ ps) p after r f = (subst (Fits q) (sym (text_then-push ps p after)) r.0, read-push ps p after r.1 f)

-- the token of a piece, if it is one
abbrev piece_tokens : List ℕ → Piece → List Token
piece_tokens before (Blank c) = []
piece_tokens before (Comment body) = []
piece_tokens before (Lexeme cs t) = token_behind before cs t ∷ []

tokens-push : (before : List ℕ) (ps : List Piece) (p : Piece) → tokens_behind before (ps ++ p ∷ []) ≡ tokens_behind before ps ++ piece_tokens (before ++ text_then ps []) p
tokens-push before [] (Blank c) = refl
tokens-push before [] (Comment body) = refl
tokens-push before [] (Lexeme cs t) = ap (λ z. token_behind z cs t ∷ []) (sym (append-nil before))
tokens-push before (Blank c ∷ ps) p =
    tokens-push (before ++ c ∷ []) ps p ∙ ap (λ z. tokens_behind (before ++ c ∷ []) ps ++ piece_tokens z p) (append_assoc before (c ∷ []) (text_then ps []))
tokens-push before (Comment body ∷ ps) p =
    tokens-push (before ++ dash ∷ dash ∷ body) ps p ∙ ap (λ z. tokens_behind (before ++ dash ∷ dash ∷ body) ps ++ piece_tokens z p) (append_assoc before (dash ∷ dash ∷ body) (text_then ps []))
tokens-push before (Lexeme cs t ∷ ps) p =
    ap (λ z. token_behind before cs t ∷ z)
    (tokens-push (before ++ cs) ps p ∙ ap (λ z. tokens_behind (before ++ cs) ps ++ piece_tokens z p) (append_assoc before cs (text_then ps [])))

-- what is left behind n and then k characters
pub drop_cut : (chars : List ℕ) (n k : ℕ) (cs after : List ℕ) → n ≤ length chars → IsCut (drop n chars) k cs after → (take (n + k) chars ≡ take n chars ++ cs) × (drop (n + k) chars ≡ after)
drop_cut chars n k cs after within cut =
    let front : List ℕ = take n chars ++ cs in
    let whole : front ++ after ≡ chars = append_assoc (take n chars) cs after ∙ (ap (λ z. take n chars ++ z) cut.whole ∙ take-append-drop n chars) in
    let len : length front ≡ n + k = let l : length cs ≡ k = cut.len in omega (arith, length-append (take n chars) cs, length-take-le n chars within) in
    let both : IsCut chars (n + k) front after = record { whole = whole; len = len } in
    (cut_take chars (n + k) front after both, cut_drop chars (n + k) front after both)

read_piece : (chars : List ℕ) (n k : ℕ) (list : List Token) (p : Piece) (after : List ℕ) → IsReadTo chars n list → n ≤ length chars → IsCut (drop n chars) k (piece_text p) after → Fits p after
    → IsReadTo chars (n + k) (list ++ piece_tokens (take n chars) p)
read_piece chars n k list p after r within cut fits =
    let both = drop_cut chars n k (piece_text p) after within cut in
    let rest : piece_text p ++ drop (n + k) chars ≡ drop n chars = ap (λ z. piece_text p ++ z) both.1 ∙ cut.whole in
    record {
      pieces = r.pieces ++ p ∷ [];
      whole = text_then-push r.pieces p (drop (n + k) chars) ∙ (ap (text_then r.pieces) rest ∙ r.whole);
      front = text_then-push r.pieces p [] ∙ (text_then-split r.pieces (piece_text p ++ []) ∙ (ap (λ z. text_then r.pieces [] ++ z) (append-nil (piece_text p)) ∙ (ap (λ z. z ++ piece_text p) r.front ∙ sym both.0)));
      read = read-push r.pieces p (drop (n + k) chars) (subst (Read r.pieces) (sym rest) r.read) (subst (Fits p) (sym both.1) fits);
      tokens = ap (λ z. z ++ piece_tokens (take n chars) p) r.tokens ∙ (ap (λ z. tokens_behind [] r.pieces ++ piece_tokens z p) (sym r.front) ∙ sym (tokens-push [] r.pieces p));
    }

gap_tokens : (before : List ℕ) (p : Piece) → IsGap p → piece_tokens before p ≡ []
gap_tokens before (Blank c) g = refl
gap_tokens before (Comment body) g = refl
gap_tokens before (Lexeme cs t) g = absurd g

-- a blank or a comment more
pub read_gap : (chars : List ℕ) (n k : ℕ) (list : List Token) → IsReadTo chars n list → n ≤ length chars → StandsAt (drop n chars) (front.Gap k) → IsReadTo chars (n + k) list
read_gap chars n k list r within (p, after, cut, gap, fits) =
    subst (IsReadTo chars (n + k)) (ap (λ z. list ++ z) (gap_tokens (take n chars) p gap) ∙ append-nil list) (read_piece chars n k list p after r within cut fits)

-- a token more
pub read_token : (chars : List ℕ) (n k : ℕ) (list : List Token) (t : Tok) (from to : Place) → IsReadTo chars n list → IsPlace chars from → from.at ≡ n → IsPlace chars to → to.at ≡ n + k
    → StandsAt (drop n chars) (front.Token k t) → IsReadTo chars (n + k) (list ++ record { tok = t; start = from.byte; end = to.byte; pos = from.pos } ∷ [])
read_token chars n k list t from to r a an b bn (cs, after, cut, fits) =
    let within : n ≤ length chars = subst (λ z. z ≤ length chars) an a.within in
    let both = drop_cut chars n k cs after within cut in
    let of : ℕ → ℕ → Pos → Token = λ x y z. record { tok = t; start = x; end = y; pos = z } in
    let start : from.byte ≡ length (encode_utf8_all (take n chars)) = a.byte ∙ ap (λ z. length (encode_utf8_all (take z chars))) an in
    let end : to.byte ≡ length (encode_utf8_all (take n chars ++ cs)) = b.byte ∙ (ap (λ z. length (encode_utf8_all (take z chars))) bn ∙ ap (λ z. length (encode_utf8_all z)) both.0) in
    let place : from.pos ≡ position_after (take n chars) = a.pos ∙ ap (λ z. position_after (take z chars)) an in
    let same : token_behind (take n chars) cs t ≡ of from.byte to.byte from.pos =
    ap (λ x. of x (length (encode_utf8_all (take n chars ++ cs))) (position_after (take n chars))) (sym start) ∙ (ap (λ y. of from.byte y (position_after (take n chars))) (sym end) ∙ ap (of from.byte to.byte) (sym place)) in
    subst (λ z. IsReadTo chars (n + k) (list ++ z ∷ [])) same (read_piece chars n k list (Lexeme cs t) after r within cut fits)

-- a fault
pub read_fault : (text chars : List ℕ) (n k : ℕ) (list : List Token) (f : Flaw) (at : Place) → IsTextOf text chars → IsReadTo chars n list → n ≤ length chars → IsPlace chars at → at.at ≡ n + k
    → StandsAt (drop n chars) (front.Wrong f k) → HasFault text (fault_of f) at.pos
read_fault text chars n k list f at same r within a an (read, after, cut, faulty) =
    let both = drop_cut chars n k read after within cut in
    record {
      characters = chars;
      pieces = r.pieces;
      rest = drop n chars;
      behind = read;
      text = same;
      split = r.whole;
      read = r.read;
      faulty = faulty;
      place = a.pos ∙ (ap (λ z. position_after (take z chars)) an ∙ (ap position_after both.0 ∙ ap (λ z. position_after (z ++ read)) (sym r.front)));
    }

-- the end
pub read_all : (text chars : List ℕ) (list : List Token) (at : Place) (source : List ℕ) → IsTextOf text chars → IsReadTo chars at.at list → IsPlace chars at → length chars ≤ at.at → source ≡ text
    → HasTokens text (record { list = list; source = source; end = at.pos })
read_all text chars list at source same r a past is =
    let none : drop at.at chars ≡ [] = drop_all at.at chars past in
    record {
      characters = chars;
      pieces = r.pieces;
      text = same;
      split = ap (text_then r.pieces) (sym none) ∙ r.whole;
      read = subst (Read r.pieces) none r.read;
      list = r.tokens;
      source = is;
      last = a.pos ∙ ap position_after (take_all at.at chars past);
    }

-- ---- each piece takes a character

piece_len : (p : Piece) (after : List ℕ) → Fits p after → 0 < length (piece_text p)
piece_len (Blank c) after f = omega arith
piece_len (Comment body) after f = omega arith
piece_len (Lexeme [] t) after f = absurd (form_not_empty (form_of_token t) (spelled_form [] t f.0))
piece_len (Lexeme (c ∷ cs) t) after f = omega arith

pub gap_len : (rest : List ℕ) (n : ℕ) → StandsAt rest (front.Gap n) → 0 < n
gap_len rest n (p, after, cut, gap, fits) = omega (arith, piece_len p after fits, cut.len)

pub token_len : (rest : List ℕ) (n : ℕ) (t : Tok) → StandsAt rest (front.Token n t) → 0 < n
token_len rest n t (cs, after, cut, fits) = omega (arith, piece_len (Lexeme cs t) after fits, cut.len)

-- ---- nothing reaches past the end

pub gap_within : (rest : List ℕ) (n : ℕ) → StandsAt rest (front.Gap n) → n ≤ length rest
gap_within rest n (p, after, cut, gap, fits) = cut_within rest n (piece_text p) after cut

pub token_within : (rest : List ℕ) (n : ℕ) (t : Tok) → StandsAt rest (front.Token n t) → n ≤ length rest
token_within rest n t (cs, after, cut, fits) = cut_within rest n cs after cut

pub wrong_within : (rest : List ℕ) (n : ℕ) (f : Flaw) → StandsAt rest (front.Wrong f n) → n ≤ length rest
wrong_within rest n f (read, after, cut, faulty) = cut_within rest n read after cut
