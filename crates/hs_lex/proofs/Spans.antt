-- The spans of tokens.
use Rattle.std.proofs.Common.{◌≡◌, ℕ, ◌-◌, ◌<◌, ◌≤◌, List, [], ◌∷◌, ◌++◌, length, take, drop, Result, Ok, Err, sym, ap, ◌∙◌, subst, arith, append_assoc, length-append}
use Rattle.std.specs.Prelude.{IfOk, slice_range}
use Rattle.std.specs.Str.{encode_utf8_all}
use Rattle.std.proofs.lemmas.Str.{encodes-append, length-le-encodes}
use Rattle.std.proofs.Math.Seq.{take-append_seam, drop-append_seam}
use Rattle.rules_tokens.specs.declared.token.Token.{Token}
use Rattle.rules_tokens.specs.declared.token.Tokens.{Tokens}
use Rattle.rules_tokens.specs.Tokens.{dash, Piece, Blank, Comment, Lexeme, Read, text_then, tokens_behind}
use Rattle.hs_lex.specs.declared.fault.LexFault.{LexFault}
use Rattle.hs_lex.specs.Answers.{IsRight, AreRising, AreSlices}
use Rattle.hs_lex.proofs.Forms.{form_not_empty}
use Rattle.hs_lex.proofs.Spellings.{form_of_token, spelled_form}
use Rattle.hs_lex.proofs.Places.{bytes_front}

-- ---- they rise

rising_from : (from to : ℕ) (ts : List Token) → from ≤ to → AreRising to ts → AreRising from ts
rising_from from to [] le h = tt
rising_from from to (t ∷ ts) le h = let later : to ≤ t.start = h.0 in (omega arith, h.1, h.2)

spelled_bytes : (before cs : List ℕ) → 0 < length cs → length (encode_utf8_all before) < length (encode_utf8_all (before ++ cs))
spelled_bytes before cs some = omega (arith, ap length (encodes-append before cs), length-append (encode_utf8_all before) (encode_utf8_all cs), length-le-encodes cs)

pieces_rise : (before : List ℕ) (ps : List Piece) (after : List ℕ) → Read ps after → AreRising (length (encode_utf8_all before)) (tokens_behind before ps)
pieces_rise before [] after r = tt
pieces_rise before (Blank c ∷ ps) after r =
    rising_from (length (encode_utf8_all before)) (length (encode_utf8_all (before ++ c ∷ []))) (tokens_behind (before ++ c ∷ []) ps) (bytes_front before (c ∷ [])) (pieces_rise (before ++ c ∷ []) ps after r.1)
pieces_rise before (Comment body ∷ ps) after r =
    rising_from (length (encode_utf8_all before)) (length (encode_utf8_all (before ++ dash ∷ dash ∷ body))) (tokens_behind (before ++ dash ∷ dash ∷ body) ps) (bytes_front before (dash ∷ dash ∷ body))
    (pieces_rise (before ++ dash ∷ dash ∷ body) ps after r.1)
pieces_rise before (Lexeme [] t ∷ ps) after r = absurd (form_not_empty (form_of_token t) (spelled_form [] t r.0.0))
pieces_rise before (Lexeme (c ∷ cs) t ∷ ps) after r =
    (omega arith, spelled_bytes before (c ∷ cs) (omega arith), pieces_rise (before ++ c ∷ cs) ps after r.1)

-- ---- they hold the text

slice_is : (source before cs after : List ℕ) → source ≡ encode_utf8_all (before ++ (cs ++ after))
    → slice_range source (length (encode_utf8_all before)) (length (encode_utf8_all (before ++ cs))) ≡ encode_utf8_all cs
slice_is source before cs after e =
    let front : List ℕ = encode_utf8_all before in
    let split : source ≡ front ++ (encode_utf8_all cs ++ encode_utf8_all after) = e ∙ (encodes-append before (cs ++ after) ∙ ap (λ z. front ++ z) (encodes-append cs after)) in
    let len : length (encode_utf8_all (before ++ cs)) - length front ≡ length (encode_utf8_all cs) = omega (arith, ap length (encodes-append before cs), length-append front (encode_utf8_all cs)) in
    ap (λ k. take k (drop (length front) source)) len
    ∙ (ap (λ z. take (length (encode_utf8_all cs)) (drop (length front) z)) split
    ∙ (ap (take (length (encode_utf8_all cs))) (drop-append_seam front (encode_utf8_all cs ++ encode_utf8_all after)) ∙ take-append_seam (encode_utf8_all cs) (encode_utf8_all after)))

pieces_slice : (source before : List ℕ) (ps : List Piece) → Read ps [] → source ≡ encode_utf8_all (before ++ text_then ps []) → AreSlices source (tokens_behind before ps)
pieces_slice source before [] r e = tt
pieces_slice source before (Blank c ∷ ps) r e =
    pieces_slice source (before ++ c ∷ []) ps r.1 (e ∙ ap encode_utf8_all (sym (append_assoc before (c ∷ []) (text_then ps []))))
pieces_slice source before (Comment body ∷ ps) r e =
    pieces_slice source (before ++ dash ∷ dash ∷ body) ps r.1 (e ∙ ap encode_utf8_all (sym (append_assoc before (dash ∷ dash ∷ body) (text_then ps []))))
pieces_slice source before (Lexeme cs t ∷ ps) r e = (
  (cs, r.0.0, slice_is source before cs (text_then ps []) e),
  pieces_slice source (before ++ cs) ps r.1 (e ∙ ap encode_utf8_all (sym (append_assoc before cs (text_then ps [])))),
)

-- ---- of an answer that is right

pub spans_of : (bytes : List ℕ) (answer : Result Tokens LexFault) → IsRight bytes answer → IfOk answer (λ tokens. AreRising 0 tokens.list)
spans_of bytes (Ok tokens) h = subst (AreRising 0) (sym h.list) (pieces_rise [] h.pieces [] h.read)
spans_of bytes (Err e) h = tt

pub slices_of : (bytes : List ℕ) (answer : Result Tokens LexFault) → IsRight bytes answer → IfOk answer (λ tokens. AreSlices bytes tokens.list)
slices_of bytes (Ok tokens) h = subst (AreSlices bytes) (sym h.list) (pieces_slice bytes [] h.pieces h.read (h.text.1 ∙ ap encode_utf8_all (sym h.split)))
slices_of bytes (Err e) h = tt
