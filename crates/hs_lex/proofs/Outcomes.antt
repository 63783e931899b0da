-- Some bytes have one outcome at most.
use Rattle.std.proofs.Common.{◌≡◌, ℕ, ◌<◌, List, [], ◌∷◌, ◌++◌, length, true, refl, sym, ap, ◌∙◌, subst, arith, append_assoc, length-append}
use Rattle.std.specs.Str.{encode_utf8_all, all_scalars, StartsWithNoChar}
use Rattle.std.specs.Char.{encode_utf8}
use Rattle.std.proofs.lemmas.Bool.{and_parts}
use Rattle.std.proofs.lemmas.Str.{encodes_same, encode_same, length-encode, len_utf8_bounds}
use Rattle.hs_base.specs.declared.pos.Pos.{Pos}
use Rattle.rules_tokens.specs.declared.token.Token.{Token}
use Rattle.rules_tokens.specs.declared.token.Tokens.{Tokens}
use Rattle.rules_tokens.specs.Tokens.{text_then, tokens_behind, position_after, Fault, IsFaulty, IsTextOf, HasTokens, HasFault, IsNoText, Outcome, Lexed, NotUtf8, Faulty, LexesTo}
use Rattle.hs_lex.proofs.Readings.{dead_end, read_same}
use Rattle.hs_lex.proofs.Faults.{fault_dead, fault_same, end_not_faulty}

text_same : (bytes cs ds : List ℕ) → IsTextOf bytes cs → IsTextOf bytes ds → cs ≡ ds
text_same bytes cs ds h k = encodes_same cs ds (sym h.1 ∙ k.1)

encode_not_empty : (c : ℕ) (x : List ℕ) → encode_utf8 c ++ x ≡ [] → ⊥
encode_not_empty c x e =
    let none : length (encode_utf8 c ++ x) ≡ 0 = ap length e in
    omega (arith, length-append (encode_utf8 c) x, length-encode c, (len_utf8_bounds c).0, none)

-- characters and then a byte where none begins are no text
no_text : (cs ds rest : List ℕ) → all_scalars ds ≡ true → 0 < length rest → StartsWithNoChar rest → encode_utf8_all cs ++ rest ≡ encode_utf8_all ds → ⊥
no_text [] [] rest s l n e = omega (arith, ap length e)
no_text [] (d ∷ ds) rest s l n e = n d (encode_utf8_all ds) ((and_parts _ _ s).0) e
no_text (c ∷ cs) [] rest s l n e = encode_not_empty c (encode_utf8_all cs ++ rest) (sym (append_assoc (encode_utf8 c) (encode_utf8_all cs) rest) ∙ e)
no_text (c ∷ cs) (d ∷ ds) rest s l n e =
    let whole : encode_utf8 c ++ (encode_utf8_all cs ++ rest) ≡ encode_utf8 d ++ encode_utf8_all ds = sym (append_assoc (encode_utf8 c) (encode_utf8_all cs) rest) ∙ e in
    no_text cs ds rest ((and_parts _ _ s).1) l n ((encode_same c d (encode_utf8_all cs ++ rest) (encode_utf8_all ds) whole).1)

-- the characters before such a byte
broken_same : (cs ds x y : List ℕ) → all_scalars cs ≡ true → all_scalars ds ≡ true → StartsWithNoChar x → StartsWithNoChar y
    → encode_utf8_all cs ++ x ≡ encode_utf8_all ds ++ y → cs ≡ ds
broken_same [] [] x y s t h k e = refl
broken_same [] (d ∷ ds) x y s t h k e = absurd (h d (encode_utf8_all ds ++ y) ((and_parts _ _ t).0) (e ∙ append_assoc (encode_utf8 d) (encode_utf8_all ds) y))
broken_same (c ∷ cs) [] x y s t h k e = absurd (k c (encode_utf8_all cs ++ x) ((and_parts _ _ s).0) (sym e ∙ append_assoc (encode_utf8 c) (encode_utf8_all cs) x))
broken_same (c ∷ cs) (d ∷ ds) x y s t h k e =
    let whole : encode_utf8 c ++ (encode_utf8_all cs ++ x) ≡ encode_utf8 d ++ (encode_utf8_all ds ++ y) =
    sym (append_assoc (encode_utf8 c) (encode_utf8_all cs) x) ∙ (e ∙ append_assoc (encode_utf8 d) (encode_utf8_all ds) y) in
    let both = encode_same c d (encode_utf8_all cs ++ x) (encode_utf8_all ds ++ y) whole in
    let head : c ≡ d = both.0 in
    let tail : cs ≡ ds = broken_same cs ds x y ((and_parts _ _ s).1) ((and_parts _ _ t).1) h k both.1 in
    cc

text_or_not : (bytes : List ℕ) (cs : List ℕ) (at : Pos) → IsTextOf bytes cs → IsNoText bytes at → ⊥
text_or_not bytes cs at h n = no_text n.characters cs n.rest h.0 n.more n.none (sym n.split ∙ h.1)

tokens_same : (a b : Tokens) → a.list ≡ b.list → a.source ≡ b.source → a.end ≡ b.end → a ≡ b
tokens_same a b l s e =
    let of : List Token → List ℕ → Pos → Tokens = λ x y z. record { list = x; source = y; end = z } in
    ap (λ x. of x a.source a.end) l ∙ (ap (λ y. of b.list y a.end) s ∙ ap (λ z. of b.list b.source z) e)

pub lexed_same : (bytes : List ℕ) (a b : Tokens) → HasTokens bytes a → HasTokens bytes b → a ≡ b
lexed_same bytes a b h k =
    let texts : h.characters ≡ k.characters = text_same bytes h.characters k.characters h.text k.text in
    let pieces : h.pieces ≡ k.pieces = (read_same h.pieces k.pieces [] [] h.read k.read dead_end dead_end (h.split ∙ (texts ∙ sym k.split))).0 in
    tokens_same a b (h.list ∙ (ap (tokens_behind []) pieces ∙ sym k.list)) (h.source ∙ sym k.source) (h.last ∙ (ap position_after texts ∙ sym k.last))

lexed_or_faulty : (bytes : List ℕ) (a : Tokens) (f : Fault) (at : Pos) → HasTokens bytes a → HasFault bytes f at → ⊥
lexed_or_faulty bytes a f at h k =
    let texts : h.characters ≡ k.characters = text_same bytes h.characters k.characters h.text k.text in
    let rests : [] ≡ k.rest =
    (read_same h.pieces k.pieces [] k.rest h.read k.read dead_end (fault_dead f k.behind k.rest k.faulty) (h.split ∙ (texts ∙ sym k.split))).1 in
    end_not_faulty f k.behind (subst (IsFaulty f k.behind) (sym rests) k.faulty)

faulty_same : (bytes : List ℕ) (f g : Fault) (at place : Pos) → HasFault bytes f at → HasFault bytes g place → Faulty f at ≡ Faulty g place
faulty_same bytes f g at place h k =
    let texts : h.characters ≡ k.characters = text_same bytes h.characters k.characters h.text k.text in
    let both : (h.pieces ≡ k.pieces) × (h.rest ≡ k.rest) =
    read_same h.pieces k.pieces h.rest k.rest h.read k.read (fault_dead f h.behind h.rest h.faulty) (fault_dead g k.behind k.rest k.faulty) (h.split ∙ (texts ∙ sym k.split)) in
    let faults : (f ≡ g) × (h.behind ≡ k.behind) = fault_same f g h.behind k.behind k.rest (subst (IsFaulty f h.behind) both.1 h.faulty) k.faulty in
    let fault : f ≡ g = faults.0 in
    let read : text_then h.pieces [] ++ h.behind ≡ text_then k.pieces [] ++ k.behind =
    ap (λ z. text_then z [] ++ h.behind) both.0 ∙ ap (λ z. text_then k.pieces [] ++ z) faults.1 in
    let places : at ≡ place = h.place ∙ (ap position_after read ∙ sym k.place) in
    cc

no_text_same : (bytes : List ℕ) (at place : Pos) → IsNoText bytes at → IsNoText bytes place → at ≡ place
no_text_same bytes at place h k =
    let texts : h.characters ≡ k.characters =
    broken_same h.characters k.characters h.rest k.rest h.scalars k.scalars h.none k.none (sym h.split ∙ k.split) in
    h.place ∙ (ap position_after texts ∙ sym k.place)

pub outcome_same : (bytes : List ℕ) (a b : Outcome) → LexesTo bytes a → LexesTo bytes b → a ≡ b
outcome_same bytes (Lexed a) (Lexed b) h k = ap Lexed (lexed_same bytes a b h k)
outcome_same bytes (Lexed a) (NotUtf8 q) h k = absurd (text_or_not bytes h.characters q h.text k)
outcome_same bytes (Lexed a) (Faulty g q) h k = absurd (lexed_or_faulty bytes a g q h k)
outcome_same bytes (NotUtf8 p) (Lexed b) h k = absurd (text_or_not bytes k.characters p k.text h)
outcome_same bytes (NotUtf8 p) (NotUtf8 q) h k = ap NotUtf8 (no_text_same bytes p q h k)
outcome_same bytes (NotUtf8 p) (Faulty g q) h k = absurd (text_or_not bytes k.characters p k.text h)
outcome_same bytes (Faulty f p) (Lexed b) h k = absurd (lexed_or_faulty bytes b f p k h)
outcome_same bytes (Faulty f p) (NotUtf8 q) h k = absurd (text_or_not bytes h.characters q h.text k)
outcome_same bytes (Faulty f p) (Faulty g q) h k = faulty_same bytes f g p q h k
