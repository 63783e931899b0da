-- The tokens of a text stand in order.
use Rattle.std.proofs.Common.{◌≡◌, ℕ, zero, suc, ◌<◌, true, false, List, [], ◌∷◌, ◌++◌, length, refl, sym, ap, ◌∙◌, subst, arith, ◌⊎◌, inl, inr, append_assoc, append-nil}
use Rattle.std.specs.Prelude.{slice_index_or}
use Rattle.std.proofs.lemmas.List.Kept.{AllPairs-cons}
use Rattle.hs_base.specs.declared.pos.Pos.{Pos}
use Rattle.rules_tokens.specs.declared.token.Tok.{Tok}
use Rattle.rules_tokens.specs.declared.token.Token.{Token}
use Rattle.rules_tokens.specs.declared.token.Tokens.{Tokens}
use Rattle.rules_tokens.specs.Tokens.{is_line_feed, position_after, Spells, Piece, Blank, Comment, Lexeme, dash, Read, token_behind, tokens_behind, HasTokens}
use Rattle.hs_lex.proofs.Forms.{form_not_empty}
use Rattle.hs_lex.proofs.Spellings.{form_of_token, spelled_form}
use Rattle.hs_lex.proofs.Places.{position_feed, position_other}
use Rattle.front_laws.specs.typing.Positions.{StandsBefore, AreInOrder}

before_trans : (p q r : Pos) → StandsBefore p q → StandsBefore q r → StandsBefore p r
before_trans p q r (inl h) (inl k) = inl (omega (arith, h, k))
before_trans p q r (inl h) (inr k) = inl (omega (arith, h, k.0))
before_trans p q r (inr h) (inl k) = inl (omega (arith, h.0, k))
before_trans p q r (inr h) (inr k) = inr (h.0 ∙ k.0, omega (arith, h.1, k.1))

one_on : (cs : List ℕ) (c : ℕ) → StandsBefore (position_after cs) (position_after (cs ++ c ∷ []))
one_on cs c = elim (is_line_feed c) as (λ b. is_line_feed c ≡ b → StandsBefore (position_after cs) (position_after (cs ++ c ∷ []))) [
  | true ↦ λ w. subst (StandsBefore (position_after cs)) (sym (position_feed cs c w)) (inl (omega arith))
  | false ↦ λ w. subst (StandsBefore (position_after cs)) (sym (position_other cs c w)) (inr (refl, omega arith))
] refl

-- the same position, or a later one
abbrev NotBefore : Pos → Pos → Type 0
NotBefore p q = (q ≡ p) ⊎ StandsBefore p q

go_on : (p q r : Pos) → StandsBefore p q → NotBefore q r → StandsBefore p r
go_on p q r h (inl e) = subst (StandsBefore p) (sym e) h
go_on p q r h (inr k) = before_trans p q r h k

some_on : (cs ds : List ℕ) → NotBefore (position_after cs) (position_after (cs ++ ds))
some_on cs [] = inl (ap position_after (append-nil cs))
some_on cs (d ∷ ds) =
    inr
    (go_on (position_after cs) (position_after (cs ++ d ∷ [])) (position_after (cs ++ d ∷ ds)) (one_on cs d)
    (subst (λ z. NotBefore (position_after (cs ++ d ∷ [])) (position_after z)) (append_assoc cs (d ∷ []) ds) (some_on (cs ++ d ∷ []) ds)))

further : (p q r : Pos) → NotBefore p q → NotBefore q r → NotBefore p r
further p q r (inl e) k = subst (λ z. NotBefore z r) e k
further p q r (inr h) k = inr (go_on p q r h k)

-- a token has a character
spelled_on : (before cs : List ℕ) (t : Tok) → Spells cs t → StandsBefore (position_after before) (position_after (before ++ cs))
spelled_on before [] t h = absurd (form_not_empty (form_of_token t) (spelled_form [] t h))
spelled_on before (c ∷ cs) t h =
    go_on (position_after before) (position_after (before ++ c ∷ [])) (position_after (before ++ c ∷ cs)) (one_on before c)
    (subst (λ z. NotBefore (position_after (before ++ c ∷ [])) (position_after z)) (append_assoc before (c ∷ []) cs) (some_on (before ++ c ∷ []) cs))

-- no token stands before the place where its piece may begin
abbrev AllFrom : List ℕ → List Token → Type 0
AllFrom before ts = (k : ℕ) (d : Token) → k < length ts → NotBefore (position_after before) (slice_index_or ts k d).pos

none_before : (before : List ℕ) (ps : List Piece) → AllFrom before (tokens_behind before ps)
none_before before [] k d l = absurd (omega (arith, l))
none_before before (Blank c ∷ ps) k d l = further _ _ _ (some_on before (c ∷ [])) (none_before (before ++ c ∷ []) ps k d l)
none_before before (Comment body ∷ ps) k d l = further _ _ _ (some_on before (dash ∷ dash ∷ body)) (none_before (before ++ dash ∷ dash ∷ body) ps k d l)
none_before before (Lexeme cs t ∷ ps) zero d l = inl refl
none_before before (Lexeme cs t ∷ ps) (suc k) d l = further _ _ _ (some_on before cs) (none_before (before ++ cs) ps k d (omega (arith, l)))

in_order : (before : List ℕ) (ps : List Piece) (after : List ℕ) → Read ps after → AreInOrder (tokens_behind before ps)
in_order before [] after h = λ i j d l m. absurd (omega (arith, m))
in_order before (Blank c ∷ ps) after h = in_order (before ++ c ∷ []) ps after h.1
in_order before (Comment body ∷ ps) after h = in_order (before ++ dash ∷ dash ∷ body) ps after h.1
in_order before (Lexeme cs t ∷ ps) after h =
    AllPairs-cons (λ u v. StandsBefore u.pos v.pos) (token_behind before cs t) (tokens_behind (before ++ cs) ps)
    (λ k d l. go_on _ _ _ (spelled_on before cs t h.0.0) (none_before (before ++ cs) ps k d l))
    (in_order (before ++ cs) ps after h.1)

pub tokens_in_order : (bytes : List ℕ) (tokens : Tokens) → HasTokens bytes tokens → AreInOrder tokens.list
tokens_in_order bytes tokens h = subst AreInOrder (sym h.list) (in_order [] h.pieces [] h.read)
