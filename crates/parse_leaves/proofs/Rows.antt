-- The row of a table that the next token decides.
use Rattle.std.proofs.Common.{◌≡◌, ℕ, ◌+◌, ◌<◌, ◌≤◌, Bool, true, false, List, [], ◌∷◌, ◌++◌, length, get_or, drop, Result, Ok, Err, refl, sym, ap, ◌∙◌, subst}
use Rattle.std.proofs.lemmas.List.{at_drop_more, at_drop_all}
use Rattle.hs_base.specs.declared.pos.Pos.{Pos}
use Rattle.rules_tokens.specs.declared.token.Token.{Token}
use Rattle.rules_grammar.specs.GrammarForms.{Rule, alt, stands_for, one_of}
use Rattle.rules_grammar.specs.GrammarParts.{TokenKind, word}
use Rattle.hs_grammar.specs.Parser.{either, may_be_empty, firsts, begins, done, choose, take, read, read_then, enter}
use Rattle.parse_leaves.specs.declared.halt.Halt.{Halt}
use Rattle.parse_leaves.specs.Reads.{Reads}
use Rattle.parse_leaves.specs.Tables.{ReadsAs, Decides}
use Rattle.parse_leaves.proofs.Steps.{begins_both, take_ok, take_err}

-- the alternative that is begun, and the one that is left
alt_first : {A : Type 0} (p q : Rule A) (ts : List Token) → begins (firsts p) ts ≡ true → ReadsAs ts (alt p q) p
unfolding firsts read_then
alt_first p q ts h = (λ n. ap (λ b. choose b (read (enter n) p) (read (enter n) q) ts) h, begins_both (firsts p) (firsts q) ts ∙ (ap (λ b. either b (begins (firsts q) ts)) h ∙ sym h))

alt_second : {A : Type 0} (p q : Rule A) (ts : List Token) → begins (firsts p) ts ≡ false → ReadsAs ts (alt p q) q
unfolding firsts read_then
alt_second p q ts h = (λ n. ap (λ b. choose b (read (enter n) p) (read (enter n) q) ts) h, begins_both (firsts p) (firsts q) ts ∙ ap (λ b. either b (begins (firsts q) ts)) h)

then_as : {A : Type 0} (ts : List Token) (p q r : Rule A) → ReadsAs ts p q → ReadsAs ts q r → ReadsAs ts p r
then_as ts p q r h i = (λ n. h.0 n ∙ i.0 n, h.1 ∙ i.1)

-- what a row begins with
stands_firsts : {W : Type 0} (r : ℕ × W) → firsts (stands_for r) ≡ word r.0 ∷ []
unfolding firsts may_be_empty
stands_firsts r = refl

module _ {W : Type 0} (rows : List (ℕ × W)) (last : ℕ × W) (i : ℕ) (ts : List Token) where
  -- r is the row with this number
  split_rows : (r : ℕ × W) → r ≡ get_or rows i r → ReadsAs ts (one_of rows last) (one_of (drop i rows) last) → i < length rows → ReadsAs ts (one_of rows last) (one_of (r ∷ drop (i + 1) rows) last)
  split_rows r e inv l = (
    λ n. inv.0 n ∙ (at_drop_more (λ z. read (enter n) (one_of z last) ts) rows i r l ∙ ap (λ z. read (enter n) (one_of (z ∷ drop (i + 1) rows) last) ts) (sym e)),
    inv.1 ∙ (at_drop_more (λ z. begins (firsts (one_of z last)) ts) rows i r l ∙ ap (λ z. begins (firsts (one_of (z ∷ drop (i + 1) rows) last)) ts) (sym e)),
  )

  pub row_found : (r : ℕ × W) (b : Bool) → r ≡ get_or rows i r → ReadsAs ts (one_of rows last) (one_of (drop i rows) last) → i < length rows → b ≡ begins (word r.0 ∷ []) ts → b ≡ true → Decides rows last ts r
  row_found r b e inv l h t =
      then_as ts (one_of rows last) (one_of (r ∷ drop (i + 1) rows) last) (stands_for r) (split_rows r e inv l)
      (alt_first (stands_for r) (one_of (drop (i + 1) rows) last) ts (ap (λ z. begins z ts) (stands_firsts r) ∙ (sym h ∙ t)))

  pub row_next : (r : ℕ × W) (b : Bool) → r ≡ get_or rows i r → ReadsAs ts (one_of rows last) (one_of (drop i rows) last) → i < length rows → b ≡ begins (word r.0 ∷ []) ts → b ≡ false → ReadsAs ts (one_of rows last) (one_of (drop (i + 1) rows) last)
  row_next r b e inv l h t =
      then_as ts (one_of rows last) (one_of (r ∷ drop (i + 1) rows) last) (one_of (drop (i + 1) rows) last) (split_rows r e inv l)
      (alt_second (stands_for r) (one_of (drop (i + 1) rows) last) ts (ap (λ z. begins z ts) (stands_firsts r) ∙ (sym h ∙ t)))

  pub row_last : ReadsAs ts (one_of rows last) (one_of (drop i rows) last) → length rows ≤ i → Decides rows last ts last
  row_last inv l = (
    λ n. inv.0 n ∙ at_drop_all (λ z. read (enter n) (one_of z last) ts) rows i l,
    inv.1 ∙ at_drop_all (λ z. begins (firsts (one_of z last)) ts) rows i l,
  )

-- the row that decides is read
module _ {W : Type 0} (rows : List (ℕ × W)) (last r : ℕ × W) (ts : List Token) (h : Decides rows last ts r) where
  pub begins_row : (b : Bool) → b ≡ begins (word r.0 ∷ []) ts → b ≡ begins (firsts (one_of rows last)) ts
  begins_row b i = i ∙ (sym (ap (λ z. begins z ts) (stands_firsts r)) ∙ sym h.1)

  row_reads : (n : ℕ) → read (enter n) (one_of rows last) ts ≡ take (word r.0) (λ t. done (r.1, t.pos)) ts
  unfolding read_then
  row_reads n = h.0 n

  pub one_ok : (n : ℕ) (new : List Token) (p : Pos) (x : W) → Reads (take (word r.0) (λ t. done t.pos) ts) (Ok p) new → x ≡ r.1 → Reads (read (enter n) (one_of rows last) ts) (Ok (x, p)) new
  one_ok n new p x i e = subst (λ o. Reads o (Ok (x, p)) new) (sym (row_reads n)) (take_ok (word r.0) (λ q. done (r.1, q)) ts new new p (Ok (x, p)) i (ap (λ z. (z, p)) e, refl))

  pub one_err : (n : ℕ) (mid new : List Token) (e : Halt) → Reads (take (word r.0) (λ t. done t.pos) ts) (Err e) mid → Reads {A = W × Pos} (read (enter n) (one_of rows last) ts) (Err e) new
  one_err n mid new e i = subst (λ o. Reads o (Err e) new) (sym (row_reads n)) (take_err (word r.0) (λ q. done (r.1, q)) ts mid new e i)
