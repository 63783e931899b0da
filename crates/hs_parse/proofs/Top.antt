-- The answer of the whole.
use Rattle.std.proofs.Common.{◌≡◌, ℕ, zero, suc, ◌+◌, ◌-◌, ◌≤◌, ◌<◌, List, [], ◌∷◌, ◌++◌, length, Result, Ok, Err, Option, Some, None, refl, sym, ap, ◌∙◌, subst, arith, length-append, append_assoc, append-nil, slice_get}
use Rattle.hs_base.specs.declared.pos.Pos.{Pos}
use Rattle.hs_base.specs.declared.tree.script.Script.{Script}
use Rattle.rules_tokens.specs.declared.token.Token.{Token}
use Rattle.rules_tokens.specs.declared.token.Tokens.{Tokens}
use Rattle.rules_grammar.specs.Grammar.{SpellsWithin, IsUnexpected, IsTooDeep}
use Rattle.hs_grammar.specs.Parser.{Why, unexpected, too_deep, Out, Done, Stop, Parser, bind, done, read, read_then, enter, at_end, whole, Means}
use Rattle.hs_grammar.proofs.Main.{means}
use Rattle.parse_leaves.specs.declared.halt.Halt.{Halt}
use Rattle.parse_leaves.specs.declared.halt.Halt.TheVariants as h
use Rattle.hs_parse.specs.declared.fault.ParseFault.TheVariants as fault
use Rattle.parse_leaves.specs.Reads.{Reads, head_of, many_of}
use Rattle.parse_leaves.proofs.Steps.{reads_bind, reads_next, call_ok, call_err}
use Rattle.hs_base.specs.declared.tree.script.Def.{Def}
use Rattle.rules_grammar.specs.Grammar as g
use Rattle.hs_parse.specs.Parsed.{Parsed, place}

module _ (tokens : Tokens) where
  pub parsed_ok : (x : Script) (new : List Token) → Reads (whole 200 tokens.list) (Ok x) new → Parsed tokens (Ok x)
  parsed_ok x new h = by (whole 200 tokens.list) refl h
    where
      by : (o : Out Script) → whole 200 tokens.list ≡ o → Reads o (Ok x) new → SpellsWithin 200 x tokens.list
      by (Done y r) e h = subst (λ z. SpellsWithin 200 z tokens.list) (sym h.0) (means 200 tokens.list (Done y r) e)
      by (Stop unexpected b) e h = absurd h
      by (Stop too_deep b) e h = absurd h

  pub parsed_unexpected : (n : ℕ) (p : Pos) (new : List Token) → Reads (whole 200 tokens.list) (Err (h.Unexpected n)) new → ((read b : List Token) → read ++ b ≡ tokens.list → n ≡ length b → p ≡ place b tokens.end) → Parsed tokens (Err (fault.Unexpected p))
  parsed_unexpected n p new reads f = by (whole 200 tokens.list) refl reads
    where
      by : (o : Out Script) → whole 200 tokens.list ≡ o → Reads o (Err (h.Unexpected n)) new → Parsed tokens (Err (fault.Unexpected p))
      by (Done y r) e h = absurd h
      by (Stop unexpected b) e h = let m = means 200 tokens.list (Stop unexpected b) e in (m.0, b, m.1, m.2, f m.0 b m.1 h)
      by (Stop too_deep b) e h = absurd h

  pub parsed_deep : (n : ℕ) (p : Pos) (new : List Token) → Reads (whole 200 tokens.list) (Err (h.TooDeep n)) new → ((read b : List Token) → read ++ b ≡ tokens.list → n ≡ length b → p ≡ place b tokens.end) → Parsed tokens (Err (fault.Deep p))
  parsed_deep n p new reads f = by (whole 200 tokens.list) refl reads
    where
      by : (o : Out Script) → whole 200 tokens.list ≡ o → Reads o (Err (h.TooDeep n)) new → Parsed tokens (Err (fault.Deep p))
      by (Done y r) e h = absurd h
      by (Stop unexpected b) e h = absurd h
      by (Stop too_deep b) e h =
          let m = means 200 tokens.list (Stop too_deep b) e in
          (m.0, m.1, m.2, ap (λ z. m.0 ++ z) (sym m.3) ∙ m.4, m.5, m.6, f m.0 b m.4 h ∙ ap (λ z. place z tokens.end) m.3)

-- ---- the whole script
in_script_err : (n : ℕ) (ts mid : List Token) (e : Halt) → Reads (many_of n g.def ts) (Err e) mid → Reads (read (enter n) g.script ts) (Err e) mid
unfolding g.script read_then
in_script_err n ts mid e h = call_err (enter n) (g.many g.def) (λ ds. done (record { defs = ds })) ts mid mid e h

in_script_ok : (n : ℕ) (ts mid : List Token) (ds : List Def) → Reads (many_of n g.def ts) (Ok ds) mid → Reads (read (enter n) g.script ts) (Ok (record { defs = ds })) mid
unfolding g.script read_then
in_script_ok n ts mid ds h = call_ok (enter n) (g.many g.def) (λ ds. done (record { defs = ds })) ts mid mid ds (Ok (record { defs = ds })) h (refl, refl)

pub script_err : (n : ℕ) (ts mid new : List Token) (e : Halt) → Reads (many_of n g.def ts) (Err e) mid → Reads (whole n ts) (Err e) new
unfolding whole
script_err n ts mid new e h = reads_bind (read (enter n) g.script ts) at_end e mid new (in_script_err n ts mid e h)

pub script_ok : (n : ℕ) (ts mid new : List Token) (ds : List Def) (r : Result Script Halt) → Reads (many_of n g.def ts) (Ok ds) mid → Reads (at_end (record { defs = ds }) mid) r new → Reads (whole n ts) r new
unfolding whole
script_ok n ts mid new ds r h k = reads_next (read (enter n) g.script ts) at_end (record { defs = ds }) mid new r (in_script_ok n ts mid ds h) k

-- ---- positions
at_head : (read b : List Token) → slice_get (read ++ b) (length read) ≡ head_of b
at_head [] [] = refl
at_head [] (t ∷ b) = refl
at_head (x ∷ read) b = at_head read b

pub place_some : (list read b : List Token) (end : Pos) (left i : ℕ) (t : Token) → slice_get list i ≡ Some t → i ≡ length list - left → read ++ b ≡ list → left ≡ length b → t.pos ≡ place b end
place_some list read b end left i t g e s l =
    let n : i ≡ length read = omega (arith, e, l, ap length s, length-append read b) in
    by b (sym (at_head read b) ∙ (ap (λ z. slice_get z (length read)) s ∙ (ap (slice_get list) (sym n) ∙ g)))
  where
    by : (b : List Token) → head_of b ≡ Some t → t.pos ≡ place b end
    by [] h = absurd (cc h)
    by (u ∷ b) h = let e : u ≡ t = cc h in ap (λ z. z.pos) (sym e)

pub place_none : (list read b : List Token) (end : Pos) (left i : ℕ) → slice_get list i ≡ None → i ≡ length list - left → read ++ b ≡ list → left ≡ length b → end ≡ place b end
place_none list read b end left i g e s l =
    let n : i ≡ length read = omega (arith, e, l, ap length s, length-append read b) in
    by b (sym (at_head read b) ∙ (ap (λ z. slice_get z (length read)) s ∙ (ap (slice_get list) (sym n) ∙ g)))
  where
    by : (b : List Token) → head_of b ≡ None → end ≡ place b end
    by [] h = refl
    by (u ∷ b) h = absurd (cc h)

pub place_beyond : (list read b : List Token) (end : Pos) (left : ℕ) → length list < left → read ++ b ≡ list → left ≡ length b → end ≡ place b end
place_beyond list read b end left g s l = absurd (omega (arith, g, l, ap length s, length-append read b))

-- the same, of the answer that a match tells apart
module _ (tokens : Tokens) (ts new : List Token) (answer : Result Script Halt) (all : ts ≡ tokens.list) (reads : Reads (whole 200 ts) answer new) (n : ℕ) (p : Pos) where
  read_all : Reads (whole 200 tokens.list) answer new
  read_all = subst (λ z. Reads (whole 200 z) answer new) all reads

  pub at_unexpected : answer ≡ Err (h.Unexpected n) → ((read b : List Token) → read ++ b ≡ tokens.list → n ≡ length b → p ≡ place b tokens.end) → Parsed tokens (Err (fault.Unexpected p))
  at_unexpected e f = parsed_unexpected tokens n p new (subst (λ z. Reads (whole 200 tokens.list) z new) e read_all) f

  pub at_deep : answer ≡ Err (h.TooDeep n) → ((read b : List Token) → read ++ b ≡ tokens.list → n ≡ length b → p ≡ place b tokens.end) → Parsed tokens (Err (fault.Deep p))
  at_deep e f = parsed_deep tokens n p new (subst (λ z. Reads (whole 200 tokens.list) z new) e read_all) f
