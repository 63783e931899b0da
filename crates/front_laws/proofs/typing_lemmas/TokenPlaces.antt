-- Tokens in order have no position twice, and nor has a script that they spell.
use Rattle.std.proofs.Common.{◌≡◌, ℕ, zero, suc, ◌+◌, ◌<◌, ◌≤◌, true, false, cond, List, [], ◌∷◌, map, length, refl, sym, ap, ◌∙◌, subst, arith, inl, inr}
use Rattle.std.specs.Prelude.{◌≢◌, AllPairs, Contains, IsTrue, slice_index_or}
use Rattle.hs_base.specs.declared.pos.Pos.{Pos}
use Rattle.hs_base.specs.declared.tree.script.Script.{Script}
use Rattle.rules_tokens.specs.declared.token.Token.{Token}
use Rattle.rules_grammar.specs.Grammar.{Spells}
use Rattle.rules_grammar.specs.GrammarForms.{Item, tokens_of}
use Rattle.rules_grammar.specs.GrammarParts.{kind_of}
use Rattle.front_laws.specs.typing.Positions.{has_node, positions_of, StandsBefore, AreInOrder}
use Rattle.front_laws.proofs.typing_lemmas.Counts.{same_pos, same_pos_true, here, here_self, times, times_at, times_contains, once_apart}
use Rattle.front_laws.proofs.typing_lemmas.Fits.{seen, made}
use Rattle.front_laws.proofs.typing_lemmas.FitActions.{script_weighs}

abbrev pub places : List Token → List Pos
places ts = map (λ t. t.pos) ts

seen_is : (q : Pos) (is : List Item) → seen q is ≡ times q (places (tokens_of is))
seen_is q [] = refl
seen_is q (i ∷ is) = ap (λ n. here q i.token.pos + n) (seen_is q is)

not_before_itself : (p : Pos) → StandsBefore p p → ⊥
not_before_itself p (inl h) = omega (arith, h)
not_before_itself p (inr h) = omega (arith, h.1)

not_here : (p u : Pos) → StandsBefore p u → here p u ≡ 0
not_here p u h = elim (same_pos p u) as (λ b. same_pos p u ≡ b → ◌≡◌ {A = ℕ} (cond b 1 0) 0) [
  | true ↦ λ w. absurd (not_before_itself p (subst (λ z. StandsBefore p z) (sym (same_pos_true p u w)) h))
  | false ↦ λ w. refl
] refl

none_after : (p : Pos) (ts : List Token) → ((k : ℕ) (d : Token) → k < length ts → StandsBefore p (slice_index_or ts k d).pos) → times p (places ts) ≡ 0
none_after p [] h = refl
none_after p (t ∷ ts) h = omega (arith, not_here p t.pos (h zero t (omega arith)), none_after p ts (λ k d l. h (suc k) d (omega (arith, l))))

pub once_in_order : (q : Pos) (ts : List Token) → AreInOrder ts → times q (places ts) ≤ 1
once_in_order q [] h = omega arith
once_in_order q (t ∷ ts) h = elim (same_pos q t.pos) as (λ b. same_pos q t.pos ≡ b → cond b 1 0 + times q (places ts) ≤ 1) [
  | true ↦ λ w. omega (arith, subst (λ z. times z (places ts) ≡ 0) (sym (same_pos_true q t.pos w)) (none_after t.pos ts (λ k d l. h zero (suc k) d (omega arith) (omega (arith, l)))))
  | false ↦ λ w. omega (arith, once_in_order q ts (λ i j d l m. h (suc i) (suc j) d (omega (arith, l)) (omega (arith, m))))
] refl

spelled_times : (q : Pos) (ts : List Token) (x : Script) → Spells x ts → times q (positions_of x) ≤ times q (places ts)
spelled_times q ts x h = omega (arith, (script_weighs q h.0 x h.1.0 h.1.1).0, seen_is q h.1.0, ap (λ z. times q (places z)) h.1.2)

pub spelled_once : (q : Pos) (ts : List Token) (x : Script) → AreInOrder ts → Spells x ts → times q (positions_of x) ≤ 1
spelled_once q ts x o h = omega (arith, spelled_times q ts x h, once_in_order q ts o)

pub spelled_apart : (ts : List Token) (x : Script) → AreInOrder ts → Spells x ts → AllPairs (λ p q. p ≢ q) (positions_of x)
spelled_apart ts x o h = once_apart (positions_of x) (λ q. spelled_once q ts x o h)

contains_times : (xs : List Pos) (p : Pos) → Contains xs p → 1 ≤ times p xs
contains_times xs p h = subst (λ z. 1 ≤ times z xs) h.2 (times_at xs h.0 p h.1)

pub spelled_at_tokens : (ts : List Token) (x : Script) (p : Pos) → Spells x ts → Contains (positions_of x) p → Contains (map (λ t. t.pos) ts) p
spelled_at_tokens ts x p h c = times_contains p (places ts) (omega (arith, contains_times (positions_of x) p c, spelled_times p ts x h))

-- ---- tokens that are always a node's
made_at : (is : List Item) (k : ℕ) (d : Token) → k < length (tokens_of is) → has_node (kind_of (slice_index_or (tokens_of is) k d).tok) ≡ true → 1 ≤ made (slice_index_or (tokens_of is) k d).pos is
made_at [] k d l h = absurd (omega (arith, l))
made_at (i ∷ is) zero d l h = omega (arith, ap (λ b. cond b (here i.token.pos i.token.pos) 0) h, here_self i.token.pos)
made_at (i ∷ is) (suc k) d l h = omega (arith, made_at is k d (omega (arith, l)) h)

pub spelled_has : (ts : List Token) (x : Script) (t : Token) → Spells x ts → Contains ts t → IsTrue (has_node (kind_of t.tok)) → Contains (positions_of x) t.pos
spelled_has ts x t h c n = times_contains t.pos (positions_of x) (omega (arith, (script_weighs t.pos h.0 x h.1.0 h.1.1).1, by))
  where
    is : List Item
    is = h.1.0

    at_k : slice_index_or (tokens_of is) c.0 t ≡ t
    at_k = ap (λ us. slice_index_or us c.0 t) h.1.2 ∙ c.2

    by : 1 ≤ made t.pos is
    by = subst (λ u. 1 ≤ made u.pos is) at_k
        (made_at is c.0 t (omega (arith, c.1, ap (λ (us : List Token). length us) h.1.2)) (ap (λ u. has_node (kind_of u.tok)) at_k ∙ n))
