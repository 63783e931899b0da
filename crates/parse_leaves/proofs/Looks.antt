-- Looks at the next token.
use Rattle.std.proofs.Common.{◌≡◌, ℕ, ◌+◌, ◌<◌, ◌≤◌, Bool, true, false, List, [], ◌∷◌, ◌++◌, length, get_or, drop, map, refl, sym, ap, ◌∙◌}
use Rattle.std.proofs.lemmas.List.{at_drop_more, at_drop_all}
use Rattle.rules_tokens.specs.declared.token.Token.{Token}
use Rattle.rules_grammar.specs.GrammarKinds as k
use Rattle.rules_grammar.specs.GrammarParts.{TokenKind}
use Rattle.hs_grammar.specs.Parser.{either, begins}
use Rattle.parse_leaves.proofs.Steps.{begins_both, or_yes, or_no}

none : (ts : List Token) → begins [] ts ≡ false
none [] = refl
none (t ∷ ts) = refl

module _ (K : ℕ → TokenKind) (ks : List ℕ) (i d : ℕ) (ts : List Token) where
  -- the kinds that are left to look for, by the first of them
  more : begins (map K ks) ts ≡ begins (map K (drop i ks)) ts → i < length ks → begins (map K ks) ts ≡ either (begins (K (get_or ks i d) ∷ []) ts) (begins (map K (drop (i + 1) ks)) ts)
  more inv l =
      inv
      ∙ at_drop_more (λ z. begins (map K z) ts) ks i d l
      ∙ begins_both (K (get_or ks i d) ∷ []) (map K (drop (i + 1) ks)) ts

  pub any_found : (b : Bool) → begins (map K ks) ts ≡ begins (map K (drop i ks)) ts → i < length ks → b ≡ begins (K (get_or ks i d) ∷ []) ts → b ≡ true → true ≡ begins (map K ks) ts
  any_found b inv l h t = sym (more inv l ∙ ap (λ z. either z (begins (map K (drop (i + 1) ks)) ts)) (sym h ∙ t))

  pub any_next : (b : Bool) → begins (map K ks) ts ≡ begins (map K (drop i ks)) ts → i < length ks → b ≡ begins (K (get_or ks i d) ∷ []) ts → b ≡ false → begins (map K ks) ts ≡ begins (map K (drop (i + 1) ks)) ts
  any_next b inv l h t = more inv l ∙ ap (λ z. either z (begins (map K (drop (i + 1) ks)) ts)) (sym h ∙ t)

pub any_none : (K : ℕ → TokenKind) (ks : List ℕ) (i : ℕ) (ts : List Token) → begins (map K ks) ts ≡ begins (map K (drop i ks)) ts → length ks ≤ i → false ≡ begins (map K ks) ts
any_none K ks i ts inv l = sym (inv ∙ at_drop_all (λ z. begins (map K z) ts) ks i l ∙ none ts)

-- the first kind, or the others
pub look_yes : (x : TokenKind) (ls : List TokenKind) (ts : List Token) (b : Bool) → b ≡ begins (x ∷ []) ts → b ≡ true → true ≡ begins (x ∷ ls) ts
look_yes x ls ts b h e = or_yes (x ∷ []) ls ts b h e

pub look_no : (x : TokenKind) (ls : List TokenKind) (ts : List Token) (b c : Bool) → b ≡ begins (x ∷ []) ts → b ≡ false → c ≡ begins ls ts → c ≡ begins (x ∷ ls) ts
look_no x ls ts b c h e i = or_no (x ∷ []) ls ts b c h e i

-- a constant, or the others
pub constant_yes : (ls : List TokenKind) (ts : List Token) (b : Bool) → b ≡ begins (k.True ∷ k.False ∷ k.ThreadKilled ∷ k.UserInterrupt ∷ k.DivideByZero ∷ k.Overflow ∷ []) ts → b ≡ true → true ≡ begins (k.True ∷ k.False ∷ k.ThreadKilled ∷ k.UserInterrupt ∷ k.DivideByZero ∷ k.Overflow ∷ ls) ts
constant_yes ls ts b h e = or_yes (k.True ∷ k.False ∷ k.ThreadKilled ∷ k.UserInterrupt ∷ k.DivideByZero ∷ k.Overflow ∷ []) ls ts b h e

pub constant_no : (ls : List TokenKind) (ts : List Token) (b c : Bool) → b ≡ begins (k.True ∷ k.False ∷ k.ThreadKilled ∷ k.UserInterrupt ∷ k.DivideByZero ∷ k.Overflow ∷ []) ts → b ≡ false → c ≡ begins ls ts → c ≡ begins (k.True ∷ k.False ∷ k.ThreadKilled ∷ k.UserInterrupt ∷ k.DivideByZero ∷ k.Overflow ∷ ls) ts
constant_no ls ts b c h e i = or_no (k.True ∷ k.False ∷ k.ThreadKilled ∷ k.UserInterrupt ∷ k.DivideByZero ∷ k.Overflow ∷ []) ls ts b c h e i
