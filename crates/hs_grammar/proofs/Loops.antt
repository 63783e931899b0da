-- Turns of a loop.
use Rattle.std.proofs.Common.{◌≡◌, ℕ, zero, suc, ◌<◌, ◌≤◌, Bool, true, false, List, ◌∷◌, length, refl, ap, subst, ◌⊎◌, inl, inr, arith, length-append}
use Rattle.rules_tokens.specs.declared.token.Token.{Token}
use Rattle.rules_grammar.specs.GrammarForms.{tokens_of}
use Rattle.rules_grammar.specs.GrammarParts.{TokenKind}
use Rattle.hs_grammar.specs.Parser.{begins, Out, Done, Stop, Parser, bind, done, choose, turn, turns, loop, another, behind_item, item_step}
use Rattle.hs_grammar.proofs.Good.{GoodOut, BehindS, good_behind}

-- each value takes a token, and each left value does
abbrev pub Takes : {A : Type 0} → Parser A → Type 0
Takes {A} p = (ts : List Token) (a : A) (r : List Token) → p ts ≡ Done a r → length r < length ts

abbrev pub TakesLeft : {B C : Type 0} → Parser (B ⊎ C) → Type 0
TakesLeft {B} {C} p = (ts : List Token) (b : B) (r : List Token) → p ts ≡ Done (inl b) r → length r < length ts

module _ {B C : Type 0} (step : Parser (B ⊎ C)) (takes : TakesLeft step) where
  same_turn : (n k : ℕ) (ts : List Token) (o : Out (B ⊎ C)) → step ts ≡ o → ((r : List Token) → length r < length ts → turns n step r ≡ turns k step r) → bind o (turn (turns n step)) ≡ bind o (turn (turns k step))
  same_turn n k ts (Done (inl b) r) e ih = ap (λ z. bind z (λ x. done (b ∷ x.0, x.1))) (ih r (takes ts b r e))
  same_turn n k ts (Done (inr c) r) e ih = refl
  same_turn n k ts (Stop y b) e ih = refl

  enough : (n k : ℕ) (ts : List Token) → length ts < n → length ts < k → turns n step ts ≡ turns k step ts
  unfolding turns
  enough zero k ts h i = absurd (omega arith)
  enough (suc n) zero ts h i = absurd (omega arith)
  enough (suc n) (suc k) ts h i = same_turn n k ts (step ts) refl (λ r l. enough n k r (omega arith) (omega arith))

  loop_turn : (ts : List Token) (o : Out (B ⊎ C)) → step ts ≡ o → bind o (turn (turns (length ts) step)) ≡ bind o (turn (loop step))
  unfolding loop
  loop_turn ts (Done (inl b) r) e = ap (λ z. bind z (λ x. done (b ∷ x.0, x.1))) (let l = takes ts b r e in enough (length ts) (suc (length r)) r (omega arith) (omega arith))
  loop_turn ts (Done (inr c) r) e = refl
  loop_turn ts (Stop y b) e = refl

  pub loop_eq : (ts : List Token) → loop step ts ≡ bind (step ts) (turn (loop step))
  unfolding loop turns
  loop_eq ts = loop_turn ts (step ts) refl

pub another_takes : {B : Type 0} (ks : List TokenKind) (p : Parser B) → Takes p → TakesLeft (another ks p)
another_takes {B} ks p takes ts b r = by (begins ks ts)
  where
    read' : (o : Out B) → p ts ≡ o → bind o (λ a. done {A = B ⊎ Unit {0}} (inl a)) ≡ Done (inl b) r → length r < length ts
    read' (Done a q) e h = let x : q ≡ r = cc h in subst (λ z. length z < length ts) x (takes ts a q e)
    read' (Stop y q) e h = absurd (cc h)

    by : (t : Bool) → choose t (λ us. bind (p us) (λ a. done {A = B ⊎ Unit {0}} (inl a))) (done (inr tt)) ts ≡ Done (inl b) r → length r < length ts
    by true h = read' (p ts) refl h
    by false h = absurd (cc h)

pub item_takes : {B C : Type 0} (as_item : C → B) (sep close : TokenKind) (p : Parser (B ⊎ C)) → Takes p → TakesLeft (item_step as_item sep close p)
item_takes {B} {C} as_item sep close p takes ts b r h = by (p ts) refl h
  where
    behind : (x : B ⊎ C) (q : List Token) (o : Out (B ⊎ C)) → behind_item as_item sep close x q ≡ o → GoodOut 0 (BehindS as_item sep close x) (BehindS as_item sep close x) q o → o ≡ Done (inl b) r → length r ≤ length q
    behind x q (Done a s) e g f = let y : s ≡ r = cc f in omega (arith, ap length g.1, length-append (tokens_of g.0) s, ap length y)
    behind x q (Stop y s) e g f = absurd (cc f)

    by : (o : Out (B ⊎ C)) → p ts ≡ o → bind o (behind_item as_item sep close) ≡ Done (inl b) r → length r < length ts
    by (Done x q) e h = omega (arith, takes ts x q e, behind x q (behind_item as_item sep close x q) refl (good_behind as_item sep close 0 x q) h)
    by (Stop y q) e h = absurd (cc h)
