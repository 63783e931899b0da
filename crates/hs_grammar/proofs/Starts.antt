-- What is spelled begins with one of the rule's first kinds, or is nothing.
use Rattle.std.proofs.Common.{◌≡◌, ℕ, zero, suc, ◌<◌, ◌≤◌, Bool, true, false, List, [], ◌∷◌, ◌++◌, length, Option, Some, None, refl, sym, ap, ◌∙◌, subst, ◌⊎◌, inl, inr, arith}
use Rattle.rules_tokens.specs.declared.token.Token.{Token}
use Rattle.rules_grammar.specs.Grammar.{rule_of, SpelledIn}
use Rattle.rules_grammar.specs.GrammarForms.{Rule, give, one, seq, alt, go_on, many, ended, within, Item, tokens_of, Spelling, Empty, Single, Made, Then, Either, Each, OnLeft, Passed, Last, Spelled}
use Rattle.rules_grammar.specs.GrammarParts.{TokenKind, kind_of, OpenerPart}
use Rattle.hs_grammar.specs.Parser.{same_kind, either, both, negated, apart, where', may_be_empty, firsts, begins}
use Rattle.hs_grammar.proofs.KindLists.{both_true, negated_true, clash, either_right, same_of, begins_left, begins_right}
use Rattle.hs_grammar.proofs.Checks.{after, fine}
use Rattle.hs_grammar.proofs.Spellings.{Parts}

-- ---- nothing is added
abbrev pub Shrinks : {A : Type 0} → Spelling A → Type 0
Shrinks {A} S = (a : A) (w k : List Item) → S a w k → length k ≤ length w

shrinks_single : (o : Option ℕ) (l : TokenKind) → Shrinks (Single o l)
shrinks_single o l t w k h = omega (arith, ap length h.1)

single_less : (o : Option ℕ) (l : TokenKind) (t : Token) (w k : List Item) → Single o l t w k → length k < length w
single_less o l t w k h = omega (arith, ap length h.1)

shrinks_then : {A B : Type 0} (S : Spelling B) (T : B → Spelling A) → Shrinks S → ((b : B) → Shrinks (T b)) → Shrinks (Then S T)
shrinks_then S T s t a w k h = omega (arith, s h.0 w h.1 h.2, t h.0 a h.1 k h.3)

shrinks_each : {A : Type 0} (S : Spelling A) → Shrinks S → Shrinks (Each S)
shrinks_each S s [] w k h = omega (arith, ap length h)
shrinks_each S s (b ∷ bs) w k h = omega (arith, s b w h.0 h.1, shrinks_each S s bs h.0 k h.2)

shrinks_empty : {A : Type 0} (x : A) → Shrinks (Empty x)
shrinks_empty x a w k h = omega (arith, ap length h.1)

shrinks_made : {A B : Type 0} (f : B → A) (S : Spelling B) → Shrinks S → Shrinks (Made f S)
shrinks_made f S s a w k h = s h.0 w k h.2

shrinks_either : {A : Type 0} (S T : Spelling A) → Shrinks S → Shrinks T → Shrinks (Either S T)
shrinks_either S T s t a w k (inl h) = s a w k h
shrinks_either S T s t a w k (inr h) = t a w k h

shrinks_on_left : {A B : Type 0} (T : B → Spelling A) → ((b : B) → Shrinks (T b)) → (x : B ⊎ A) → Shrinks (OnLeft T x)
shrinks_on_left T t (inl b) = t b
shrinks_on_left T t (inr a) = shrinks_empty a

shrinks_passed : {B C : Type 0} (f : C → B) (sep : TokenKind) (S : Spelling (B ⊎ C)) → Shrinks S → Shrinks (Passed f sep S)
shrinks_passed f sep S s =
    shrinks_then (Either (λ b. S (inl b)) (Made f (λ c. S (inr c)))) (λ b. Then (Single None sep) (λ t. Empty b))
    (shrinks_either (λ b. S (inl b)) (Made f (λ c. S (inr c))) (λ b. s (inl b)) (shrinks_made f (λ c. S (inr c)) (λ c. s (inr c))))
    (λ b. shrinks_then (Single None sep) (λ t. Empty b) (shrinks_single None sep) (λ t. shrinks_empty b))

shrinks_last : {B C : Type 0} (sep close : TokenKind) (S : Spelling (B ⊎ C)) → Shrinks S → Shrinks (Last sep close S)
shrinks_last sep close S s =
    shrinks_then (λ c. S (inr c)) (λ c. Either (Then (Single None close) (λ t. Empty c)) (Then (Single None sep) (λ t. Then (Single None close) (λ u. Empty c))))
    (λ c. s (inr c))
    (λ c. shrinks_either (Then (Single None close) (λ t. Empty c)) (Then (Single None sep) (λ t. Then (Single None close) (λ u. Empty c)))
    (shrinks_then (Single None close) (λ t. Empty c) (shrinks_single None close) (λ t. shrinks_empty c))
    (shrinks_then (Single None sep) (λ t. Then (Single None close) (λ u. Empty c)) (shrinks_single None sep)
    (λ t. shrinks_then (Single None close) (λ u. Empty c) (shrinks_single None close) (λ u. shrinks_empty c))))

-- a token that stands there begins it
pub single_begins : (o : Option ℕ) (l : TokenKind) (t : Token) (w k : List Item) → Single o l t w k → begins (l ∷ []) (tokens_of w) ≡ true
single_begins o l t w k h = ap (λ z. begins (l ∷ []) (tokens_of z)) h.1 ∙ ap (λ b. either b false) (same_of (kind_of t.tok) l h.0)

module _ (X : Parts) (x : (B : Type 0) (part : OpenerPart B) → Shrinks (X B part)) (j : ℕ) where
  pub shrinks : {A : Type 0} (r : Rule A) → Shrinks (Spelled X j r)
  shrinks (give y) = shrinks_empty y
  shrinks (one l f) = shrinks_made f (Single None l) (shrinks_single None l)
  shrinks (seq f p q) = shrinks_then (Spelled X j p) (λ b. Made (f b) (Spelled X j q)) (shrinks p) (λ b. shrinks_made (f b) (Spelled X j q) (shrinks q))
  shrinks (alt p q) = shrinks_either (Spelled X j p) (Spelled X j q) (shrinks p) (shrinks q)
  shrinks (go_on f p q) =
      shrinks_then (Spelled X j p) (OnLeft (λ b. Made (f b) (Spelled X j q))) (shrinks p) (shrinks_on_left (λ b. Made (f b) (Spelled X j q)) (λ b. shrinks_made (f b) (Spelled X j q) (shrinks q)))
  shrinks (many f p) = shrinks_made f (Each (Spelled X j p)) (shrinks_each (Spelled X j p) (shrinks p))
  shrinks (ended f g sep close p) =
      shrinks_then (Each (Passed g sep (Spelled X j p))) (λ bs. Made (f bs) (Last sep close (Spelled X j p))) (shrinks_each (Passed g sep (Spelled X j p)) (shrinks_passed g sep (Spelled X j p) (shrinks p)))
      (λ bs. shrinks_made (f bs) (Last sep close (Spelled X j p)) (shrinks_last sep close (Spelled X j p) (shrinks p)))
  shrinks (within {B = B} g l part) = shrinks_then (Single (Some j) l) (λ t. Made (g t.pos) (X B part)) (shrinks_single (Some j) l) (λ t. shrinks_made (g t.pos) (X B part) (x B part))

  -- what is spelled is nothing, or it begins so and is something
  abbrev pub Starts : Bool → List TokenKind → List Item → List Item → Type 0
  Starts e ks w k = ((e ≡ true) × (w ≡ k)) ⊎ ((begins ks (tokens_of w) ≡ true) × (length k < length w))

  pub starts : {A : Type 0} (r : Rule A) → fine r ≡ true → (a : A) (w k : List Item) → Spelled X j r a w k → Starts (may_be_empty r) (firsts r) w k
  unfolding may_be_empty firsts
  starts (give y) e a w k h = inl (refl, h.1)
  starts (one l f) e a w k h = inr (single_begins None l h.0 w k h.2, single_less None l h.0 w k h.2)
  starts (seq f p q) e a w k h = by (starts p fp.0 h.0 w h.1 h.2) (starts q fq.0 h.3.0 h.1 k h.3.2)
    where
      fp : (fine p ≡ true) × (both (fine q) (apart (after p) (firsts q)) ≡ true)
      fp = both_true (fine p) (both (fine q) (apart (after p) (firsts q))) e

      fq : (fine q ≡ true) × (apart (after p) (firsts q) ≡ true)
      fq = both_true (fine q) (apart (after p) (firsts q)) fp.1

      by : Starts (may_be_empty p) (firsts p) w h.1 → Starts (may_be_empty q) (firsts q) h.1 k → Starts (both (may_be_empty p) (may_be_empty q)) (firsts p ++ where' (may_be_empty p) (firsts q)) w k
      by (inr s) u = inr (begins_left (firsts p) (where' (may_be_empty p) (firsts q)) (tokens_of w) s.0, omega (arith, s.1, shrinks q h.3.0 h.1 k h.3.2))
      by (inl s) (inl u) = inl (ap (λ b. both b (may_be_empty q)) s.0 ∙ u.0, s.1 ∙ u.1)
      by (inl s) (inr u) =
          inr (begins_right (firsts p) (where' (may_be_empty p) (firsts q)) (tokens_of w) (ap (λ b. begins (where' b (firsts q)) (tokens_of w)) s.0 ∙ (ap (λ z. begins (firsts q) (tokens_of z)) s.1 ∙ u.0)), omega (arith, u.1, ap length s.1))
  starts (alt p q) e a w k (inl h) = by (starts p (both_true (fine p) _ e).0 a w k h)
    where
      by : Starts (may_be_empty p) (firsts p) w k → Starts (either (may_be_empty p) (may_be_empty q)) (firsts p ++ firsts q) w k
      by (inl s) = inl (ap (λ b. either b (may_be_empty q)) s.0, s.1)
      by (inr s) = inr (begins_left (firsts p) (firsts q) (tokens_of w) s.0, s.1)
  starts (alt p q) e a w k (inr h) = by (starts q (both_true (fine q) _ (both_true (fine p) _ e).1).0 a w k h)
    where
      by : Starts (may_be_empty q) (firsts q) w k → Starts (either (may_be_empty p) (may_be_empty q)) (firsts p ++ firsts q) w k
      by (inl s) = inl (either_right (may_be_empty p) (may_be_empty q) s.0, s.1)
      by (inr s) = inr (begins_right (firsts p) (firsts q) (tokens_of w) s.0, s.1)
  starts (go_on f p q) e a w k h = by (starts p e0.0 h.0 w h.1 h.2)
    where
      e0 : (fine p ≡ true) × (both (fine q) (both (negated (may_be_empty p)) (both (negated (may_be_empty q)) (apart (after p) (firsts q)))) ≡ true)
      e0 = both_true (fine p) (both (fine q) (both (negated (may_be_empty p)) (both (negated (may_be_empty q)) (apart (after p) (firsts q))))) e

      by : Starts (may_be_empty p) (firsts p) w h.1 → Starts (may_be_empty p) (firsts p) w k
      by (inl s) = clash (may_be_empty p) s.0 (negated_true (may_be_empty p) (both_true (negated (may_be_empty p)) _ (both_true (fine q) _ e0.1).1).0)
      by (inr s) = inr (s.0, omega (arith, s.1, shrinks_on_left (λ b. Made (f b) (Spelled X j q)) (λ b. shrinks_made (f b) (Spelled X j q) (shrinks q)) h.0 a h.1 k h.3))
  starts (many {B = B} f p) e a w k h = by h.0 h.2 (λ b mid s. starts p e0.0 b w mid s)
    where
      e0 : (fine p ≡ true) × (both (negated (may_be_empty p)) (apart (after p) (firsts p)) ≡ true)
      e0 = both_true (fine p) (both (negated (may_be_empty p)) (apart (after p) (firsts p))) e

      by : (bs : List B) → Each (Spelled X j p) bs w k → ((b : B) (mid : List Item) → Spelled X j p b w mid → Starts (may_be_empty p) (firsts p) w mid) → Starts true (firsts p) w k
      by [] s ih = inl (refl, s)
      by (b ∷ bs) s ih = go (ih b s.0 s.1)
        where
          go : Starts (may_be_empty p) (firsts p) w s.0 → Starts true (firsts p) w k
          go (inl u) = clash (may_be_empty p) u.0 (negated_true (may_be_empty p) (both_true (negated (may_be_empty p)) _ e0.1).0)
          go (inr u) = inr (u.0, omega (arith, u.1, shrinks_each (Spelled X j p) (shrinks p) bs s.0 k s.2))
  starts (ended {B = B} {C = C} f g sep close p) e a w k h = by h.0 h.2 (λ b mid s. starts p e0.0 b w mid s)
    where
      e0 : (fine p ≡ true) × (both (negated (may_be_empty p)) (both (apart (after p) (sep ∷ close ∷ [])) (both (apart (close ∷ []) (firsts p)) (negated (same_kind sep close)))) ≡ true)
      e0 = both_true (fine p) (both (negated (may_be_empty p)) (both (apart (after p) (sep ∷ close ∷ [])) (both (apart (close ∷ []) (firsts p)) (negated (same_kind sep close))))) e

      go : (mid : List Item) → Starts (may_be_empty p) (firsts p) w mid → length k ≤ length mid → Starts (may_be_empty p) (firsts p) w k
      go mid (inl u) l = clash (may_be_empty p) u.0 (negated_true (may_be_empty p) (both_true (negated (may_be_empty p)) _ e0.1).0)
      go mid (inr u) l = inr (u.0, omega (arith, u.1, l))

      at_last : (c : C) (v : List Item) → w ≡ v → Last sep close (Spelled X j p) c v k → ((b : B ⊎ C) (mid : List Item) → Spelled X j p b w mid → Starts (may_be_empty p) (firsts p) w mid) → Starts (may_be_empty p) (firsts p) w k
      at_last c v q s ih =
          go s.1 (ih (inr s.0) s.1 (subst (λ z. Spelled X j p (inr s.0) z s.1) (sym q) s.2))
          (shrinks_either (Then (Single None close) (λ t. Empty s.0)) (Then (Single None sep) (λ t. Then (Single None close) (λ u. Empty s.0)))
          (shrinks_then (Single None close) (λ t. Empty s.0) (shrinks_single None close) (λ t. shrinks_empty s.0))
          (shrinks_then (Single None sep) (λ t. Then (Single None close) (λ u. Empty s.0)) (shrinks_single None sep) (λ t. shrinks_then (Single None close) (λ u. Empty s.0) (shrinks_single None close) (λ u. shrinks_empty s.0))) c s.1 k s.3)

      by : (bs : List B) → Each (Passed g sep (Spelled X j p)) bs w h.1 → ((b : B ⊎ C) (mid : List Item) → Spelled X j p b w mid → Starts (may_be_empty p) (firsts p) w mid) → Starts (may_be_empty p) (firsts p) w k
      by [] s ih = at_last h.3.0 h.1 s h.3.2 ih
      by (b ∷ bs) s ih = at_item s.1.2
        where
          rest : length k ≤ length s.1.1
          rest =
              omega (
                arith,
                shrinks_then (Single None sep) (λ t. Empty s.1.0) (shrinks_single None sep) (λ t. shrinks_empty s.1.0) b s.1.1 s.0 s.1.3,
                shrinks_each (Passed g sep (Spelled X j p)) (shrinks_passed g sep (Spelled X j p) (shrinks p)) bs s.0 h.1 s.2,
                shrinks_last sep close (Spelled X j p) (shrinks p) h.3.0 h.1 k h.3.2,
              )

          at_item : Either (λ d. Spelled X j p (inl d)) (Made g (λ c. Spelled X j p (inr c))) s.1.0 w s.1.1 → Starts (may_be_empty p) (firsts p) w k
          at_item (inl u) = go s.1.1 (ih (inl s.1.0) s.1.1 u) rest
          at_item (inr u) = go s.1.1 (ih (inr u.0) s.1.1 u.2) rest
  starts (within {B = B} g l part) e a w k h =
      inr (single_begins (Some j) l h.0 w h.1 h.2, omega (arith, single_less (Some j) l h.0 w h.1 h.2, x B part h.3.0 h.1 k h.3.2))

pub parts_shrink : (n j : ℕ) (B : Type 0) (part : OpenerPart B) → Shrinks (SpelledIn n j B part)
parts_shrink zero j B part = λ a w k h. absurd h
parts_shrink (suc n) j B part = shrinks (SpelledIn n (suc j)) (parts_shrink n (suc j)) (suc j) (rule_of part)
