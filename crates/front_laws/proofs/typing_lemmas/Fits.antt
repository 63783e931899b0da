-- What a rule spells has each position no more often than its tokens have it, and no less often than those tokens of it
-- that are always a node's: one law for each way of writing rules.
use Rattle.std.proofs.Common.{◌≡◌, ℕ, ◌+◌, ◌≤◌, Bool, true, false, cond, refl, List, [], ◌∷◌, None, ap, ◌∙◌, subst, arith, ◌⊎◌, inl, inr, ⊎_elim}
use Rattle.hs_base.specs.declared.pos.Pos.{Pos}
use Rattle.rules_tokens.specs.declared.token.Token.{Token}
use Rattle.rules_grammar.specs.GrammarForms.{Rule, give, one, seq, alt, go_on, many, ended, within, ◌⊛◌, ◌◁◌, at, map, Item, Spelling, Empty, Single, Made, Then, Either, Each, OnLeft, Passed, Last, Spelled}
use Rattle.rules_grammar.specs.GrammarParts.{TokenKind, kind_of, OpenerPart}
use Rattle.front_laws.specs.typing.Positions.{has_node}
use Rattle.front_laws.proofs.typing_lemmas.Counts.{here}

-- `W a n`: the value has the position that is counted n times
abbrev pub Weighing : Type 0 → Type 1
Weighing A = A → ℕ → Type 0

abbrev pub Weighs : {A : Type 0} → (A → ℕ) → Weighing A
Weighs weight a n = weight a ≡ n

-- a value without positions, or one of which they don't count
abbrev pub Free : {A : Type 0} → Weighing A
Free a n = n ≡ 0

-- a function that adds what it is given
abbrev pub Fun : {A B : Type 0} → Weighing B → Weighing A → Weighing (B → A)
Fun {B = B} V W f k = (b : B) (n : ℕ) → V b n → W (f b) (k + n)

abbrev pub Sum : {A B : Type 0} → Weighing B → Weighing A → Weighing (B ⊎ A)
Sum V W (inl b) n = V b n
Sum V W (inr a) n = W a n

module _ (q : Pos) where
  -- how often the items have the position
  abbrev pub seen : List Item → ℕ
  seen [] = 0
  seen (i ∷ is) = here q i.token.pos + seen is

  -- and how often those of them that are always a node's
  abbrev pub noded : Token → ℕ
  noded t = cond (has_node (kind_of t.tok)) (here q t.pos) 0

  abbrev pub made : List Item → ℕ
  made [] = 0
  made (i ∷ is) = noded i.token + made is

  cond_least : (b : Bool) (n : ℕ) → cond b n 0 ≤ n
  cond_least true n = omega arith
  cond_least false n = omega arith

  pub noded_here : (t : Token) → noded t ≤ here q t.pos
  noded_here t = cond_least (has_node (kind_of t.tok)) (here q t.pos)

  -- of a kind that needn't be a node's
  pub noded_none : (t : Token) (k : TokenKind) → kind_of t.tok ≡ k → has_node k ≡ false → noded t ≡ 0
  noded_none t k e h = ap (λ z. cond (has_node z) (here q t.pos) 0) e ∙ ap (λ b. cond b (here q t.pos) 0) h

  -- what is spelled weighs no more than its items, and no less than those that are always a node's
  abbrev pub Heavy : {A : Type 0} → Weighing A → Spelling A → Type 0
  Heavy {A = A} W S = (a : A) (from to : List Item) → S a from to → (n : ℕ) × W a n × (n + seen to ≤ seen from) × (made from ≤ n + made to)

  -- each of them, by what a list of them weighs
  pub each_heavy : {B : Type 0} (V : Weighing B) (W : Weighing (List B)) (S : Spelling B) → Heavy V S → W [] 0 → ((b : B) (bs : List B) (m n : ℕ) → V b m → W bs n → W (b ∷ bs) (m + n)) → Heavy W (Each S)
  each_heavy V W S hs w g [] from to h = (0, w, omega (arith, ap seen h), omega (arith, ap made h))
  each_heavy V W S hs w g (b ∷ bs) from to h =
      let x = hs b from h.0 h.1 in
      let y = each_heavy V W S hs w g bs h.0 to h.2 in
      (x.0 + y.0, g b bs x.0 y.0 x.1 y.1, omega (arith, x.2, y.2), omega (arith, x.3, y.3))

  module _ (inner : (B : Type 0) → OpenerPart B → Spelling B) where
    pub record Fits {A : Type 0} (r : Rule A) (W : Weighing A) : Type 0 where
      pub holds : (j : ℕ) → Heavy W (Spelled inner j r)

module _ {q : Pos} {inner : (B : Type 0) → OpenerPart B → Spelling B} where
  pub fit_give : {A : Type 0} {W : Weighing A} {x : A} → W x 0 → Fits q inner (give x) W
  fit_give {W = W} w = record { holds = λ j a from to h. (0, subst (λ z. W z 0) h.0 w, omega (arith, ap (seen q) h.1), omega (arith, ap (made q) h.1)) }

  -- a token that counts, and one that doesn't
  pub fit_one : {A : Type 0} {W : Weighing A} {k : TokenKind} {f : Token → A} → ((t : Token) → W (f t) (here q t.pos)) → Fits q inner (one k f) W
  fit_one {W = W} w = record {
    holds = λ j a from to h.
        (here q h.0.pos, subst (λ z. W z (here q h.0.pos)) h.1 (w h.0), omega (arith, ap (seen q) h.2.1), omega (arith, ap (made q) h.2.1, noded_here q h.0));
  }

  pub fit_aside : {A : Type 0} {k : TokenKind} {f : Token → A} → has_node k ≡ false → Fits q inner (one k f) Free
  fit_aside {k = k} aside = record { holds = λ j a from to h. (0, refl, omega (arith, ap (seen q) h.2.1), omega (arith, ap (made q) h.2.1, noded_none q h.0 k h.2.0 aside)) }

  pub fit_seq : {A B C : Type 0} {V : Weighing B} {U : Weighing C} {W : Weighing A} {f : B → C → A} {p : Rule B} {r : Rule C}
      → Fits q inner p V → Fits q inner r U → ((b : B) (c : C) (m n : ℕ) → V b m → U c n → W (f b c) (m + n)) → Fits q inner (seq f p r) W
  fit_seq {W = W} hp hr g = record {
    holds = λ j a from to h.
        let x = hp.holds j h.0 from h.1 h.2 in
        let y = hr.holds j h.3.0 h.1 to h.3.2 in
        (x.0 + y.0, subst (λ z. W z (x.0 + y.0)) h.3.1 (g h.0 h.3.0 x.0 y.0 x.1 y.1), omega (arith, x.2, y.2), omega (arith, x.3, y.3));
  }

  -- one part more; its law stands first
  pub fit_part : {A B : Type 0} {V : Weighing B} {W : Weighing A} {p : Rule (B → A)} {r : Rule B} → Fits q inner r V → Fits q inner p (Fun V W) → Fits q inner (p ⊛ r) W
  fit_part {V = V} {W = W} hr hp = fit_seq hp hr (λ f b m n v w. v b n w)

  pub fit_skip : {A : Type 0} {W : Weighing A} {p : Rule A} {k : TokenKind} → has_node k ≡ false → Fits q inner p W → Fits q inner (p ◁ k) W
  fit_skip {W = W} {k = k} aside hp = record {
    holds = λ j a from to h.
        let x = hp.holds j h.0 from h.1 h.2 in
        (x.0, subst (λ z. W z x.0) h.3.1 x.1, omega (arith, x.2, ap (seen q) h.3.2.2.1), omega (arith, x.3, ap (made q) h.3.2.2.1, noded_none q h.3.2.0 k h.3.2.2.0 aside));
  }

  pub fit_alt : {A : Type 0} {W : Weighing A} {p r : Rule A} → Fits q inner p W → Fits q inner r W → Fits q inner (alt p r) W
  fit_alt hp hr = record { holds = λ j a from to h. ⊎_elim (λ x. hp.holds j a from to x) (λ x. hr.holds j a from to x) h }

  pub fit_map : {A B : Type 0} {V : Weighing B} {W : Weighing A} {f : B → A} {p : Rule B} → Fits q inner p V → ((b : B) (n : ℕ) → V b n → W (f b) n) → Fits q inner (map f p) W
  fit_map {W = W} hp g = record {
    holds = λ j a from to h.
        let x = hp.holds j h.0 from h.1 h.2 in
        (x.0, subst (λ z. W z x.0) h.3.1 (g h.0 x.0 x.1), omega (arith, x.2, ap (seen q) h.3.2.1), omega (arith, x.3, ap (made q) h.3.2.1));
  }

  -- a word that counts
  pub fit_word : {A : Type 0} {k : TokenKind} {x : A} → Fits q inner {A = A × Pos} (map (λ p. (x, p)) (at k)) (Weighs (λ w. here q w.1))
  fit_word = fit_map {V = Weighs (here q)} (fit_one (λ t. refl)) (λ p n h. h)

  pub fit_go_on : {A B C : Type 0} {V : Weighing B} {U : Weighing C} {W : Weighing A} {f : B → C → A} {p : Rule (B ⊎ A)} {r : Rule C}
      → Fits q inner p (Sum V W) → Fits q inner r U → ((b : B) (c : C) (m n : ℕ) → V b m → U c n → W (f b c) (m + n)) → Fits q inner (go_on f p r) W
  fit_go_on {A = A} {B = B} {V = V} {W = W} {f = f} {r = r} hp hr g = record { holds = λ j a from to h. let x = hp.holds j h.0 from h.1 h.2 in by j a from to h.1 h.0 x.0 x.1 x.2 x.3 h.3 }
    where
      by : (j : ℕ) (a : A) (from to mid : List Item) (b : B ⊎ A) (n : ℕ) → Sum V W b n → n + seen q mid ≤ seen q from → made q from ≤ n + made q mid → OnLeft (λ y. Made (f y) (Spelled inner j r)) b a mid to
          → (m : ℕ) × W a m × (m + seen q to ≤ seen q from) × (made q from ≤ m + made q to)
      by j a from to mid (inl b) n v l m h =
          let y = hr.holds j h.0 mid to h.2 in
          (n + y.0, subst (λ z. W z (n + y.0)) h.1 (g b h.0 n y.0 v y.1), omega (arith, l, y.2), omega (arith, m, y.3))
      by j a from to mid (inr b) n v l m h = (n, subst (λ z. W z n) h.0 v, omega (arith, l, ap (seen q) h.1), omega (arith, m, ap (made q) h.1))

  pub fit_many : {B : Type 0} {V : Weighing B} {W : Weighing (List B)} {p : Rule B} → Fits q inner p V → W [] 0 → ((b : B) (bs : List B) (m n : ℕ) → V b m → W bs n → W (b ∷ bs) (m + n)) → Fits q inner (many (λ as'. as') p) W
  fit_many {V = V} {W = W} {p = p} hp w g = record {
    holds = λ j a from to h.
        let x = each_heavy q V W (Spelled inner j p) (hp.holds j) w g h.0 from to h.2 in
        (x.0, subst (λ z. W z x.0) h.1 x.1, x.2, x.3);
  }

  -- an opener that counts, one that doesn't, and one of which its part decides
  pub fit_within : {A B : Type 0} {V : Weighing B} {W : Weighing A} {g : Pos → B → A} {k : TokenKind} {part : OpenerPart B}
      → Heavy q V (inner B part) → ((p : Pos) (b : B) (n : ℕ) → V b n → W (g p b) (here q p + n)) → Fits q inner (within g k part) W
  fit_within {W = W} hi w = record {
    holds = λ j a from to h.
        let x = hi h.3.0 h.1 to h.3.2 in
        (here q h.0.pos + x.0, subst (λ z. W z (here q h.0.pos + x.0)) h.3.1 (w h.0.pos h.3.0 x.0 x.1), omega (arith, x.2, ap (seen q) h.2.1), omega (arith, x.3, ap (made q) h.2.1, noded_here q h.0));
  }

  pub fit_inside : {A B : Type 0} {V : Weighing B} {W : Weighing A} {g : Pos → B → A} {k : TokenKind} {part : OpenerPart B}
      → has_node k ≡ false → Heavy q V (inner B part) → ((p : Pos) (b : B) (n : ℕ) → V b n → W (g p b) n) → Fits q inner (within g k part) W
  fit_inside {W = W} {k = k} aside hi w = record {
    holds = λ j a from to h.
        let x = hi h.3.0 h.1 to h.3.2 in
        (x.0, subst (λ z. W z x.0) h.3.1 (w h.0.pos h.3.0 x.0 x.1), omega (arith, x.2, ap (seen q) h.2.1), omega (arith, x.3, ap (made q) h.2.1, noded_none q h.0 k h.2.0 aside));
  }

  pub fit_either : {A B : Type 0} {V : Weighing B} {W : Weighing A} {g : Pos → B → A} {k : TokenKind} {part : OpenerPart B}
      → has_node k ≡ false → Heavy q V (inner B part) → ((p : Pos) (b : B) (n : ℕ) → V b n → (m : ℕ) × W (g p b) m × (n ≤ m) × (m ≤ here q p + n)) → Fits q inner (within g k part) W
  fit_either {W = W} {k = k} aside hi w = record {
    holds = λ j a from to h.
        let x = hi h.3.0 h.1 to h.3.2 in
        let y = w h.0.pos h.3.0 x.0 x.1 in
        (y.0, subst (λ z. W z y.0) h.3.1 y.1, omega (arith, x.2, y.3, ap (seen q) h.2.1), omega (arith, x.3, y.2, ap (made q) h.2.1, noded_none q h.0 k h.2.0 aside));
  }

  -- a block: its items, and what is last
  pub fit_ended : {A B C : Type 0} {V : Weighing B} {Vs : Weighing (List B)} {U : Weighing C} {W : Weighing A} {f : List B → C → A} {as_item : C → B} {sep close : TokenKind} {p : Rule (B ⊎ C)}
      → has_node sep ≡ false → has_node close ≡ false → Fits q inner p (Sum V U) → ((c : C) (n : ℕ) → U c n → V (as_item c) n) → Vs [] 0 → ((b : B) (bs : List B) (m n : ℕ) → V b m → Vs bs n → Vs (b ∷ bs) (m + n))
      → ((bs : List B) (c : C) (m n : ℕ) → Vs bs m → U c n → W (f bs c) (m + n)) → Fits q inner (ended f as_item sep close p) W
  fit_ended {A = A} {B = B} {C = C} {V = V} {Vs = Vs} {U = U} {W = W} {f = f} {as_item = as_item} {sep = sep} {close = close} {p = p} no_sep no_close hp item w g whole = record {
    holds = λ j a from to h.
        let x = each_heavy q V Vs (Passed as_item sep (Spelled inner j p)) (passed j) w g h.0 from h.1 h.2 in
        let y = last j h.3.0 h.1 to h.3.2 in
        (x.0 + y.0, subst (λ z. W z (x.0 + y.0)) h.3.1 (whole h.0 h.3.0 x.0 y.0 x.1 y.1), omega (arith, x.2, y.2), omega (arith, x.3, y.3));
  }
    where
      passed : (j : ℕ) → Heavy q V (Passed as_item sep (Spelled inner j p))
      passed j b from to h = by h.2
        where
          seen_to : seen q to ≤ seen q h.1
          seen_to = omega (arith, ap (seen q) h.3.2.1, ap (seen q) h.3.3.1)

          made_to : made q h.1 ≤ made q to
          made_to = omega (arith, ap (made q) h.3.2.1, ap (made q) h.3.3.1, noded_none q h.3.0 sep h.3.2.0 no_sep)

          by : Either (λ x. Spelled inner j p (inl x)) (Made as_item (λ c. Spelled inner j p (inr c))) h.0 from h.1 → (n : ℕ) × V b n × (n + seen q to ≤ seen q from) × (made q from ≤ n + made q to)
          by (inl s) = let x = hp.holds j (inl h.0) from h.1 s in (x.0, subst (λ z. V z x.0) h.3.3.0 x.1, omega (arith, x.2, seen_to), omega (arith, x.3, made_to))
          by (inr s) = let x = hp.holds j (inr s.0) from h.1 s.2 in (x.0, subst (λ z. V z x.0) (s.1 ∙ h.3.3.0) (item s.0 x.0 x.1), omega (arith, x.2, seen_to), omega (arith, x.3, made_to))

      last : (j : ℕ) → Heavy q U (Last sep close (Spelled inner j p))
      last j c from to h = by h.3
        where
          x : (n : ℕ) × U h.0 n × (n + seen q h.1 ≤ seen q from) × (made q from ≤ n + made q h.1)
          x = hp.holds j (inr h.0) from h.1 h.2

          by : Either (Then (Single None close) (λ t. Empty h.0)) (Then (Single None sep) (λ t. Then (Single None close) (λ u. Empty h.0))) c h.1 to → (n : ℕ) × U c n × (n + seen q to ≤ seen q from) × (made q from ≤ n + made q to)
          by (inl d) = (x.0, subst (λ z. U z x.0) d.3.0 x.1, omega (arith, x.2, ap (seen q) d.2.1, ap (seen q) d.3.1), omega (arith, x.3, ap (made q) d.2.1, ap (made q) d.3.1, noded_none q d.0 close d.2.0 no_close))
          by (inr d) = (
            x.0,
            subst (λ z. U z x.0) d.3.3.0 x.1,
            omega (arith, x.2, ap (seen q) d.2.1, ap (seen q) d.3.2.1, ap (seen q) d.3.3.1),
            omega (arith, x.3, ap (made q) d.2.1, ap (made q) d.3.2.1, ap (made q) d.3.3.1, noded_none q d.0 sep d.2.0 no_sep, noded_none q d.3.0 close d.3.2.0 no_close),
          )
