-- What a rule spells is read, where nothing follows that it would still take.
use Rattle.std.proofs.Common.{◌≡◌, ℕ, suc, ◌<◌, Bool, true, false, List, [], ◌∷◌, ◌++◌, length, Option, Some, None, refl, sym, ap, ◌∙◌, subst, ◌⊎◌, inl, inr, arith, length-append}
use Rattle.rules_tokens.specs.declared.token.Token.{Token}
use Rattle.rules_grammar.specs.GrammarForms.{Rule, give, one, seq, alt, go_on, many, ended, within, Item, tokens_of, Spelling, Empty, Single, Made, Then, Either, Each, OnLeft, Passed, Last, Spelled}
use Rattle.rules_grammar.specs.GrammarParts.{TokenKind, kind_of, OpenerPart}
use Rattle.hs_grammar.specs.Parser.{same_kind, either, both, negated, apart, where', may_be_empty, firsts, begins, Why, Out, Done, Stop, Parser, bind, done, choose, take_if, take, on_left, turn, turns, loop, another, after_separator, behind_item, item_step, Inner, read_then, read, enter}
use Rattle.hs_grammar.proofs.KindLists.{both_true, negated_true, clash, same_of, begins_apart, not_begins}
use Rattle.hs_grammar.proofs.Checks.{after_part, after, fine}
use Rattle.hs_grammar.proofs.Spellings.{Parts, PartsAppend, PartsSub}
use Rattle.hs_grammar.proofs.Good.{GoodOut, Closes, PartOut, Ends, good}
use Rattle.hs_grammar.proofs.Reading.{read_seq, read_go_on}
use Rattle.hs_grammar.proofs.Starts.{Shrinks, single_begins, Starts, starts}
use Rattle.hs_grammar.proofs.Loops.{Takes, loop_eq, another_takes, item_takes}

pub tokens_length : (w : List Item) → length (tokens_of w) ≡ length w
tokens_length [] = refl
tokens_length (i ∷ w) = ap suc (tokens_length w)

-- a token that stands there is taken
take_single : {A : Type 0} (o : Option ℕ) (l : TokenKind) (f : Token → Parser A) (t : Token) (w k : List Item) → Single o l t w k → take l f (tokens_of w) ≡ f t (tokens_of k)
take_single o l f t w k h = ap (λ z. take l f (tokens_of z)) h.1 ∙ ap (λ b. take_if b t f (tokens_of k)) (same_of (kind_of t.tok) l h.0)

single_other : (o : Option ℕ) (l l' : TokenKind) (t : Token) (w k : List Item) → Single o l t w k → same_kind l l' ≡ false → begins (l' ∷ []) (tokens_of w) ≡ false
single_other o l l' t w k h n = ap (λ z. begins (l' ∷ []) (tokens_of z)) h.1 ∙ (ap (λ z. either (same_kind z l') false) h.0 ∙ ap (λ b. either b false) n)

single_in : (o : Option ℕ) (l : TokenKind) (ls : List TokenKind) (t : Token) (w k : List Item) → Single o l t w k → begins (l ∷ ls) (tokens_of w) ≡ true
single_in o l ls t w k h = ap (λ z. begins (l ∷ ls) (tokens_of z)) h.1 ∙ ap (λ b. either b (Rattle.hs_grammar.specs.Parser.is_in (kind_of t.tok) ls)) (same_of (kind_of t.tok) l h.0)

in_second : (l l' : TokenKind) (ts : List Token) → begins (l' ∷ []) ts ≡ true → begins (l ∷ l' ∷ []) ts ≡ true
in_second l l' [] h = absurd (cc h)
in_second l l' (t ∷ ts) h = by (same_kind (kind_of t.tok) l)
  where
    by : (b : Bool) → either b (either (same_kind (kind_of t.tok) l') false) ≡ true
    by true = refl
    by false = h

module _ (m j : ℕ) (inner : Inner) (X Y : Parts) (xa : PartsAppend X) (ya : PartsAppend Y) (sub : PartsSub X Y)
    (pg : (B : Type 0) (part : OpenerPart B) (t : Token) (ts : List Token) → PartOut m j (X B part) (Y B part) t ts (inner B part t ts))
    (pc : (B : Type 0) (part : OpenerPart B) → Closes (Y B part))
    (xs : (B : Type 0) (part : OpenerPart B) → Shrinks (X B part)) where
  takes : {A : Type 0} (r : Rule A) → Ends m j inner X Y xa ya sub pg pc r → fine r ≡ true → may_be_empty r ≡ false → Takes (read inner r)
  takes {A} r e f n ts a q h = by (subst (GoodOut m (Spelled X j r) (Spelled Y j r) ts) h (good m j inner X Y xa ya sub pg pc r e ts))
    where
      by : GoodOut m (Spelled X j r) (Spelled Y j r) ts (Done a q) → length q < length ts
      by g = go (starts X xs j r f a g.0 [] g.2)
        where
          go : Starts X xs j (may_be_empty r) (firsts r) g.0 [] → length q < length ts
          go (inl s) = clash (may_be_empty r) s.0 n
          go (inr s) = omega (arith, s.1, ap length g.1, length-append (tokens_of g.0) q, tokens_length g.0)

  module _ (complete_part : (B : Type 0) (part : OpenerPart B) (t : Token) (b : B) (w k : List Item) → X B part b w k → begins (after_part part) (tokens_of k) ≡ false → inner B part t (tokens_of w) ≡ Done b (tokens_of k)) where
    abbrev Completes : {A : Type 0} → Rule A → Type 0
    Completes {A} r = (a : A) (w k : List Item) → Spelled X j r a w k → begins (after r) (tokens_of k) ≡ false → read inner r (tokens_of w) ≡ Done a (tokens_of k)

    -- ---- loops
    module _ {B : Type 0} (p : Rule B) (f : fine p ≡ true) (n : may_be_empty p ≡ false) (ap' : apart (after p) (firsts p) ≡ true) (tk : Takes (read inner p)) (ih : Completes p) where
      abbrev step : Parser (B ⊎ Unit {0})
      step = another (firsts p) (read inner p)

      begins_item : (b : B) (w mid : List Item) → Spelled X j p b w mid → begins (firsts p) (tokens_of w) ≡ true
      begins_item b w mid h = go (starts X xs j p f b w mid h)
        where
          go : Starts X xs j (may_be_empty p) (firsts p) w mid → begins (firsts p) (tokens_of w) ≡ true
          go (inl s) = clash (may_be_empty p) s.0 n
          go (inr s) = s.0

      follows : (bs : List B) (w k : List Item) → Each (Spelled X j p) bs w k → begins (after p) (tokens_of k) ≡ false → begins (after p) (tokens_of w) ≡ false
      follows [] w k h g = ap (λ z. begins (after p) (tokens_of z)) h ∙ g
      follows (b ∷ bs) w k h g = begins_apart (after p) (firsts p) (tokens_of w) ap' (begins_item b w h.0 h.1)

      many_complete : (bs : List B) (w k : List Item) → Each (Spelled X j p) bs w k → begins (firsts p) (tokens_of k) ≡ false → begins (after p) (tokens_of k) ≡ false → loop step (tokens_of w) ≡ Done (bs, tt) (tokens_of k)
      many_complete [] w k h e g =
          loop_eq step (another_takes (firsts p) (read inner p) tk) (tokens_of w)
          ∙ ap (λ b. bind (choose b (λ us. bind (read inner p us) (λ a. done (inl a))) (done (inr tt)) (tokens_of w)) (turn (loop step))) (ap (λ z. begins (firsts p) (tokens_of z)) h ∙ e)
          ∙ ap (λ z. Done ([], tt) (tokens_of z)) h
      many_complete (b ∷ bs) w k h e g =
          loop_eq step (another_takes (firsts p) (read inner p) tk) (tokens_of w)
          ∙ ap (λ t. bind (choose t (λ us. bind (read inner p us) (λ a. done (inl a))) (done (inr tt)) (tokens_of w)) (turn (loop step))) (begins_item b w h.0 h.1)
          ∙ ap (λ o. bind (bind o (λ a. done (inl a))) (turn (loop step))) (ih b w h.0 h.1 (follows bs h.0 k h.2 g))
          ∙ ap (λ o. bind o (λ x. done (b ∷ x.0, x.1))) (many_complete bs h.0 k h.2 e g)

    module _ {B C : Type 0} (as_item : C → B) (sep close : TokenKind) (p : Rule (B ⊎ C)) (fe : fine (ended {A = Unit {0}} (λ bs c. tt) as_item sep close p) ≡ true) (n : may_be_empty p ≡ false)
        (a0 : apart (after p) (sep ∷ close ∷ []) ≡ true) (a1 : apart (close ∷ []) (firsts p) ≡ true) (a2 : same_kind sep close ≡ false) (tk : Takes (read inner p)) (ih : Completes p) where
      abbrev istep : Parser (B ⊎ C)
      istep = item_step as_item sep close (read inner p)

      abbrev S : Spelling (B ⊎ C)
      S = Spelled X j p

      not_close : (bs : List B) (c : C) (w mid k : List Item) → Each (Passed as_item sep S) bs w mid → Last sep close S c mid k → begins (close ∷ []) (tokens_of w) ≡ false
      unfolding may_be_empty firsts
      not_close bs c w mid k h l = begins_apart (close ∷ []) (firsts p) (tokens_of w) a1 (go (starts X xs j (ended {A = Unit {0}} (λ bs c. tt) as_item sep close p) fe (tt {0}) w k (bs, mid, h, (c, refl {0}, l))))
        where
          go : Starts X xs j (may_be_empty (ended {A = Unit {0}} (λ (bs : List B) (c : C). tt) as_item sep close p)) (firsts (ended {A = Unit {0}} (λ (bs : List B) (c : C). tt) as_item sep close p)) w k → begins (firsts p) (tokens_of w) ≡ true
          go (inl s) = clash (may_be_empty p) s.0 n
          go (inr s) = s.0

      -- an item in front of its separator, and the last one in front of what ends the block
      at_sep : (x : B ⊎ C) (t : Token) (w v u : List Item) → S x w v → Single None sep t v u → read inner p (tokens_of w) ≡ Done x (tokens_of v)
      at_sep x t w v u s h = ih x w v s (begins_apart (after p) (sep ∷ close ∷ []) (tokens_of v) a0 (single_in None sep (close ∷ []) t v u h))

      at_close : (x : B ⊎ C) (t : Token) (w v u : List Item) → S x w v → Single None close t v u → read inner p (tokens_of w) ≡ Done x (tokens_of v)
      at_close x t w v u s h = ih x w v s (begins_apart (after p) (sep ∷ close ∷ []) (tokens_of v) a0 (in_second sep close (tokens_of v) (single_begins None close t v u h)))

      last_step : (c : C) (w k : List Item) → Last sep close S c w k → istep (tokens_of w) ≡ Done (inr c) (tokens_of k)
      last_step c w k h = by h.3
        where
          by : Either (Then (Single None close) (λ t. Empty h.0)) (Then (Single None sep) (λ t. Then (Single None close) (λ u. Empty h.0))) c h.1 k → istep (tokens_of w) ≡ Done (inr c) (tokens_of k)
          by (inl d) =
              ap (λ o. bind o (behind_item as_item sep close)) (at_close (inr h.0) d.0 w h.1 d.1 h.2 d.2)
              ∙ ap (λ b. choose b (take close (λ t. done (inr h.0))) (take sep (λ t. after_separator as_item close h.0)) (tokens_of h.1)) (single_begins None close d.0 h.1 d.1 d.2)
              ∙ take_single None close (λ t. done (inr h.0)) d.0 h.1 d.1 d.2
              ∙ ap (λ z. Done (inr z) (tokens_of d.1)) d.3.0 ∙ ap (λ z. Done (inr c) (tokens_of z)) d.3.1
          by (inr d) =
              ap (λ o. bind o (behind_item as_item sep close)) (at_sep (inr h.0) d.0 w h.1 d.1 h.2 d.2)
              ∙ ap (λ b. choose b (take close (λ t. done (inr h.0))) (take sep (λ t. after_separator as_item close h.0)) (tokens_of h.1)) (single_other None sep close d.0 h.1 d.1 d.2 a2)
              ∙ take_single None sep (λ t. after_separator as_item close h.0) d.0 h.1 d.1 d.2
              ∙ ap (λ b. choose b (take close (λ t. done (inr h.0))) (done (inl (as_item h.0))) (tokens_of d.1)) (single_begins None close d.3.0 d.1 d.3.1 d.3.2)
              ∙ take_single None close (λ t. done (inr h.0)) d.3.0 d.1 d.3.1 d.3.2
              ∙ ap (λ z. Done (inr z) (tokens_of d.3.1)) d.3.3.0 ∙ ap (λ z. Done (inr c) (tokens_of z)) d.3.3.1

      item_step' : (b : B) (w v : List Item) → Passed as_item sep S b w v → begins (close ∷ []) (tokens_of v) ≡ false → istep (tokens_of w) ≡ Done (inl b) (tokens_of v)
      item_step' b w v h nc = by h.2
        where
          d : Then (Single None sep) (λ t. Empty h.0) b h.1 v
          d = h.3

          ends : ◌≡◌ {A = Out (B ⊎ C)} (Done (inl h.0) (tokens_of d.1)) (Done (inl b) (tokens_of v))
          ends = ap (λ z. Done (inl z) (tokens_of d.1)) d.3.0 ∙ ap (λ z. Done (inl b) (tokens_of z)) d.3.1

          by : Either (λ x. S (inl x)) (Made as_item (λ c. S (inr c))) h.0 w h.1 → istep (tokens_of w) ≡ Done (inl b) (tokens_of v)
          by (inl s) =
              ap (λ o. bind o (behind_item as_item sep close)) (at_sep (inl h.0) d.0 w h.1 d.1 s d.2)
              ∙ take_single None sep (λ t. done (inl h.0)) d.0 h.1 d.1 d.2
              ∙ ends
          by (inr s) =
              ap (λ o. bind o (behind_item as_item sep close)) (at_sep (inr s.0) d.0 w h.1 d.1 s.2 d.2)
              ∙ ap (λ b. choose b (take close (λ t. done (inr s.0))) (take sep (λ t. after_separator as_item close s.0)) (tokens_of h.1)) (single_other None sep close d.0 h.1 d.1 d.2 a2)
              ∙ take_single None sep (λ t. after_separator as_item close s.0) d.0 h.1 d.1 d.2
              ∙ ap (λ b. choose b (take close (λ t. done (inr s.0))) (done (inl (as_item s.0))) (tokens_of d.1)) (ap (λ z. begins (close ∷ []) (tokens_of z)) d.3.1 ∙ nc)
              ∙ ap (λ z. Done (inl z) (tokens_of d.1)) s.1
              ∙ ends

      ended_complete : (bs : List B) (c : C) (w mid k : List Item) → Each (Passed as_item sep S) bs w mid → Last sep close S c mid k → loop istep (tokens_of w) ≡ Done (bs, c) (tokens_of k)
      ended_complete [] c w mid k h l =
          loop_eq istep (item_takes as_item sep close (read inner p) tk) (tokens_of w)
          ∙ ap (λ o. bind o (turn (loop istep))) (ap (λ z. istep (tokens_of z)) h ∙ last_step c mid k l)
      ended_complete (b ∷ bs) c w mid k h l =
          loop_eq istep (item_takes as_item sep close (read inner p) tk) (tokens_of w)
          ∙ ap (λ o. bind o (turn (loop istep))) (item_step' b w h.0 h.1 (not_close bs c h.0 mid k h.2 l))
          ∙ ap (λ o. bind o (λ x. done (b ∷ x.0, x.1))) (ended_complete bs c h.0 mid k h.2 l)

    pub complete : {A : Type 0} (r : Rule A) → Ends m j inner X Y xa ya sub pg pc r → fine r ≡ true → Completes r
    unfolding read_then may_be_empty firsts
    complete (give x) e f a w k h g = ap (λ z. Done z (tokens_of w)) h.0 ∙ ap (λ z. Done a (tokens_of z)) h.1
    complete (one l c) e f a w k h g = take_single None l (λ t. done (c t)) h.0 w k h.2 ∙ ap (λ z. Done z (tokens_of k)) h.1
    complete (seq c p q) e f a w k h g =
        read_seq inner c p q (tokens_of w)
        ∙ ap (λ o. bind o (λ b r. bind (read inner q r) (λ d. done (c b d)))) (complete p e.0 fp.0 h.0 w h.1 h.2 (by (starts X xs j q fq.0 h.3.0 h.1 k h.3.2)))
        ∙ ap (λ o. bind o (λ d. done (c h.0 d))) (complete q e.1 fq.0 h.3.0 h.1 k h.3.2 nb.0)
        ∙ ap (λ z. Done z (tokens_of k)) h.3.1
      where
        fp : (fine p ≡ true) × (both (fine q) (apart (after p) (firsts q)) ≡ true)
        fp = both_true (fine p) (both (fine q) (apart (after p) (firsts q))) f

        fq : (fine q ≡ true) × (apart (after p) (firsts q) ≡ true)
        fq = both_true (fine q) (apart (after p) (firsts q)) fp.1

        nb : (begins (after q) (tokens_of k) ≡ false) × (begins (where' (may_be_empty q) (after p)) (tokens_of k) ≡ false)
        nb = not_begins (after q) (where' (may_be_empty q) (after p)) (tokens_of k) g

        by : Starts X xs j (may_be_empty q) (firsts q) h.1 k → begins (after p) (tokens_of h.1) ≡ false
        by (inl s) = ap (λ z. begins (after p) (tokens_of z)) s.1 ∙ (sym (ap (λ b. begins (where' b (after p)) (tokens_of k)) s.0) ∙ nb.1)
        by (inr s) = begins_apart (after p) (firsts q) (tokens_of h.1) fq.1 s.0
    complete (alt p q) e f a w k (inl h) g =
        ap (λ b. choose b (read inner p) (read inner q) (tokens_of w)) (by (starts X xs j p fp.0 a w k h)) ∙ complete p e.0 fp.0 a w k h (not_begins (after p) (after q ++ where' (may_be_empty q) (firsts p)) (tokens_of k) g).0
      where
        fp : (fine p ≡ true) × (both (fine q) (both (negated (may_be_empty p)) (apart (firsts p) (firsts q))) ≡ true)
        fp = both_true (fine p) (both (fine q) (both (negated (may_be_empty p)) (apart (firsts p) (firsts q)))) f

        by : Starts X xs j (may_be_empty p) (firsts p) w k → begins (firsts p) (tokens_of w) ≡ true
        by (inl s) = clash (may_be_empty p) s.0 (negated_true (may_be_empty p) (both_true (negated (may_be_empty p)) _ (both_true (fine q) _ fp.1).1).0)
        by (inr s) = s.0
    complete (alt p q) e f a w k (inr h) g =
        ap (λ b. choose b (read inner p) (read inner q) (tokens_of w)) (by (starts X xs j q fq.0 a w k h)) ∙ complete q e.1 fq.0 a w k h nb.0
      where
        fq : (fine q ≡ true) × (both (negated (may_be_empty p)) (apart (firsts p) (firsts q)) ≡ true)
        fq = both_true (fine q) (both (negated (may_be_empty p)) (apart (firsts p) (firsts q))) (both_true (fine p) (both (fine q) (both (negated (may_be_empty p)) (apart (firsts p) (firsts q)))) f).1

        nb : (begins (after q) (tokens_of k) ≡ false) × (begins (where' (may_be_empty q) (firsts p)) (tokens_of k) ≡ false)
        nb = not_begins (after q) (where' (may_be_empty q) (firsts p)) (tokens_of k) (not_begins (after p) (after q ++ where' (may_be_empty q) (firsts p)) (tokens_of k) g).1

        by : Starts X xs j (may_be_empty q) (firsts q) w k → begins (firsts p) (tokens_of w) ≡ false
        by (inl s) = ap (λ z. begins (firsts p) (tokens_of z)) s.1 ∙ (sym (ap (λ b. begins (where' b (firsts p)) (tokens_of k)) s.0) ∙ nb.1)
        by (inr s) = begins_apart (firsts p) (firsts q) (tokens_of w) (both_true (negated (may_be_empty p)) (apart (firsts p) (firsts q)) fq.1).1 s.0
    complete {A} (go_on {B = B} {C = C} c p q) e f a w k h g =
        read_go_on inner c p q (tokens_of w) ∙ by h.0 h.2 h.3 (λ x s n. complete p e.0 fp.0 x w h.1 s n) (λ y s n. complete q e.1 fq.0 y h.1 k s n)
      where
        fp : (fine p ≡ true) × (both (fine q) (both (negated (may_be_empty p)) (both (negated (may_be_empty q)) (apart (after p) (firsts q)))) ≡ true)
        fp = both_true (fine p) (both (fine q) (both (negated (may_be_empty p)) (both (negated (may_be_empty q)) (apart (after p) (firsts q))))) f

        fq : (fine q ≡ true) × (both (negated (may_be_empty p)) (both (negated (may_be_empty q)) (apart (after p) (firsts q))) ≡ true)
        fq = both_true (fine q) (both (negated (may_be_empty p)) (both (negated (may_be_empty q)) (apart (after p) (firsts q)))) fp.1

        fa : (negated (may_be_empty q) ≡ true) × (apart (after p) (firsts q) ≡ true)
        fa = both_true (negated (may_be_empty q)) (apart (after p) (firsts q)) (both_true (negated (may_be_empty p)) _ fq.1).1

        nb : (begins (after p) (tokens_of k) ≡ false) × (begins (after q) (tokens_of k) ≡ false)
        nb = not_begins (after p) (after q) (tokens_of k) g

        starts_second : (b : B) → (s : Made (c b) (Spelled X j q) a h.1 k) → begins (after p) (tokens_of h.1) ≡ false
        starts_second b s = go (starts X xs j q fq.0 s.0 h.1 k s.2)
          where
            go : Starts X xs j (may_be_empty q) (firsts q) h.1 k → begins (after p) (tokens_of h.1) ≡ false
            go (inl u) = clash (may_be_empty q) u.0 (negated_true (may_be_empty q) fa.0)
            go (inr u) = begins_apart (after p) (firsts q) (tokens_of h.1) fa.1 u.0

        by : (x : B ⊎ A) → Spelled X j p x w h.1 → OnLeft (λ b. Made (c b) (Spelled X j q)) x a h.1 k
            → ((x : B ⊎ A) → Spelled X j p x w h.1 → begins (after p) (tokens_of h.1) ≡ false → read inner p (tokens_of w) ≡ Done x (tokens_of h.1))
            → ((y : C) → Spelled X j q y h.1 k → begins (after q) (tokens_of k) ≡ false → read inner q (tokens_of h.1) ≡ Done y (tokens_of k)) → bind (read inner p (tokens_of w)) (on_left (λ b r. bind (read inner q r) (λ d. done (c b d))) done) ≡ Done a (tokens_of k)
        by (inl b) s d cp cq =
            ap (λ o. bind o (on_left (λ b r. bind (read inner q r) (λ d. done (c b d))) done)) (cp (inl b) s (starts_second b d))
            ∙ ap (λ o. bind o (λ d. done (c b d))) (cq d.0 d.2 nb.1)
            ∙ ap (λ z. Done z (tokens_of k)) d.1
        by (inr y) s d cp cq =
            ap (λ o. bind o (on_left (λ b r. bind (read inner q r) (λ d. done (c b d))) done)) (cp (inr y) s (ap (λ z. begins (after p) (tokens_of z)) d.1 ∙ nb.0))
            ∙ ap (λ z. Done z (tokens_of h.1)) d.0 ∙ ap (λ z. Done a (tokens_of z)) d.1
    complete (many c p) e f a w k h g =
        ap (λ o. bind o (λ x. done (c x.0))) (many_complete p fp.0 np.0 np.1 (takes p e fp.0 np.0) (complete p e fp.0) h.0 w k h.2 nb.0 nb.1) ∙ ap (λ z. Done z (tokens_of k)) h.1
      where
        fp : (fine p ≡ true) × (both (negated (may_be_empty p)) (apart (after p) (firsts p)) ≡ true)
        fp = both_true (fine p) (both (negated (may_be_empty p)) (apart (after p) (firsts p))) f

        np : (may_be_empty p ≡ false) × (apart (after p) (firsts p) ≡ true)
        np = let u = both_true (negated (may_be_empty p)) (apart (after p) (firsts p)) fp.1 in (negated_true (may_be_empty p) u.0, u.1)

        nb : (begins (firsts p) (tokens_of k) ≡ false) × (begins (after p) (tokens_of k) ≡ false)
        nb = not_begins (firsts p) (after p) (tokens_of k) g
    complete (ended c as_item sep close p) e f a w k h g =
        ap (λ o. bind o (λ x. done (c x.0 x.1))) (ended_complete as_item sep close p f np.0 na.0 nc.0 (negated_true (same_kind sep close) nc.1) (takes p e.1 fp.0 np.0) (complete p e.1 fp.0) h.0 h.3.0 w h.1 k h.2 h.3.2)
        ∙ ap (λ z. Done z (tokens_of k)) h.3.1
      where
        fp : (fine p ≡ true) × (both (negated (may_be_empty p)) (both (apart (after p) (sep ∷ close ∷ [])) (both (apart (close ∷ []) (firsts p)) (negated (same_kind sep close)))) ≡ true)
        fp = both_true (fine p) (both (negated (may_be_empty p)) (both (apart (after p) (sep ∷ close ∷ [])) (both (apart (close ∷ []) (firsts p)) (negated (same_kind sep close))))) f

        np : (may_be_empty p ≡ false) × (both (apart (after p) (sep ∷ close ∷ [])) (both (apart (close ∷ []) (firsts p)) (negated (same_kind sep close))) ≡ true)
        np = let u = both_true (negated (may_be_empty p)) (both (apart (after p) (sep ∷ close ∷ [])) (both (apart (close ∷ []) (firsts p)) (negated (same_kind sep close)))) fp.1 in (negated_true (may_be_empty p) u.0, u.1)

        na : (apart (after p) (sep ∷ close ∷ []) ≡ true) × (both (apart (close ∷ []) (firsts p)) (negated (same_kind sep close)) ≡ true)
        na = both_true (apart (after p) (sep ∷ close ∷ [])) (both (apart (close ∷ []) (firsts p)) (negated (same_kind sep close))) np.1

        nc : (apart (close ∷ []) (firsts p) ≡ true) × (negated (same_kind sep close) ≡ true)
        nc = both_true (apart (close ∷ []) (firsts p)) (negated (same_kind sep close)) na.1
    complete (within {B = B} c l part) e f a w k h g =
        take_single (Some j) l (λ t us. bind (inner B part t us) (λ b. done (c t.pos b))) h.0 w h.1 h.2
        ∙ ap (λ o. bind o (λ b. done (c h.0.pos b))) (complete_part B part h.0 h.3.0 h.1 k h.3.2 g)
        ∙ ap (λ z. Done z (tokens_of k)) h.3.1
