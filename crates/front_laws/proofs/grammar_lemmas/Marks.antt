-- Where the openers of a script stand is decided by its tokens. Where at most m openers nest, a rule's parser reads what
-- the rule spells, or it stops at the first opener that stands in m, whatever follows that.
use Rattle.std.proofs.Common.{◌≡◌, ℕ, zero, suc, ◌+◌, ◌<◌, ◌≤◌, Bool, true, false, List, [], ◌∷◌, ◌++◌, length, Option, Some, None, refl, sym, ap, ◌∙◌, subst, ◌⊎◌, inl, inr, arith, length-append, append_assoc}
use Rattle.rules_tokens.specs.declared.token.Token.{Token}
use Rattle.rules_grammar.specs.Grammar.{rule_of, block_item, Below, SpelledIn}
use Rattle.rules_grammar.specs.GrammarForms.{Rule, give, one, seq, alt, go_on, many, ended, within, Item, tokens_of, Spelling, Empty, Single, Made, Then, Either, Each, OnLeft, Passed, Last, Spelled}
use Rattle.rules_grammar.specs.GrammarParts.{TokenKind, kind_of, OpenerPart, type_in_parens, type_in_brackets, param_in_parens, block_in_braces, block_if, block_case, block_arms, let_stmt, no_items, two_names, expr_if, expr_case, expr_arms, expr_let, expr_in_parens, items_in_brackets, items_or_none}
use Rattle.hs_grammar.specs.Parser.{same_kind, either, both, negated, apart, where', may_be_empty, firsts, begins, is_in, too_deep, Out, Done, Stop, Parser, bind, done, choose, take_if, take, on_left, turn, loop, another, after_separator, behind_item, item_step, read_then, read, enter}
use Rattle.hs_grammar.proofs.Checks.{after_part, after, fine, plain, opened, fine_part, after_rule, plain_item, fine_item}
use Rattle.hs_grammar.proofs.Good.{tokens_append, below_append}
use Rattle.hs_grammar.proofs.KindLists.{both_true, negated_true, clash, same_of, begins_apart, not_begins, not_begins_contained}
use Rattle.hs_grammar.proofs.Loops.{loop_eq, another_takes, item_takes}
use Rattle.hs_grammar.proofs.Main.{takes_rule}
use Rattle.hs_grammar.proofs.Reading.{read_seq, read_go_on}
use Rattle.hs_grammar.proofs.Starts.{starts, parts_shrink}

-- a token that is no opener, and one that stands in so many
abbrev pub simple : Token → Item
simple t = record { token = t; opener = None }

abbrev pub marked : ℕ → Token → Item
marked i t = record { token = t; opener = Some i }

spread : (x y : List Item) (ts : List Token) → tokens_of (x ++ y) ++ ts ≡ tokens_of x ++ (tokens_of y ++ ts)
spread x y ts = ap (λ v. v ++ ts) (tokens_append x y) ∙ append_assoc (tokens_of x) (tokens_of y) ts

head_of : (ks : List TokenKind) (u : List Item) (i : Item) (rest : List Item) (z : List Token) → begins ks (tokens_of (u ++ i ∷ rest)) ≡ begins ks (tokens_of u ++ i.token ∷ z)
head_of ks [] i rest z = refl
head_of ks (x ∷ u) i rest z = refl

apart_nil : (ks : List TokenKind) → apart ks [] ≡ true
apart_nil [] = refl
apart_nil (k ∷ ks) = apart_nil ks

-- nothing is spelled, or what is spelled begins so
abbrev NoneOrBegins : Bool → List TokenKind → List Item → List Item → Type 0
NoneOrBegins e ks w k = ((e ≡ true) × (w ≡ k)) ⊎ ((begins ks (tokens_of w) ≡ true) × (length k < length w))

next_length : (e : Bool) (ks : List TokenKind) (w k : List Item) → NoneOrBegins e ks w k → length k ≤ length w
next_length e ks w k (inl s) = omega (arith, ap length s.1)
next_length e ks w k (inr s) = omega (arith, s.1)

module _ (m : ℕ) where
  -- the items in front of k are below m, and are read where nothing of K follows
  abbrev Passes : {A : Type 0} → Parser A → List TokenKind → A → List Item → List Item → Type 0
  Passes P K a w k = (u : List Item) × (w ≡ u ++ k) × Below m u × ((ts : List Token) → begins K ts ≡ false → P (tokens_of u ++ ts) ≡ Done a ts)

  -- there is a first one in m, and the parser stops at it
  abbrev Stops : {A : Type 0} → Parser A → List Item → List Item → Type 0
  Stops P w k = (u : List Item) × (t : Token) × (rest : List Item) × (w ≡ u ++ marked m t ∷ rest) × (length k ≤ length rest) × Below m u × ((z : List Token) → P (tokens_of u ++ t ∷ z) ≡ Stop too_deep (t ∷ z))

  abbrev pub Marked : {A : Type 0} → Parser A → List TokenKind → A → List Item → List Item → Type 0
  Marked P K a w k = Passes P K a w k ⊎ Stops P w k

  same_parser : {A : Type 0} (P Q : Parser A) (K : List TokenKind) (a : A) (w k : List Item) → ((ts : List Token) → Q ts ≡ P ts) → Marked P K a w k → Marked Q K a w k
  same_parser P Q K a w k e (inl c) = inl (c.0, c.1, c.2, λ ts g. e (tokens_of c.0 ++ ts) ∙ c.3 ts g)
  same_parser P Q K a w k e (inr d) = inr (d.0, d.1, d.2, d.3, d.4, d.5, λ z. e (tokens_of d.0 ++ d.1 ∷ z) ∙ d.6 z)

  weaker : {A : Type 0} (P : Parser A) (K K' : List TokenKind) (a : A) (w k : List Item) → ((ts : List Token) → begins K' ts ≡ false → begins K ts ≡ false) → Marked P K a w k → Marked P K' a w k
  weaker P K K' a w k f (inl c) = inl (c.0, c.1, c.2, λ ts g. c.3 ts (f ts g))
  weaker P K K' a w k f (inr d) = inr d

  made : {A B : Type 0} (f : B → A) (P : Parser B) (K : List TokenKind) (b : B) (w k : List Item) → Marked P K b w k → Marked (λ ts. bind (P ts) (λ x. done (f x))) K (f b) w k
  made f P K b w k (inl c) = inl (c.0, c.1, c.2, λ ts g. ap (λ o. bind o (λ x. done (f x))) (c.3 ts g))
  made f P K b w k (inr d) = inr (d.0, d.1, d.2, d.3, d.4, d.5, λ z. ap (λ o. bind o (λ x. done (f x))) (d.6 z))

  -- what is spelled behind does not go on what is in front
  module _ (KP K : List TokenKind) (e : Bool) (first : List TokenKind) (w k : List Item) (next : NoneOrBegins e first w k) (ap' : apart KP first ≡ true)
      (none : e ≡ true → (ts : List Token) → begins K ts ≡ false → begins KP ts ≡ false) where
    front_passes : (u : List Item) → w ≡ u ++ k → (ts : List Token) → begins K ts ≡ false → begins KP (tokens_of u ++ ts) ≡ false
    front_passes [] q ts g = by next
      where
        by : NoneOrBegins e first w k → begins KP ts ≡ false
        by (inl s) = none s.0 ts g
        by (inr s) = absurd (omega (arith, s.1, ap length q))
    front_passes (x ∷ u) q ts g = by next
      where
        by : NoneOrBegins e first w k → begins KP (x.token ∷ (tokens_of u ++ ts)) ≡ false
        by (inl s) = absurd (omega (arith, ap length s.1, ap length q, length-append u k))
        by (inr s) = begins_apart KP first (x.token ∷ (tokens_of u ++ ts)) ap' (ap (λ v. begins first (tokens_of v)) (sym q) ∙ s.0)

    front_stops : (u : List Item) (t : Token) (rest : List Item) → w ≡ u ++ marked m t ∷ rest → length k ≤ length rest → (z : List Token) → begins KP (tokens_of u ++ t ∷ z) ≡ false
    front_stops u t rest q l z = by next
      where
        by : NoneOrBegins e first w k → begins KP (tokens_of u ++ t ∷ z) ≡ false
        by (inl s) = absurd (omega (arith, ap length s.1, ap length q, length-append u (marked m t ∷ rest)))
        by (inr s) = begins_apart KP first (tokens_of u ++ t ∷ z) ap' (sym (head_of first u (marked m t) rest z) ∙ (ap (λ v. begins first (tokens_of v)) (sym q) ∙ s.0))

  -- the second of two alternatives
  chosen_no : {A : Type 0} (P Q : Parser A) (ks K : List TokenKind) (e : Bool) (first : List TokenKind) (a : A) (w k : List Item) → NoneOrBegins e first w k → apart ks first ≡ true → (e ≡ true → (ts : List Token) → begins K ts ≡ false → begins ks ts ≡ false) → Marked Q K a w k → Marked (λ ts. choose (begins ks ts) P Q ts) K a w k
  chosen_no P Q ks K e first a w k next ap' none (inl c) =
      inl (c.0, c.1, c.2, λ ts g. ap (λ b. choose b P Q (tokens_of c.0 ++ ts)) (front_passes ks K e first w k next ap' none c.0 c.1 ts g) ∙ c.3 ts g)
  chosen_no P Q ks K e first a w k next ap' none (inr d) =
      inr (d.0, d.1, d.2, d.3, d.4, d.5, λ z. ap (λ b. choose b P Q (tokens_of d.0 ++ d.1 ∷ z)) (front_stops ks K e first w k next ap' none d.0 d.1 d.2 d.3 d.4 z) ∙ d.6 z)

  -- a parser that is another where the next token is one of these
  on_first : {A : Type 0} (P Q : Parser A) (ks K : List TokenKind) (a : A) (w k : List Item) → begins ks (tokens_of w) ≡ true → length k < length w → ((ts : List Token) → begins ks ts ≡ true → Q ts ≡ P ts) → Marked P K a w k → Marked Q K a w k
  on_first {A} P Q ks K a w k b l e (inl c) = inl (c.0, c.1, c.2, λ ts g. by c.0 c.1 ts ∙ c.3 ts g)
    where
      by : (u : List Item) → w ≡ u ++ k → (ts : List Token) → Q (tokens_of u ++ ts) ≡ P (tokens_of u ++ ts)
      by [] q ts = absurd (omega (arith, l, ap length q))
      by (x ∷ u) q ts = e (x.token ∷ (tokens_of u ++ ts)) (ap (λ v. begins ks (tokens_of v)) (sym q) ∙ b)
  on_first P Q ks K a w k b l e (inr d) =
      inr (d.0, d.1, d.2, d.3, d.4, d.5, λ z. e (tokens_of d.0 ++ d.1 ∷ z) (sym (head_of ks d.0 (marked m d.1) d.2 z) ∙ (ap (λ v. begins ks (tokens_of v)) (sym d.3) ∙ b)) ∙ d.6 z)

  -- a parser, and one behind it
  behind : {A B : Type 0} (P : Parser B) (KP : List TokenKind) (F : B → Parser A) (K : List TokenKind) (e : Bool) (first : List TokenKind) (b : B) (a : A) (w mid k : List Item) → NoneOrBegins e first mid k → apart KP first ≡ true → (e ≡ true → (ts : List Token) → begins K ts ≡ false → begins KP ts ≡ false) → Marked P KP b w mid → Marked (F b) K a mid k → Marked (λ ts. bind (P ts) F) K a w k
  behind P KP F K e first b a w mid k next ap' none (inr c) q =
      let l = next_length e first mid k next in
      inr (c.0, c.1, c.2, c.3, omega (arith, l, c.4), c.5, λ z. ap (λ o. bind o F) (c.6 z))
  behind P KP F K e first b a w mid k next ap' none (inl c) (inl d) = inl (
    c.0 ++ d.0,
    c.1 ∙ (ap (λ v. c.0 ++ v) d.1 ∙ sym (append_assoc c.0 d.0 k)),
    below_append m c.0 d.0 c.2 d.2,
    λ ts g. ap (λ v. bind (P v) F) (spread c.0 d.0 ts) ∙ (ap (λ o. bind o F) (c.3 (tokens_of d.0 ++ ts) (front_passes KP K e first mid k next ap' none d.0 d.1 ts g)) ∙ d.3 ts g),
  )
  behind P KP F K e first b a w mid k next ap' none (inl c) (inr d) = inr (
    c.0 ++ d.0,
    d.1,
    d.2,
    c.1 ∙ (ap (λ v. c.0 ++ v) d.3 ∙ sym (append_assoc c.0 d.0 (marked m d.1 ∷ d.2))),
    d.4,
    below_append m c.0 d.0 c.2 d.5,
    λ z. ap (λ v. bind (P v) F) (spread c.0 d.0 (d.1 ∷ z)) ∙ (ap (λ o. bind o F) (c.3 (tokens_of d.0 ++ d.1 ∷ z) (front_stops KP K e first mid k next ap' none d.0 d.1 d.2 d.3 d.4 z)) ∙ d.6 z),
  )

  -- a token and what its value makes of it
  token : {A : Type 0} (l : TokenKind) (F : Token → Parser A) (K : List TokenKind) (a : A) (t : Token) (w mid k : List Item) → Single None l t w mid → Marked (F t) K a mid k → Marked (take l F) K a w k
  token l F K a t w mid k s (inl c) = inl (
    simple t ∷ c.0,
    s.1 ∙ ap (λ v. simple t ∷ v) c.1,
    ((λ i f. absurd (cc f)), c.2),
    λ ts g. ap (λ b. take_if b t F (tokens_of c.0 ++ ts)) (same_of (kind_of t.tok) l s.0) ∙ c.3 ts g,
  )
  token l F K a t w mid k s (inr d) = inr (
    simple t ∷ d.0,
    d.1,
    d.2,
    s.1 ∙ ap (λ v. simple t ∷ v) d.3,
    d.4,
    ((λ i f. absurd (cc f)), d.5),
    λ z. ap (λ b. take_if b t F (tokens_of d.0 ++ d.1 ∷ z)) (same_of (kind_of t.tok) l s.0) ∙ d.6 z,
  )

  nothing : {A : Type 0} (K : List TokenKind) (x a : A) (w k : List Item) → x ≡ a → w ≡ k → Marked (done x) K a w k
  nothing K x a w k e q = inl ([], q, tt, λ ts g. ap (λ z. Done z ts) e)

  -- ---- rules
  -- a part that stands in an opener in j: the opener is the first in m, or the part is marked so
  abbrev PartMarks : ℕ → ℕ → ℕ → (B : Type 0) → OpenerPart B → Type 0
  PartMarks N n j B part =
      (t : Token) (b : B) (w k : List Item) → SpelledIn N j B part b w k
      → ((j ≡ m) × ((z : List Token) → enter n B part t z ≡ Stop too_deep (t ∷ z))) ⊎ ((j < m) × Marked (enter n B part t) (after_part part) b w k)

  module _ (N n j : ℕ) (parts : (B : Type 0) (part : OpenerPart B) → PartMarks N n j B part) where
    abbrev Y : {A : Type 0} → Rule A → Spelling A
    Y r = Spelled (SpelledIn N j) j r

    -- an opener, and what stands in it
    opener : {A B : Type 0} (g : Token → B → A) (l : TokenKind) (part : OpenerPart B) (t : Token) (b : B) (w mid k : List Item) → Single (Some j) l t w mid → SpelledIn N j B part b mid k → Marked (take l (λ t us. bind (enter n B part t us) (λ b. done (g t b)))) (after_part part) (g t b) w k
    opener {A} {B} g l part t b w mid k s h = by (parts B part t b mid k h)
      where
        at : (ts : List Token) → take l (λ t us. bind (enter n B part t us) (λ b. done (g t b))) (t ∷ ts) ≡ bind (enter n B part t ts) (λ b. done (g t b))
        at ts = ap (λ c. take_if c t (λ t us. bind (enter n B part t us) (λ b. done (g t b))) ts) (same_of (kind_of t.tok) l s.0)

        by : ((j ≡ m) × ((z : List Token) → enter n B part t z ≡ Stop too_deep (t ∷ z))) ⊎ ((j < m) × Marked (enter n B part t) (after_part part) b mid k) → Marked (take l (λ t us. bind (enter n B part t us) (λ b. done (g t b)))) (after_part part) (g t b) w k
        by (inl d) = inr ([], t, mid, s.1 ∙ ap (λ i. marked i t ∷ mid) d.0, parts_shrink N j B part b mid k h, tt, λ z. at z ∙ ap (λ o. bind o (λ b. done (g t b))) (d.1 z))
        by (inr (x, inl c)) = inl (
          marked j t ∷ c.0,
          s.1 ∙ ap (λ v. marked j t ∷ v) c.1,
          ((λ i f. let q : j ≡ i = cc f in omega (arith, x, q)), c.2),
          λ ts g'. at (tokens_of c.0 ++ ts) ∙ ap (λ o. bind o (λ b. done (g t b))) (c.3 ts g'),
        )
        by (inr (x, inr d)) = inr (
          marked j t ∷ d.0,
          d.1,
          d.2,
          s.1 ∙ ap (λ v. marked j t ∷ v) d.3,
          d.4,
          ((λ i f. let q : j ≡ i = cc f in omega (arith, x, q)), d.5),
          λ z. at (tokens_of d.0 ++ d.1 ∷ z) ∙ ap (λ o. bind o (λ b. done (g t b))) (d.6 z),
        )

    abbrev Rules : {A : Type 0} → Rule A → Type 0
    Rules {A} r = (a : A) (w k : List Item) → Y r a w k → Marked (read (enter n) r) (after r) a w k

    -- a repetition
    module _ {B : Type 0} (p : Rule B) (pl : plain p ≡ true) (f : fine p ≡ true) (ne : may_be_empty p ≡ false) (sep : apart (after p) (firsts p) ≡ true) (ih : Rules p) where
      abbrev step : Parser (B ⊎ Unit {0})
      step = another (firsts p) (read (enter n) p)

      abbrev repeated : Parser (List B)
      repeated ts = bind (loop step ts) (λ x. done x.0)

      stop_here : (ts : List Token) → begins (firsts p) ts ≡ false → repeated ts ≡ Done [] ts
      stop_here ts h =
          ap (λ o. bind o (λ x. done x.0)) (loop_eq step (another_takes (firsts p) (read (enter n) p) (takes_rule n p pl f ne)) ts ∙ ap (λ b. bind (choose b (λ us. bind (read (enter n) p us) (λ a. done (inl a))) (done (inr tt)) ts) (turn (loop step))) h)

      go_out : (o : Out B) → bind (bind (bind o (λ a. done {A = B ⊎ Unit {0}} (inl a))) (turn (loop step))) (λ x. done x.0) ≡ bind o (λ a r. bind (repeated r) (λ ys. done (a ∷ ys)))
      go_out (Done a r) = by (loop step r)
        where
          by : (o : Out (List B × Unit {0})) → bind (bind o (λ x. done {A = List B × Unit {0}} (a ∷ x.0, x.1))) (λ x. done x.0) ≡ bind (bind o (λ x. done x.0)) (λ ys. done (a ∷ ys))
          by (Done x q) = refl
          by (Stop y q) = refl
      go_out (Stop y b) = refl

      go_here : (ts : List Token) → begins (firsts p) ts ≡ true → repeated ts ≡ bind (read (enter n) p ts) (λ a r. bind (repeated r) (λ ys. done (a ∷ ys)))
      go_here ts h =
          ap (λ o. bind o (λ x. done x.0)) (loop_eq step (another_takes (firsts p) (read (enter n) p) (takes_rule n p pl f ne)) ts ∙ ap (λ b. bind (choose b (λ us. bind (read (enter n) p us) (λ a. done (inl a))) (done (inr tt)) ts) (turn (loop step))) h)
          ∙ go_out (read (enter n) p ts)

      next_item : (b : B) (w mid : List Item) → Y p b w mid → (begins (firsts p) (tokens_of w) ≡ true) × (length mid < length w)
      next_item b w mid h = by (starts (SpelledIn N j) (parts_shrink N j) j p f b w mid h)
        where
          by : NoneOrBegins (may_be_empty p) (firsts p) w mid
              → (begins (firsts p) (tokens_of w) ≡ true) × (length mid < length w)
          by (inl s) = clash (may_be_empty p) s.0 ne
          by (inr s) = s

      next_items : (bs : List B) (w k : List Item) → Each (Y p) bs w k → NoneOrBegins true (firsts p) w k
      next_items [] w k h = inl (refl, h)
      next_items (b ∷ bs) w k h =
          let s = next_item b w h.0 h.1 in let l = next_length true (firsts p) h.0 k (next_items bs h.0 k h.2) in
          inr (s.0, omega (arith, s.1, l))

      many_marks : (bs : List B) (w k : List Item) → Each (Y p) bs w k → Marked repeated (firsts p ++ after p) bs w k
      many_marks [] w k h = inl ([], h, tt, λ ts g. stop_here ts (not_begins (firsts p) (after p) ts g).0)
      many_marks (b ∷ bs) w k h =
          let s = next_item b w h.0 h.1 in let l = next_length true (firsts p) h.0 k (next_items bs h.0 k h.2) in
          on_first (λ ts. bind (read (enter n) p ts) (λ a r. bind (repeated r) (λ ys. done (a ∷ ys)))) repeated (firsts p) (firsts p ++ after p) (b ∷ bs) w k s.0 (omega (arith, s.1, l)) go_here
          (behind (read (enter n) p) (after p) (λ a r. bind (repeated r) (λ ys. done (a ∷ ys))) (firsts p ++ after p) true (firsts p) b (b ∷ bs) w h.0 k (next_items bs h.0 k h.2) sep (λ e ts g. (not_begins (firsts p) (after p) ts g).1)
          (ih b w h.0 h.1) (made (λ ys. b ∷ ys) repeated (firsts p ++ after p) bs h.0 k (many_marks bs h.0 k h.2)))

    -- one rule behind another
    second : {A B C : Type 0} (c : B → C → A) (p : Rule B) (q : Rule C) (K : List TokenKind) (b : B) (a : A) (w mid k : List Item) → fine q ≡ true → apart (after p) (firsts q) ≡ true → ((ts : List Token) → begins K ts ≡ false → begins (after q) ts ≡ false) → (may_be_empty q ≡ true → (ts : List Token) → begins K ts ≡ false → begins (after p) ts ≡ false) → (F : B → Parser A) → ((r : List Token) → F b r ≡ bind (read (enter n) q r) (λ d. done (c b d))) → Marked (read (enter n) p) (after p) b w mid → Made (c b) (Y q) a mid k → Rules q → Marked (λ ts. bind (read (enter n) p ts) F) K a w k
    second c p q K b a w mid k fq ap' le none F fe mp h iq =
        behind (read (enter n) p) (after p) F K (may_be_empty q) (firsts q) b a w mid k (starts (SpelledIn N j) (parts_shrink N j) j q fq h.0 mid k h.2) ap' none mp
        (same_parser (λ r. bind (read (enter n) q r) (λ d. done (c b d))) (F b) K a mid k fe
        (subst (λ z. Marked (λ r. bind (read (enter n) q r) (λ d. done (c b d))) K z mid k) h.1 (made (c b) (read (enter n) q) K h.0 mid k (weaker (read (enter n) q) (after q) K h.0 mid k le (iq h.0 mid k h.2)))))

    -- the second rule, or nothing more
    abbrev or_second : {A B C : Type 0} → (B → C → A) → Rule C → B ⊎ A → Parser A
    or_second c q = on_left (λ b r. bind (read (enter n) q r) (λ d. done (c b d))) done

    rule_marks : {A : Type 0} (r : Rule A) → plain r ≡ true → fine r ≡ true → Rules r
    unfolding read_then may_be_empty firsts
    rule_marks (give x) pl f a w k h = nothing [] x a w k h.0 h.1
    rule_marks (one l c) pl f a w k h = token l (λ t. done (c t)) [] a h.0 w k k h.2 (nothing [] (c h.0) a k k h.1 refl)
    rule_marks (seq c p q) pl f a w k h =
        let pls = both_true (plain p) (plain q) pl in
        let fp = both_true (fine p) (both (fine q) (apart (after p) (firsts q))) f in
        let fq = both_true (fine q) (apart (after p) (firsts q)) fp.1 in
        same_parser (λ ts. bind (read (enter n) p ts) (λ b r. bind (read (enter n) q r) (λ d. done (c b d)))) (read (enter n) (seq c p q)) (after (seq c p q)) a w k (read_seq (enter n) c p q)
        (second c p q (after q ++ where' (may_be_empty q) (after p)) h.0 a w h.1 k fq.0 fq.1 (λ ts g. (not_begins (after q) (where' (may_be_empty q) (after p)) ts g).0)
        (λ e ts g. sym (ap (λ b. begins (where' b (after p)) ts) e) ∙ (not_begins (after q) (where' (may_be_empty q) (after p)) ts g).1) (λ b r. bind (read (enter n) q r) (λ d. done (c b d))) (λ r. refl)
        (rule_marks p pls.0 fp.0 h.0 w h.1 h.2) h.3 (rule_marks q pls.1 fq.0))
    rule_marks (alt p q) pl f a w k (inl h) =
        let pls = both_true (plain p) (plain q) pl in
        let fp = both_true (fine p) (both (fine q) (both (negated (may_be_empty p)) (apart (firsts p) (firsts q)))) f in
        let fq = both_true (fine q) (both (negated (may_be_empty p)) (apart (firsts p) (firsts q))) fp.1 in
        let ne = negated_true (may_be_empty p) (both_true (negated (may_be_empty p)) (apart (firsts p) (firsts q)) fq.1).0 in
        choose_first ne (starts (SpelledIn N j) (parts_shrink N j) j p fp.0 a w k h)
        (weaker (read (enter n) p) (after p) (after p ++ (after q ++ where' (may_be_empty q) (firsts p))) a w k (λ ts g. (not_begins (after p) (after q ++ where' (may_be_empty q) (firsts p)) ts g).0) (rule_marks p pls.0 fp.0 a w k h))
      where
        choose_first : may_be_empty p ≡ false → NoneOrBegins (may_be_empty p) (firsts p) w k → Marked (read (enter n) p) (after (alt p q)) a w k → Marked (read (enter n) (alt p q)) (after (alt p q)) a w k
        choose_first ne (inl s) x = clash (may_be_empty p) s.0 ne
        choose_first ne (inr s) x =
            on_first (read (enter n) p) (read (enter n) (alt p q)) (firsts p) (after (alt p q)) a w k s.0 s.1 (λ ts g. ap (λ b. choose b (read (enter n) p) (read (enter n) q) ts) g) x
    rule_marks (alt p q) pl f a w k (inr h) =
        let pls = both_true (plain p) (plain q) pl in
        let fp = both_true (fine p) (both (fine q) (both (negated (may_be_empty p)) (apart (firsts p) (firsts q)))) f in
        let fq = both_true (fine q) (both (negated (may_be_empty p)) (apart (firsts p) (firsts q))) fp.1 in
        let K = after p ++ (after q ++ where' (may_be_empty q) (firsts p)) in
        chosen_no (read (enter n) p) (read (enter n) q) (firsts p) K (may_be_empty q) (firsts q) a w k (starts (SpelledIn N j) (parts_shrink N j) j q fq.0 a w k h) (both_true (negated (may_be_empty p)) (apart (firsts p) (firsts q)) fq.1).1
        (λ e ts g. sym (ap (λ b. begins (where' b (firsts p)) ts) e) ∙ (not_begins (after q) (where' (may_be_empty q) (firsts p)) ts (not_begins (after p) (after q ++ where' (may_be_empty q) (firsts p)) ts g).1).1)
        (weaker (read (enter n) q) (after q) K a w k (λ ts g. (not_begins (after q) (where' (may_be_empty q) (firsts p)) ts (not_begins (after p) (after q ++ where' (may_be_empty q) (firsts p)) ts g).1).0) (rule_marks q pls.1 fq.0 a w k h))
    rule_marks {A} (go_on {B = B} {C = C} c p q) pl f a w k h =
        same_parser (λ ts. bind (read (enter n) p ts) (or_second c q)) (read (enter n) (go_on c p q)) (after p ++ after q) a w k (read_go_on (enter n) c p q) (by (rule_marks p pls.0 fp.0) (rule_marks q pls.1 fq.0) h.0 h.2 h.3)
      where
        pls : (plain p ≡ true) × (plain q ≡ true)
        pls = both_true (plain p) (plain q) pl

        fp : (fine p ≡ true) × (both (fine q) (both (negated (may_be_empty p)) (both (negated (may_be_empty q)) (apart (after p) (firsts q)))) ≡ true)
        fp = both_true (fine p) (both (fine q) (both (negated (may_be_empty p)) (both (negated (may_be_empty q)) (apart (after p) (firsts q))))) f

        fq : (fine q ≡ true) × (both (negated (may_be_empty p)) (both (negated (may_be_empty q)) (apart (after p) (firsts q))) ≡ true)
        fq = both_true (fine q) (both (negated (may_be_empty p)) (both (negated (may_be_empty q)) (apart (after p) (firsts q)))) fp.1

        fa : (negated (may_be_empty q) ≡ true) × (apart (after p) (firsts q) ≡ true)
        fa = both_true (negated (may_be_empty q)) (apart (after p) (firsts q)) (both_true (negated (may_be_empty p)) _ fq.1).1

        by : Rules p → Rules q → (x : B ⊎ A) → Y p x w h.1 → OnLeft (λ b. Made (c b) (Y q)) x a h.1 k → Marked (λ ts. bind (read (enter n) p ts) (or_second c q)) (after p ++ after q) a w k
        by ip iq (inl b) s d =
            second (λ x y. c b y) p q (after p ++ after q) (inl b) a w h.1 k fq.0 fa.1 (λ ts g. (not_begins (after p) (after q) ts g).1) (λ e. clash (may_be_empty q) e (negated_true (may_be_empty q) fa.0)) (or_second c q) (λ r. refl)
            (ip (inl b) w h.1 s) d iq
        by ip iq (inr y) s d =
            behind (read (enter n) p) (after p) (or_second c q) (after p ++ after q) true [] (inr y) a w h.1 k (inl (refl, d.1)) (apart_nil (after p)) (λ e ts g. (not_begins (after p) (after q) ts g).0) (ip (inr y) w h.1 s) (nothing (after p ++ after q) y a h.1 k d.0 d.1)
    rule_marks (many {B = B} c p) pl f a w k h =
        let fp = both_true (fine p) (both (negated (may_be_empty p)) (apart (after p) (firsts p))) f in
        let np = both_true (negated (may_be_empty p)) (apart (after p) (firsts p)) fp.1 in
        let ne = negated_true (may_be_empty p) np.0 in
        subst (λ z. Marked (read (enter n) (many c p)) (firsts p ++ after p) z w k) h.1
        (same_parser (λ ts. bind (repeated p pl fp.0 ne np.1 (rule_marks p pl fp.0) ts) (λ x. done (c x))) (read (enter n) (many c p)) (firsts p ++ after p) (c h.0) w k (λ ts. by (loop (another (firsts p) (read (enter n) p)) ts))
        (made c (repeated p pl fp.0 ne np.1 (rule_marks p pl fp.0)) (firsts p ++ after p) h.0 w k (many_marks p pl fp.0 ne np.1 (rule_marks p pl fp.0) h.0 w k h.2)))
      where
        by : (o : Out (List B × Unit {0})) → bind o (λ x. done (c x.0)) ≡ bind (bind o (λ x. done x.0)) (λ x. done (c x))
        by (Done x r) = refl
        by (Stop y b) = refl
    rule_marks (ended c g sep close p) pl f a w k h = absurd (cc pl)
    rule_marks (within {B = B} c l part) pl f a w k h =
        subst (λ z. Marked (read (enter n) (within c l part)) (after_part part) z w k) h.3.1 (opener (λ t b. c t.pos b) l part h.0 h.3.0 w h.1 k h.2 h.3.2)

    -- ---- a block
    module _ {B C : Type 0} (as_item : C → B) (sep close : TokenKind) (p : Rule (B ⊎ C)) (pl : plain p ≡ true) (f : fine p ≡ true) (ne : may_be_empty p ≡ false)
        (a0 : apart (after p) (sep ∷ close ∷ []) ≡ true) (a1 : apart (close ∷ []) (firsts p) ≡ true) (a2 : same_kind sep close ≡ false) (ih : Rules p) where
      abbrev istep : Parser (B ⊎ C)
      istep = item_step as_item sep close (read (enter n) p)

      abbrev rest_of : Parser (List B × C)
      rest_of = loop istep

      other_close : (t : Token) (ts : List Token) → kind_of t.tok ≡ sep → begins (close ∷ []) (t ∷ ts) ≡ false
      other_close t ts q = ap (λ z. either (same_kind z close) false) q ∙ ap (λ b. either b false) a2

      at_close : (t : Token) (ts : List Token) → kind_of t.tok ≡ close → begins (close ∷ []) (t ∷ ts) ≡ true
      at_close t ts q = ap (λ b. either b false) (same_of (kind_of t.tok) close q)

      taken : {A : Type 0} (l : TokenKind) (F : Token → Parser A) (t : Token) (ts : List Token) → kind_of t.tok ≡ l → take l F (t ∷ ts) ≡ F t ts
      taken l F t ts q = ap (λ b. take_if b t F ts) (same_of (kind_of t.tok) l q)

      begins_sep : (t : Token) (w k : List Item) → Single None sep t w k → NoneOrBegins false (sep ∷ close ∷ []) w k
      begins_sep t w k s =
          inr (ap (λ v. begins (sep ∷ close ∷ []) (tokens_of v)) s.1 ∙ ap (λ b. either b (either (same_kind (kind_of t.tok) close) false)) (same_of (kind_of t.tok) sep s.0), omega (arith, ap length s.1))

      begins_close : (t : Token) (w k : List Item) → Single None close t w k → NoneOrBegins false (sep ∷ close ∷ []) w k
      begins_close t w k s =
          inr (ap (λ v. begins (sep ∷ close ∷ []) (tokens_of v)) s.1 ∙ (ap (λ b. either (same_kind (kind_of t.tok) sep) (either b false)) (same_of (kind_of t.tok) close s.0) ∙ by (same_kind (kind_of t.tok) sep)), omega (arith, ap length s.1))
        where
          by : (b : Bool) → either b (either true false) ≡ true
          by true = refl
          by false = refl

      -- an item in front of its separator
      item_marks : (x : B ⊎ C) (b : B) (t : Token) (w mid v : List Item) → Y p x w mid → Single None sep t mid v → ((ts : List Token) → begins (close ∷ []) ts ≡ false → behind_item as_item sep close x (t ∷ ts) ≡ Done (inl b) ts) → Marked istep (close ∷ []) (inl b) w v
      item_marks x b t w mid v h s q =
          behind (read (enter n) p) (after p) (behind_item as_item sep close) (close ∷ []) false (sep ∷ close ∷ []) x (inl b) w mid v (begins_sep t mid v s) a0 (λ e. absurd (cc e)) (ih x w mid h) (inl (simple t ∷ [], s.1, ((λ i e. absurd (cc e)), tt), q))

      passed : (b : B) (w v : List Item) → Passed as_item sep (Y p) b w v → Marked istep (close ∷ []) (inl b) w v
      passed b w v h = by h.2
        where
          s : Single None sep h.3.0 h.1 v
          s = (h.3.2.0, h.3.2.1 ∙ ap (λ z. simple h.3.0 ∷ z) h.3.3.1)

          by : Either (λ x. Y p (inl x)) (Made as_item (λ c. Y p (inr c))) h.0 w h.1 → Marked istep (close ∷ []) (inl b) w v
          by (inl y) = item_marks (inl h.0) b h.3.0 w h.1 v y s (λ ts g. taken sep (λ t. done (inl h.0)) h.3.0 ts s.0 ∙ ap (λ z. Done (inl z) ts) h.3.3.0)
          by (inr y) =
              item_marks (inr y.0) b h.3.0 w h.1 v y.2 s
              (λ ts g. ap (λ b. choose b (take close (λ t. done (inr y.0))) (take sep (λ t. after_separator as_item close y.0)) (h.3.0 ∷ ts)) (other_close h.3.0 ts s.0)
              ∙ taken sep (λ t. after_separator as_item close y.0) h.3.0 ts s.0
              ∙ ap (λ b. choose b (take close (λ t. done (inr y.0))) (done (inl (as_item y.0))) ts) g
              ∙ ap (λ z. Done (inl z) ts) (y.1 ∙ h.3.3.0))

      -- the last one, with what ends the block
      last : (c : C) (w k : List Item) → Last sep close (Y p) c w k → Marked istep [] (inr c) w k
      last c w k h = by h.3
        where
          by : Either (Then (Single None close) (λ t. Empty h.0)) (Then (Single None sep) (λ t. Then (Single None close) (λ u. Empty h.0))) c h.1 k → Marked istep [] (inr c) w k
          by (inl d) =
              behind (read (enter n) p) (after p) (behind_item as_item sep close) [] false (sep ∷ close ∷ []) (inr h.0) (inr c) w h.1 k (begins_close d.0 h.1 k (d.2.0, d.2.1 ∙ ap (λ z. simple d.0 ∷ z) d.3.1)) a0 (λ e. absurd (cc e)) (ih (inr h.0) w h.1 h.2)
              (inl (
                simple d.0 ∷ [],
                d.2.1 ∙ ap (λ z. simple d.0 ∷ z) d.3.1,
                ((λ i e. absurd (cc e)), tt),
                λ ts g. ap (λ b. choose b (take close (λ t. done (inr h.0))) (take sep (λ t. after_separator as_item close h.0)) (d.0 ∷ ts)) (at_close d.0 ts d.2.0)
                    ∙ taken close (λ t. done (inr h.0)) d.0 ts d.2.0
                    ∙ ap (λ z. Done (inr z) ts) d.3.0,
              ))
          by (inr d) =
              let s : Single None sep d.0 h.1 (simple d.3.0 ∷ k) = (d.2.0, d.2.1 ∙ ap (λ z. simple d.0 ∷ z) (d.3.2.1 ∙ ap (λ z. simple d.3.0 ∷ z) d.3.3.1)) in
              behind (read (enter n) p) (after p) (behind_item as_item sep close) [] false (sep ∷ close ∷ []) (inr h.0) (inr c) w h.1 k (longer d.0 d.3.0 (begins_sep d.0 h.1 (simple d.3.0 ∷ k) s)) a0 (λ e. absurd (cc e)) (ih (inr h.0) w h.1 h.2)
              (inl (
                simple d.0 ∷ simple d.3.0 ∷ [],
                s.1,
                ((λ i e. absurd (cc e)), ((λ i e. absurd (cc e)), tt)),
                λ ts g. ap (λ b. choose b (take close (λ t. done (inr h.0))) (take sep (λ t. after_separator as_item close h.0)) (d.0 ∷ d.3.0 ∷ ts)) (other_close d.0 (d.3.0 ∷ ts) d.2.0)
                    ∙ taken sep (λ t. after_separator as_item close h.0) d.0 (d.3.0 ∷ ts) d.2.0
                    ∙ ap (λ b. choose b (take close (λ t. done (inr h.0))) (done (inl (as_item h.0))) (d.3.0 ∷ ts)) (at_close d.3.0 ts d.3.2.0)
                    ∙ taken close (λ t. done (inr h.0)) d.3.0 ts d.3.2.0
                    ∙ ap (λ z. Done (inr z) ts) d.3.3.0,
              ))
            where
              longer : (t u : Token) → NoneOrBegins false (sep ∷ close ∷ []) h.1 (simple u ∷ k)
                  → NoneOrBegins false (sep ∷ close ∷ []) h.1 k
              longer t u (inl s) = absurd (cc s.0)
              longer t u (inr s) = inr (s.0, omega (arith, s.1))

      starts_rest : (bs : List B) (c : C) (w mid k : List Item) → Each (Passed as_item sep (Y p)) bs w mid → Last sep close (Y p) c mid k → NoneOrBegins false (firsts p) w k
      unfolding may_be_empty firsts
      starts_rest bs c w mid k h l = go (starts (SpelledIn N j) (parts_shrink N j) j (ended {A = Unit {0}} (λ bs c. tt) as_item sep close p) fe (tt {0}) w k (bs, mid, h, (c, refl {0}, l)))
        where
          fe : fine (ended {A = Unit {0}} (λ (bs : List B) (c : C). tt) as_item sep close p) ≡ true
          fe = ap (λ b. both b (both (negated (may_be_empty p)) (both (apart (after p) (sep ∷ close ∷ [])) (both (apart (close ∷ []) (firsts p)) (negated (same_kind sep close)))))) f
              ∙ (ap (λ b. both (negated b) (both (apart (after p) (sep ∷ close ∷ [])) (both (apart (close ∷ []) (firsts p)) (negated (same_kind sep close))))) ne
              ∙ (ap (λ b. both b (both (apart (close ∷ []) (firsts p)) (negated (same_kind sep close)))) a0 ∙ (ap (λ b. both b (negated (same_kind sep close))) a1 ∙ ap negated a2)))

          go : NoneOrBegins (may_be_empty p) (firsts p) w k → NoneOrBegins false (firsts p) w k
          go (inl s) = clash (may_be_empty p) s.0 ne
          go (inr s) = inr s

      block_marks : (bs : List B) (c : C) (w mid k : List Item) → Each (Passed as_item sep (Y p)) bs w mid → Last sep close (Y p) c mid k → Marked rest_of [] (bs, c) w k
      block_marks [] c w mid k h l =
          same_parser (λ ts. bind (istep ts) (turn rest_of)) rest_of [] ([], c) w k (loop_eq istep (item_takes as_item sep close (read (enter n) p) (takes_rule n p pl f ne)))
          (behind istep [] (turn rest_of) [] true [] (inr c) ([], c) w k k (inl (refl, refl)) refl (λ e ts g. g) (subst (λ v. Marked istep [] (inr c) v k) (sym h) (last c mid k l)) (nothing [] ([], c) ([], c) k k refl refl))
      block_marks (b ∷ bs) c w mid k h l =
          same_parser (λ ts. bind (istep ts) (turn rest_of)) rest_of [] (b ∷ bs, c) w k (loop_eq istep (item_takes as_item sep close (read (enter n) p) (takes_rule n p pl f ne)))
          (behind istep (close ∷ []) (turn rest_of) [] false (firsts p) (inl b) (b ∷ bs, c) w h.0 k (starts_rest bs c h.0 mid k h.2 l) a1 (λ e. absurd (cc e)) (passed b w h.0 h.1)
          (made (λ x. (b ∷ x.0, x.1)) rest_of [] (bs, c) h.0 k (block_marks bs c h.0 mid k h.2 l)))

      ended_marks : {A : Type 0} (c : List B → C → A) (a : A) (w k : List Item) → Y (ended c as_item sep close p) a w k → Marked (read (enter n) (ended c as_item sep close p)) [] a w k
      unfolding read_then
      ended_marks c a w k h =
          subst (λ z. Marked (read (enter n) (ended c as_item sep close p)) [] z w k) h.3.1
          (made (λ x. c x.0 x.1) rest_of [] (h.0, h.3.0) w k (block_marks h.0 h.3.0 w h.1 k h.2 h.3.2))

    part_marks : {A : Type 0} (part : OpenerPart A) → Rules (rule_of part)
    unfolding opened
    part_marks type_in_parens = rule_marks (rule_of type_in_parens) refl (fine_part type_in_parens)
    part_marks type_in_brackets = rule_marks (rule_of type_in_brackets) refl (fine_part type_in_brackets)
    part_marks param_in_parens = rule_marks (rule_of param_in_parens) refl (fine_part param_in_parens)
    part_marks block_in_braces = ended_marks _ _ _ block_item plain_item fine_item refl refl refl refl (rule_marks block_item plain_item fine_item) _
    part_marks block_if = rule_marks (rule_of block_if) refl (fine_part block_if)
    part_marks block_case = rule_marks (rule_of block_case) refl (fine_part block_case)
    part_marks block_arms = rule_marks (rule_of block_arms) refl (fine_part block_arms)
    part_marks let_stmt = rule_marks (rule_of let_stmt) refl (fine_part let_stmt)
    part_marks no_items = rule_marks (rule_of no_items) refl (fine_part no_items)
    part_marks two_names = rule_marks (rule_of two_names) refl (fine_part two_names)
    part_marks expr_if = rule_marks (rule_of expr_if) refl (fine_part expr_if)
    part_marks expr_case = rule_marks (rule_of expr_case) refl (fine_part expr_case)
    part_marks expr_arms = rule_marks (rule_of expr_arms) refl (fine_part expr_arms)
    part_marks expr_let = rule_marks (rule_of expr_let) refl (fine_part expr_let)
    part_marks expr_in_parens = rule_marks (rule_of expr_in_parens) refl (fine_part expr_in_parens)
    part_marks items_in_brackets = rule_marks (rule_of items_in_brackets) refl (fine_part items_in_brackets)
    part_marks items_or_none = rule_marks (rule_of items_or_none) refl (fine_part items_or_none)

  enter_marks : (n N j : ℕ) → j + n ≡ m → (B : Type 0) (part : OpenerPart B) → PartMarks N n j B part
  unfolding enter
  enter_marks n zero j e B part t b w k h = absurd h
  enter_marks zero (suc N) j e B part t b w k h = inl (omega (arith, e), λ z. refl)
  enter_marks (suc n) (suc N) j e B part t b w k h =
      inr (
        omega (arith, e),
        weaker (read (enter n) (rule_of part)) (after (rule_of part)) (after_part part) b w k (λ ts g. not_begins_contained (after (rule_of part)) (after_part part) ts (after_rule part) g)
            (part_marks N n (suc j) (enter_marks n N (suc j) (omega (arith, e))) part b w k h),
      )

  -- a rule at the top
  pub top_marks : {A : Type 0} (N : ℕ) (r : Rule A) → plain r ≡ true → fine r ≡ true → (a : A) (w k : List Item) → Spelled (SpelledIn N 0) 0 r a w k → Marked (read (enter m) r) (after r) a w k
  top_marks N r pl f = rule_marks N m 0 (enter_marks m N 0 (omega arith)) r pl f
