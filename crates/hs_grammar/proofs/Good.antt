-- What a parser's outcome says of the tokens: what was read is spelled, and where the parser stops what was read goes on.
use Rattle.std.proofs.Common.{◌≡◌, ℕ, zero, suc, ◌<◌, Bool, true, false, List, [], ◌∷◌, ◌++◌, length, Option, Some, None, refl, sym, ap, ◌∙◌, subst, append_assoc, ◌⊎◌, inl, inr, pos}
use Rattle.rules_tokens.specs.declared.token.Tok.TheVariants as tok
use Rattle.rules_tokens.specs.declared.token.Token.{Token}
use Rattle.rules_grammar.specs.Grammar.{Below}
use Rattle.rules_grammar.specs.GrammarForms.{Rule, give, one, seq, alt, go_on, many, ended, within, Item, tokens_of, Spelling, Empty, Single, Made, Then, Either, Each, OnLeft, Passed, Last, Spelled}
use Rattle.rules_grammar.specs.GrammarParts.{TokenKind, name, upper, int, text, word, symbol, kind_of, OpenerPart}
use Rattle.hs_grammar.specs.Parser.{same_kind, firsts, begins, Why, unexpected, too_deep, Out, Done, Stop, Parser, bind, done, choose, take_if, take, on_left, turn, turns, loop, another, after_separator, behind_item, item_step, Inner, read_then, read}
use Rattle.hs_grammar.proofs.KindLists.{same_is}
use Rattle.hs_grammar.proofs.Reading.{take_bind, read_seq, read_go_on}
use Rattle.hs_grammar.proofs.Spellings.{Appends, appends_empty, appends_single, appends_then, appends_passed, appends_last, Parts, PartsAppend, appends, Sub, subs, PartsSub, sub_passed, sub_last}

-- what stands behind the tokens read: at a fault anything, and otherwise an opener that stands in m
abbrev pub Halt : Why → ℕ → List Item → List Token → Type 0
Halt unexpected m more b = Unit {0}
Halt too_deep m [] b = ⊥
Halt too_deep m (o ∷ more) b = (rest : List Token) × (b ≡ o.token ∷ rest) × (o.opener ≡ Some m)

halt_append : (y : Why) (m : ℕ) (more z : List Item) (b : List Token) → Halt y m more b → Halt y m (more ++ z) b
halt_append unexpected m more z b h = tt
halt_append too_deep m [] z b h = absurd h
halt_append too_deep m (o ∷ more) z b h = h

pub tokens_append : (x y : List Item) → tokens_of (x ++ y) ≡ tokens_of x ++ tokens_of y
tokens_append [] y = refl
tokens_append (i ∷ x) y = ap (λ z. i.token ∷ z) (tokens_append x y)

pub below_append : (m : ℕ) (x y : List Item) → Below m x → Below m y → Below m (x ++ y)
below_append m [] y h k = k
below_append m (i ∷ x) y h k = (h.0, below_append m x y h.1 k)

abbrev pub GoodOut : {A : Type 0} → ℕ → Spelling A → Spelling A → List Token → Out A → Type 0
GoodOut m S C ts (Done a r) = (w : List Item) × (tokens_of w ++ r ≡ ts) × S a w [] × Below m w
GoodOut {A} m S C ts (Stop y b) = (w more : List Item) × (a : A) × (tokens_of w ++ b ≡ ts) × C a (w ++ more) [] × Below m w × Halt y m more b

-- some value is spelled
abbrev pub Closes : {A : Type 0} → Spelling A → Type 0
Closes {A} C = (a : A) × (w : List Item) × C a w []

-- ---- the ways to put parsers together
good_done : {A : Type 0} (m : ℕ) (S C : Spelling A) (a : A) (ts : List Token) → S a [] [] → GoodOut m S C ts (Done a ts)
good_done m S C a ts s = ([], refl, s, tt)

good_stop : {A : Type 0} (m : ℕ) (S C : Spelling A) (ts : List Token) → Closes C → GoodOut m S C ts (Stop unexpected ts)
good_stop m S C ts c = ([], c.1, c.0, refl, c.2, tt, tt)

pub good_into : {A : Type 0} (m : ℕ) (S C S' C' : Spelling A) (ts : List Token) → Sub S S' → Sub C C' → (o : Out A) → GoodOut m S C ts o → GoodOut m S' C' ts o
good_into m S C S' C' ts s c (Done a r) g = (g.0, g.1, s a g.0 [] g.2, g.3)
good_into m S C S' C' ts s c (Stop y b) g = (g.0, g.1, g.2, g.3, c g.2 (g.0 ++ g.1) [] g.4, g.5, g.6)

good_made : {A B : Type 0} (m : ℕ) (f : B → A) (S C : Spelling B) (ts : List Token) (o : Out B) → GoodOut m S C ts o → GoodOut m (Made f S) (Made f C) ts (bind o (λ b. done (f b)))
good_made m f S C ts (Done b r) g = (g.0, g.1, (b, refl, g.2), g.3)
good_made m f S C ts (Stop y b) g = (g.0, g.1, f g.2, g.3, (g.2, refl, g.4), g.5, g.6)

module _ {A B : Type 0} (m : ℕ) (S C : Spelling B) (T D : B → Spelling A) (sa : Appends S) (ca : Appends C) (sub : Sub S C) where
  second : (b : B) (w : List Item) (mid ts : List Token) → tokens_of w ++ mid ≡ ts → S b w [] → Below m w → (o : Out A) → GoodOut m (T b) (D b) mid o → GoodOut m (Then S T) (Then C D) ts o
  second b w mid ts e s l (Done a r) g =
      (w ++ g.0, ap (λ z. z ++ r) (tokens_append w g.0) ∙ (append_assoc (tokens_of w) (tokens_of g.0) r ∙ (ap (λ z. tokens_of w ++ z) g.1 ∙ e)), (b, g.0, sa b w [] g.0 s, g.2), below_append m w g.0 l g.3)
  second b w mid ts e s l (Stop y x) g = (
    w ++ g.0,
    g.1,
    g.2,
    ap (λ z. z ++ x) (tokens_append w g.0) ∙ (append_assoc (tokens_of w) (tokens_of g.0) x ∙ (ap (λ z. tokens_of w ++ z) g.3 ∙ e)),
    (b, g.0 ++ g.1, subst (λ v. C b v (g.0 ++ g.1)) (sym (append_assoc w g.0 g.1)) (ca b w [] (g.0 ++ g.1) (sub b w [] s)), g.4),
    below_append m w g.0 l g.5,
    g.6,
  )

  pub good_bind : ((b : B) → Closes (D b)) → (F : B → Parser A) → ((b : B) (mid : List Token) → GoodOut m (T b) (D b) mid (F b mid)) → (ts : List Token) (o : Out B) → GoodOut m S C ts o → GoodOut m (Then S T) (Then C D) ts (bind o F)
  good_bind cl F f ts (Done b mid) g = second b g.0 mid ts g.1 g.2 g.3 (F b mid) (f b mid)
  good_bind cl F f ts (Stop y x) g =
      let d = cl g.2 in
      (g.0, g.1 ++ d.1, d.0, g.3, (g.2, d.1, subst (λ v. C g.2 v d.1) (append_assoc g.0 g.1 d.1) (ca g.2 (g.0 ++ g.1) [] d.1 g.4), d.2), g.5, halt_append y m g.1 d.1 x g.6)

  -- one that spells so can be closed
  pub closes_then : Closes C → ((b : B) → Closes (D b)) → Closes (Then C D)
  closes_then c cl = let d = cl c.0 in (d.0, c.1 ++ d.1, (c.0, d.1, ca c.0 c.1 [] d.1 c.2, d.2))

-- ---- tokens
token_of : TokenKind → Token
token_of name = record { tok = tok.Name []; start = 0; end = 0; pos = record { line = 1; col = 1 } }
token_of upper = record { tok = tok.Upper; start = 0; end = 0; pos = record { line = 1; col = 1 } }
token_of int = record { tok = tok.Int (pos 0); start = 0; end = 0; pos = record { line = 1; col = 1 } }
token_of text = record { tok = tok.Text []; start = 0; end = 0; pos = record { line = 1; col = 1 } }
token_of (word w) = record { tok = tok.Word w; start = 0; end = 0; pos = record { line = 1; col = 1 } }
token_of (symbol s) = record { tok = tok.Sym s; start = 0; end = 0; pos = record { line = 1; col = 1 } }

token_kind : (k : TokenKind) → kind_of (token_of k).tok ≡ k
unfolding token_of
token_kind name = refl
token_kind upper = refl
token_kind int = refl
token_kind text = refl
token_kind (word w) = refl
token_kind (symbol s) = refl

pub closes_single : (o : Option ℕ) (k : TokenKind) → Closes (Single o k)
closes_single o k = (token_of k, record { token = token_of k; opener = o } ∷ [], (token_kind k, refl))

good_take : (m : ℕ) (k : TokenKind) (ts : List Token) → GoodOut m (Single None k) (Single None k) ts (take k done ts)
good_take m k [] = good_stop m (Single None k) (Single None k) [] (closes_single None k)
good_take m k (t ∷ ts) = by (same_kind (kind_of t.tok) k) refl
  where
    by : (b : Bool) → same_kind (kind_of t.tok) k ≡ b → GoodOut m (Single None k) (Single None k) (t ∷ ts) (take_if b t done ts)
    by true e = (record { token = t; opener = None } ∷ [], refl, (same_is (kind_of t.tok) k e, refl), (λ j f. absurd (cc f), tt))
    by false e = good_stop m (Single None k) (Single None k) (t ∷ ts) (closes_single None k)

-- a token and then a value without tokens
abbrev pub Token' : {A : Type 0} → TokenKind → A → Spelling A
Token' k a = Then (Single None k) (λ t. Empty a)

pub closes_empty : {A : Type 0} (a : A) → Closes (Empty a)
closes_empty a = (a, [], (refl, refl))

pub appends_token : {A : Type 0} (k : TokenKind) (a : A) → Appends (Token' k a)
appends_token k a = appends_then (Single None k) (λ t. Empty a) (appends_single None k) (λ t. appends_empty a)

good_token_then : {A : Type 0} (m : ℕ) (k : TokenKind) (S C : Spelling A) (F : Parser A) → Closes C → ((mid : List Token) → GoodOut m S C mid (F mid)) → (ts : List Token) → GoodOut m (Then (Single None k) (λ t. S)) (Then (Single None k) (λ t. C)) ts (take k (λ t. F) ts)
good_token_then m k S C F c f ts =
    subst (GoodOut m (Then (Single None k) (λ t. S)) (Then (Single None k) (λ t. C)) ts) (sym (take_bind k done (λ t. F) ts))
    (good_bind m (Single None k) (Single None k) (λ t. S) (λ t. C) (appends_single None k) (appends_single None k) (λ t w z h. h) (λ t. c) (λ t. F) (λ t. f) ts (take k done ts) (good_take m k ts))

good_token : {A : Type 0} (m : ℕ) (k : TokenKind) (a : A) (ts : List Token) → GoodOut m (Token' k a) (Token' k a) ts (take k (λ t. done a) ts)
good_token m k a ts = good_token_then m k (Empty a) (Empty a) (done a) (closes_empty a) (λ mid. good_done m (Empty a) (Empty a) a mid (refl, refl)) ts

good_choose : {A : Type 0} (m : ℕ) (b : Bool) (S C S' C' : Spelling A) (p q : Parser A) (ts : List Token) → GoodOut m S C ts (p ts) → GoodOut m S' C' ts (q ts) → GoodOut m (Either S S') (Either C C') ts (choose b p q ts)
good_choose m true S C S' C' p q ts g h = good_into m S C (Either S S') (Either C C') ts (λ a w k x. inl x) (λ a w k x. inl x) (p ts) g
good_choose m false S C S' C' p q ts g h = good_into m S' C' (Either S S') (Either C C') ts (λ a w k x. inr x) (λ a w k x. inr x) (q ts) h

-- ---- loops
abbrev pub LoopS : {B C : Type 0} → Spelling (B ⊎ C) → Spelling (List B × C)
LoopS S x w k = (mid : List Item) × Each (λ b. S (inl b)) x.0 w mid × S (inr x.1) mid k

abbrev TurnS : {B C : Type 0} → Spelling (B ⊎ C) → B ⊎ C → Spelling (List B × C)
TurnS S (inl b) = Made (λ x. (b ∷ x.0, x.1)) (LoopS S)
TurnS S (inr c) = Empty ([], c)

loop_of_turn : {B C : Type 0} (S : Spelling (B ⊎ C)) → Sub (Then S (TurnS S)) (LoopS S)
loop_of_turn {B} {C} S a w k h = by h.0 h.2 h.3
  where
    by : (x : B ⊎ C) → S x w h.1 → TurnS S x a h.1 k → LoopS S a w k
    by (inl b) s d = subst (λ z. LoopS S z w k) d.1 (d.2.0, (h.1, s, d.2.1), d.2.2)
    by (inr c) s d = subst (λ z. LoopS S z w k) d.0 (w, refl, subst (λ z. S (inr c) w z) d.1 s)

module _ {B C : Type 0} (m : ℕ) (S K : Spelling (B ⊎ C)) (sa : Appends S) (ka : Appends K) (sub : Sub S K) (closes : Closes (λ c. K (inr c))) where
  closes_loop : Closes (LoopS K)
  closes_loop = (([], closes.0), closes.1, (closes.1, refl, closes.2))

  closes_turn : (x : B ⊎ C) → Closes (TurnS K x)
  closes_turn (inl b) = ((b ∷ [], closes.0), closes.1, (([], closes.0), refl, (closes.1, refl, closes.2)))
  closes_turn (inr c) = (([], c), [], (refl, refl))

  module _ (step : Parser (B ⊎ C)) (good : (ts : List Token) → GoodOut m S K ts (step ts)) where
    good_turn : (rest : Parser (List B × C)) → ((ts : List Token) → GoodOut m (LoopS S) (LoopS K) ts (rest ts)) → (x : B ⊎ C) (ts : List Token) → GoodOut m (TurnS S x) (TurnS K x) ts (turn rest x ts)
    good_turn rest r (inl b) ts = good_made m (λ x. (b ∷ x.0, x.1)) (LoopS S) (LoopS K) ts (rest ts) (r ts)
    good_turn rest r (inr c) ts = good_done m (Empty ([], c)) (Empty ([], c)) ([], c) ts (refl, refl)

    good_turns : (n : ℕ) (ts : List Token) → GoodOut m (LoopS S) (LoopS K) ts (turns n step ts)
    unfolding turns
    good_turns zero ts = good_stop m (LoopS S) (LoopS K) ts closes_loop
    good_turns (suc n) ts =
        good_into m (Then S (TurnS S)) (Then K (TurnS K)) (LoopS S) (LoopS K) ts (loop_of_turn S) (loop_of_turn K) (bind (step ts) (turn (turns n step)))
        (good_bind m S K (TurnS S) (TurnS K) sa ka sub closes_turn (turn (turns n step)) (good_turn (turns n step) (good_turns n)) ts (step ts) (good ts))

    pub good_loop : (ts : List Token) → GoodOut m (LoopS S) (LoopS K) ts (loop step ts)
    unfolding loop
    good_loop ts = good_turns (suc (length ts)) ts

-- ---- any number of items
abbrev pub ManyS : {B : Type 0} → Spelling B → Spelling (B ⊎ Unit {0})
ManyS S (inl b) w k = S b w k
ManyS S (inr u) w k = w ≡ k

appends_many : {B : Type 0} (S : Spelling B) → Appends S → Appends (ManyS S)
appends_many S s (inl b) w k z h = s b w k z h
appends_many S s (inr u) w k z h = ap (λ v. v ++ z) h

sub_many : {B : Type 0} (S T : Spelling B) → Sub S T → Sub (ManyS S) (ManyS T)
sub_many S T s (inl b) w k h = s b w k h
sub_many S T s (inr u) w k h = h

good_another : {B : Type 0} (m : ℕ) (S K : Spelling B) (ks : List TokenKind) (p : Parser B) → ((ts : List Token) → GoodOut m S K ts (p ts)) → (ts : List Token) → GoodOut m (ManyS S) (ManyS K) ts (another ks p ts)
good_another {B} m S K ks p g ts = by (begins ks ts)
  where
    left : (o : Out B) → GoodOut m S K ts o → GoodOut m (ManyS S) (ManyS K) ts (bind o (λ a. done (inl a)))
    left (Done b r) h = h
    left (Stop y b) h = (h.0, h.1, inl h.2, h.3, h.4, h.5, h.6)

    by : (b : Bool) → GoodOut m (ManyS S) (ManyS K) ts (choose b (λ us. bind (p us) (λ a. done (inl a))) (done (inr tt)) ts)
    by true = left (p ts) (g ts)
    by false = ([], refl, refl, tt)

many_of_loop : {A B : Type 0} (f : List B → A) (S : Spelling B) → Sub (Made (λ x. f x.0) (LoopS (ManyS S))) (Made f (Each S))
many_of_loop f S a w k h = (h.0.0, h.1, subst (λ z. Each S h.0.0 w z) h.2.2 h.2.1)

-- ---- items, the last one with the end
module _ {B C : Type 0} (as_item : C → B) (sep close : TokenKind) where
  abbrev pub EndS : Spelling (B ⊎ C) → Spelling (B ⊎ C)
  EndS S (inl b) = Passed as_item sep S b
  EndS S (inr c) = Last sep close S c

  abbrev pub AfterS : C → Spelling (B ⊎ C)
  AfterS c = Either (Token' close (inr c)) (Empty (inl (as_item c)))

  abbrev pub BehindS : B ⊎ C → Spelling (B ⊎ C)
  BehindS (inl b) = Token' sep (inl b)
  BehindS (inr c) = Either (Token' close (inr c)) (Then (Single None sep) (λ t. AfterS c))

  pub sub_end : (S T : Spelling (B ⊎ C)) → Sub S T → Sub (EndS S) (EndS T)
  sub_end S T s (inl b) = sub_passed as_item sep S T s b
  sub_end S T s (inr c) = sub_last sep close S T s c

  pub appends_end : (S : Spelling (B ⊎ C)) → Appends S → Appends (EndS S)
  appends_end S s (inl b) = appends_passed as_item sep S s b
  appends_end S s (inr c) = appends_last sep close S s c

  end_of_behind : (S : Spelling (B ⊎ C)) → Sub (Then S BehindS) (EndS S)
  end_of_behind S a w k h = by h.0 h.2 h.3
    where
      ends : (c : C) → S (inr c) w h.1 → BehindS (inr c) a h.1 k → EndS S a w k
      ends c s (inl d) = subst (λ z. EndS S z w k) d.3.0 (c, h.1, s, inl (d.0, d.1, d.2, (refl, d.3.1)))
      ends c s (inr d) = after d.3
        where
          after : AfterS c a d.1 k → EndS S a w k
          after (inl u) = subst (λ z. EndS S z w k) u.3.0 (c, h.1, s, inr (d.0, d.1, d.2, (u.0, u.1, u.2, (refl, u.3.1))))
          after (inr u) = subst (λ z. EndS S z w k) u.0 (as_item c, h.1, inr (c, refl, s), (d.0, d.1, d.2, (refl, u.1)))

      by : (x : B ⊎ C) → S x w h.1 → BehindS x a h.1 k → EndS S a w k
      by (inl b) s d = subst (λ z. EndS S z w k) d.3.0 (b, h.1, inl s, (d.0, d.1, d.2, (refl, d.3.1)))
      by (inr c) s d = ends c s d

  closes_token : {A : Type 0} (k : TokenKind) (a : A) → Closes (Token' k a)
  closes_token k a = let c = closes_single None k in (a, c.1, (c.0, [], c.2, (refl, refl)))

  closes_after : (c : C) → Closes (AfterS c)
  closes_after c = (inl (as_item c), [], inr (refl, refl))

  closes_behind : (x : B ⊎ C) → Closes (BehindS x)
  closes_behind (inl b) = closes_token sep (inl b)
  closes_behind (inr c) = let d = closes_token close (inr c) in (d.0, d.1, inl d.2)

  good_after : (m : ℕ) (c : C) (ts : List Token) → GoodOut m (AfterS c) (AfterS c) ts (after_separator as_item close c ts)
  good_after m c ts =
      good_choose m (begins (close ∷ []) ts) (Token' close (inr c)) (Token' close (inr c)) (Empty (inl (as_item c))) (Empty (inl (as_item c))) (take close (λ t. done (inr c))) (done (inl (as_item c))) ts
      (good_token m close (inr c) ts) (good_done m (Empty (inl (as_item c))) (Empty (inl (as_item c))) (inl (as_item c)) ts (refl, refl))

  pub good_behind : (m : ℕ) (x : B ⊎ C) (ts : List Token) → GoodOut m (BehindS x) (BehindS x) ts (behind_item as_item sep close x ts)
  good_behind m (inl b) ts = good_token m sep (inl b) ts
  good_behind m (inr c) ts =
      good_choose m (begins (close ∷ []) ts) (Token' close (inr c)) (Token' close (inr c)) (Then (Single None sep) (λ t. AfterS c)) (Then (Single None sep) (λ t. AfterS c)) (take close (λ t. done (inr c))) (take sep (λ t. after_separator as_item close c)) ts
      (good_token m close (inr c) ts) (good_token_then m sep (AfterS c) (AfterS c) (after_separator as_item close c) (closes_after c) (good_after m c) ts)

  module _ (m : ℕ) (S K : Spelling (B ⊎ C)) (sa : Appends S) (ka : Appends K) (sub : Sub S K) where
    good_item_step : (p : Parser (B ⊎ C)) → ((ts : List Token) → GoodOut m S K ts (p ts)) → (ts : List Token) → GoodOut m (EndS S) (EndS K) ts (item_step as_item sep close p ts)
    good_item_step p g ts =
        good_into m (Then S BehindS) (Then K BehindS) (EndS S) (EndS K) ts (end_of_behind S) (end_of_behind K) (bind (p ts) (behind_item as_item sep close))
        (good_bind m S K BehindS BehindS sa ka sub closes_behind (behind_item as_item sep close) (good_behind m) ts (p ts) (g ts))

    pub closes_end : Closes (λ c. K (inr c)) → Closes (λ c. EndS K (inr c))
    closes_end e = let d = closes_single None close in (e.0, e.1 ++ d.1, (e.0, d.1, ka (inr e.0) e.1 [] d.1 e.2, inl (d.0, [], d.2, (refl, refl))))

ended_of_loop : {A B C : Type 0} (f : List B → C → A) (as_item : C → B) (sep close : TokenKind) (S : Spelling (B ⊎ C)) → Sub (Made (λ x. f x.0 x.1) (LoopS (EndS as_item sep close S))) (Then (Each (Passed as_item sep S)) (λ bs. Made (f bs) (Last sep close S)))
ended_of_loop f as_item sep close S a w k h = (h.0.0, h.2.0, h.2.1, (h.0.1, h.1, h.2.2))

-- ---- rules, by what holds of the parts that stand in an opener

-- The outcome behind an opener that stands in j openers; or the opener stands in m.
abbrev pub PartOut : {A : Type 0} → ℕ → ℕ → Spelling A → Spelling A → Token → List Token → Out A → Type 0
PartOut m j S C t ts o = ((j < m) × GoodOut m S C ts o) ⊎ ((o ≡ Stop too_deep (t ∷ ts)) × (j ≡ m))

pub closes_made : {A B : Type 0} (f : B → A) (C : Spelling B) → Closes C → Closes (Made f C)
closes_made f C c = (f c.0, c.1, (c.0, refl, c.2))

pub closes_on_left : {A B : Type 0} (T : B → Spelling A) → ((b : B) → Closes (T b)) → (x : B ⊎ A) → Closes (OnLeft T x)
closes_on_left T c (inl b) = c b
closes_on_left T c (inr a) = closes_empty a

module _ (m j : ℕ) (inner : Inner) (X Y : Parts) (xa : PartsAppend X) (ya : PartsAppend Y) (sub : PartsSub X Y)
    (part_good : (B : Type 0) (part : OpenerPart B) (t : Token) (ts : List Token) → PartOut m j (X B part) (Y B part) t ts (inner B part t ts))
    (part_closes : (B : Type 0) (part : OpenerPart B) → Closes (Y B part)) where
  -- the last item of a block can be spelled
  abbrev pub Ends : {A : Type 0} → Rule A → Type 0
  Ends (give x) = Unit {0}
  Ends (one k f) = Unit {0}
  Ends (seq f p q) = Ends p × Ends q
  Ends (alt p q) = Ends p × Ends q
  Ends (go_on f p q) = Ends p × Ends q
  Ends (many f p) = Ends p
  Ends (ended f g sep close p) = Closes (λ c. Spelled Y j p (inr c)) × Ends p
  Ends (within g k part) = Unit {0}

  -- a shortest spelling
  pub shortest : {A : Type 0} (r : Rule A) → Ends r → Closes (Spelled Y j r)
  shortest (give x) e = closes_empty x
  shortest (one k f) e = closes_made f (Single None k) (closes_single None k)
  shortest (seq f p q) e =
      closes_then 0 (Spelled Y j p) (Spelled Y j p) (λ b. Made (f b) (Spelled Y j q)) (λ b. Made (f b) (Spelled Y j q)) (appends Y ya j p) (appends Y ya j p) (λ a w k h. h)
      (shortest p e.0) (λ b. closes_made (f b) (Spelled Y j q) (shortest q e.1))
  shortest (alt p q) e = let c = shortest p e.0 in (c.0, c.1, inl c.2)
  shortest (go_on f p q) e =
      closes_then 0 (Spelled Y j p) (Spelled Y j p) (OnLeft (λ b. Made (f b) (Spelled Y j q))) (OnLeft (λ b. Made (f b) (Spelled Y j q))) (appends Y ya j p) (appends Y ya j p) (λ a w k h. h)
      (shortest p e.0) (closes_on_left (λ b. Made (f b) (Spelled Y j q)) (λ b. closes_made (f b) (Spelled Y j q) (shortest q e.1)))
  shortest (many f p) e = (f [], [], ([], refl, refl))
  shortest (ended f g sep close p) e =
      let c = closes_end g sep close 0 (Spelled Y j p) (Spelled Y j p) (appends Y ya j p) (appends Y ya j p) (λ a w k h. h) e.0 in
      (f [] c.0, c.1, ([], c.1, refl, (c.0, refl, c.2)))
  shortest (within {B = B} g k part) e =
      let s = closes_single (Some j) k in let c = part_closes B part in
      (g s.0.pos c.0, s.1 ++ c.1, (s.0, c.1, (s.2.0, ap (λ v. v ++ c.1) s.2.1), (c.0, refl, c.2)))

  good_within : {A B : Type 0} (g : _ → B → A) (k : TokenKind) (part : OpenerPart B) (ts : List Token) → GoodOut m (Spelled X j (within g k part)) (Spelled Y j (within g k part)) ts (read inner (within g k part) ts)
  unfolding read_then
  good_within g k part [] = good_stop m (Spelled X j (within g k part)) (Spelled Y j (within g k part)) [] (shortest (within g k part) tt)
  good_within {A} {B} g k part (t ∷ ts) = by (same_kind (kind_of t.tok) k) refl
    where
      fills : kind_of t.tok ≡ k → (o : Out B) → PartOut m j (X B part) (Y B part) t ts o → GoodOut m (Then (Single (Some j) k) (λ t'. Made (g t'.pos) (X B part))) (Then (Single (Some j) k) (λ t'. Made (g t'.pos) (Y B part))) (t ∷ ts) (bind o (λ b. done (g t.pos b)))
      fills e (Done b r) (inl h) = (
        record { token = t; opener = Some j } ∷ h.1.0,
        ap (λ z. t ∷ z) h.1.1,
        (t, h.1.0, (e, refl), (b, refl, h.1.2)),
        (λ i f. let q : j ≡ i = cc f in subst (λ z. z < m) q h.0, h.1.3),
      )
      fills e (Stop y x) (inl h) = (
        record { token = t; opener = Some j } ∷ h.1.0,
        h.1.1,
        g t.pos h.1.2,
        ap (λ z. t ∷ z) h.1.3,
        (t, h.1.0 ++ h.1.1, (e, refl), (h.1.2, refl, h.1.4)),
        (λ i f. let q : j ≡ i = cc f in subst (λ z. z < m) q h.0, h.1.5),
        h.1.6,
      )
      fills e o (inr h) =
          let c = part_closes B part in
          subst (λ z. GoodOut m (Then (Single (Some j) k) (λ t'. Made (g t'.pos) (X B part))) (Then (Single (Some j) k) (λ t'. Made (g t'.pos) (Y B part))) (t ∷ ts) (bind z (λ b. done (g t.pos b)))) (sym h.0)
          ([], record { token = t; opener = Some j } ∷ c.1, g t.pos c.0, refl, (t, c.1, (e, refl), (c.0, refl, c.2)), tt, (ts, refl, ap Some h.1))

      by : (b : Bool) → same_kind (kind_of t.tok) k ≡ b → GoodOut m (Spelled X j (within g k part)) (Spelled Y j (within g k part)) (t ∷ ts) (take_if b t (λ t us. bind (inner B part t us) (λ b. done (g t.pos b))) ts)
      by true e = fills (same_is (kind_of t.tok) k e) (inner B part t ts) (part_good B part t ts)
      by false e = good_stop m (Spelled X j (within g k part)) (Spelled Y j (within g k part)) (t ∷ ts) (shortest (within g k part) tt)

  good_on_left : {A B : Type 0} (S C : B → Spelling A) (F : B → Parser A) → ((b : B) (ts : List Token) → GoodOut m (S b) (C b) ts (F b ts)) → (x : B ⊎ A) (ts : List Token) → GoodOut m (OnLeft S x) (OnLeft C x) ts (on_left F done x ts)
  good_on_left S C F f (inl b) ts = f b ts
  good_on_left S C F f (inr a) ts = good_done m (Empty a) (Empty a) a ts (refl, refl)

  pub good : {A : Type 0} (r : Rule A) → Ends r → (ts : List Token) → GoodOut m (Spelled X j r) (Spelled Y j r) ts (read inner r ts)
  unfolding read_then
  good (give x) e ts = good_done m (Empty x) (Empty x) x ts (refl, refl)
  good (one k f) e ts =
      subst (GoodOut m (Made f (Single None k)) (Made f (Single None k)) ts) (sym (take_bind k done (λ t. done (f t)) ts))
      (good_made m f (Single None k) (Single None k) ts (take k done ts) (good_take m k ts))
  good (seq f p q) e ts =
      subst (GoodOut m (Spelled X j (seq f p q)) (Spelled Y j (seq f p q)) ts) (sym (read_seq inner f p q ts))
      (good_bind m (Spelled X j p) (Spelled Y j p) (λ b. Made (f b) (Spelled X j q)) (λ b. Made (f b) (Spelled Y j q)) (appends X xa j p) (appends Y ya j p) (subs X Y sub j p)
      (λ b. closes_made (f b) (Spelled Y j q) (shortest q e.1)) (λ b r. bind (read inner q r) (λ c. done (f b c)))
      (λ b mid. good_made m (f b) (Spelled X j q) (Spelled Y j q) mid (read inner q mid) (good q e.1 mid)) ts (read inner p ts) (good p e.0 ts))
  good (alt p q) e ts =
      good_choose m (begins (firsts p) ts) (Spelled X j p) (Spelled Y j p) (Spelled X j q) (Spelled Y j q) (read inner p) (read inner q) ts (good p e.0 ts) (good q e.1 ts)
  good (go_on f p q) e ts =
      subst (GoodOut m (Spelled X j (go_on f p q)) (Spelled Y j (go_on f p q)) ts) (sym (read_go_on inner f p q ts))
      (good_bind m (Spelled X j p) (Spelled Y j p) (OnLeft (λ b. Made (f b) (Spelled X j q))) (OnLeft (λ b. Made (f b) (Spelled Y j q))) (appends X xa j p) (appends Y ya j p) (subs X Y sub j p)
      (closes_on_left (λ b. Made (f b) (Spelled Y j q)) (λ b. closes_made (f b) (Spelled Y j q) (shortest q e.1))) (on_left (λ b r. bind (read inner q r) (λ c. done (f b c))) done)
      (good_on_left (λ b. Made (f b) (Spelled X j q)) (λ b. Made (f b) (Spelled Y j q)) (λ b r. bind (read inner q r) (λ c. done (f b c)))
      (λ b mid. good_made m (f b) (Spelled X j q) (Spelled Y j q) mid (read inner q mid) (good q e.1 mid))) ts (read inner p ts) (good p e.0 ts))
  good (many f p) e ts =
      good_into m (Made (λ x. f x.0) (LoopS (ManyS (Spelled X j p)))) (Made (λ x. f x.0) (LoopS (ManyS (Spelled Y j p)))) (Spelled X j (many f p)) (Spelled Y j (many f p)) ts (many_of_loop f (Spelled X j p)) (many_of_loop f (Spelled Y j p)) (read inner (many f p) ts)
      (good_made m (λ x. f x.0) (LoopS (ManyS (Spelled X j p))) (LoopS (ManyS (Spelled Y j p))) ts (loop (another (firsts p) (read inner p)) ts)
      (good_loop m (ManyS (Spelled X j p)) (ManyS (Spelled Y j p)) (appends_many (Spelled X j p) (appends X xa j p)) (appends_many (Spelled Y j p) (appends Y ya j p)) (sub_many (Spelled X j p) (Spelled Y j p) (subs X Y sub j p)) (tt, [], refl)
      (another (firsts p) (read inner p)) (good_another m (Spelled X j p) (Spelled Y j p) (firsts p) (read inner p) (good p e)) ts))
  good (ended f g sep close p) e ts =
      good_into m (Made (λ x. f x.0 x.1) (LoopS (EndS g sep close (Spelled X j p)))) (Made (λ x. f x.0 x.1) (LoopS (EndS g sep close (Spelled Y j p)))) (Spelled X j (ended f g sep close p)) (Spelled Y j (ended f g sep close p)) ts
      (ended_of_loop f g sep close (Spelled X j p)) (ended_of_loop f g sep close (Spelled Y j p)) (read inner (ended f g sep close p) ts)
      (good_made m (λ x. f x.0 x.1) (LoopS (EndS g sep close (Spelled X j p))) (LoopS (EndS g sep close (Spelled Y j p))) ts (loop (item_step g sep close (read inner p)) ts)
      (good_loop m (EndS g sep close (Spelled X j p)) (EndS g sep close (Spelled Y j p)) (appends_end g sep close (Spelled X j p) (appends X xa j p)) (appends_end g sep close (Spelled Y j p) (appends Y ya j p)) (sub_end g sep close (Spelled X j p) (Spelled Y j p) (subs X Y sub j p))
      (closes_end g sep close m (Spelled X j p) (Spelled Y j p) (appends X xa j p) (appends Y ya j p) (subs X Y sub j p) e.0)
      (item_step g sep close (read inner p)) (good_item_step g sep close m (Spelled X j p) (Spelled Y j p) (appends X xa j p) (appends Y ya j p) (subs X Y sub j p) (read inner p) (good p e.1)) ts))
  good (within g k part) e ts = good_within g k part ts
