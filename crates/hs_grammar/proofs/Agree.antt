-- A parser looks at one token past what it reads: with other tokens from the second on, and more levels, it does the same.
use Rattle.std.proofs.Common.{◌≡◌, ℕ, zero, suc, ◌<◌, ◌≤◌, Bool, true, false, List, [], ◌∷◌, ◌++◌, length, refl, sym, ap, ◌∙◌, subst, arith, append_assoc, length-append, ◌⊎◌, inl, inr}
use Rattle.std.proofs.lemmas.List.{append_cancel_right}
use Rattle.rules_tokens.specs.declared.token.Token.{Token}
use Rattle.rules_grammar.specs.GrammarParts.{TokenKind, kind_of}
use Rattle.hs_grammar.specs.Parser.{same_kind, begins, is_in, unexpected, too_deep, Out, Done, Stop, Parser, bind, done, choose, take_if, take, turn, turns, loop, another, after_separator, behind_item, item_step}
use Rattle.hs_grammar.proofs.Loops.{TakesLeft, loop_eq}

-- an outcome but for the tokens at the end
pub data Rel (A : Type 0) : Type 0 where
  read : A → List Token → Rel A
  bad : List Token → Rel A

abbrev pub with_end : {A : Type 0} → Rel A → List Token → Out A
with_end (read a r) z = Done a (r ++ z)
with_end (bad b) z = Stop unexpected (b ++ z)

-- an outcome is at the input's end
abbrev pub InOut : {A : Type 0} → Out A → List Token → Type 0
InOut (Done a r) ts = (front : List Token) × (front ++ r ≡ ts)
InOut (Stop unexpected b) ts = (front : List Token) × (front ++ b ≡ ts)
InOut (Stop too_deep b) ts = Unit {0}

abbrev pub Within : {A : Type 0} → Parser A → Type 0
Within {A} p = (ts : List Token) → InOut (p ts) ts

later : {A : Type 0} (o : Out A) (front m ts : List Token) → front ++ m ≡ ts → InOut o m → InOut o ts
later (Done a r) front m ts e w = (front ++ w.0, append_assoc front w.0 r ∙ (ap (λ z. front ++ z) w.1 ∙ e))
later (Stop unexpected b) front m ts e w = (front ++ w.0, append_assoc front w.0 b ∙ (ap (λ z. front ++ z) w.1 ∙ e))
later (Stop too_deep b) front m ts e w = tt

in_bind : {A B : Type 0} (o : Out A) (f : A → Parser B) (ts : List Token) → InOut o ts → ((a : A) → Within (f a)) → InOut (bind o f) ts
in_bind (Done a r) f ts w wf = later (f a r) w.0 r ts w.1 (wf a r)
in_bind (Stop unexpected b) f ts w wf = w
in_bind (Stop too_deep b) f ts w wf = tt

pub within_bind : {A B : Type 0} (p : Parser A) (f : A → Parser B) → Within p → ((a : A) → Within (f a)) → Within (λ ts. bind (p ts) f)
within_bind p f wp wf ts = in_bind (p ts) f ts (wp ts) wf

pub within_done : {A : Type 0} (a : A) → Within (done a)
within_done a ts = ([], refl)

pub within_choose : {A : Type 0} (ks : List TokenKind) (p q : Parser A) → Within p → Within q → Within (λ ts. choose (begins ks ts) p q ts)
within_choose ks p q wp wq ts = by (begins ks ts)
  where
    by : (b : Bool) → InOut (choose b p q ts) ts
    by true = wp ts
    by false = wq ts

pub within_take : {A : Type 0} (k : TokenKind) (f : Token → Parser A) → ((t : Token) → Within (f t)) → Within (take k f)
within_take k f w [] = ([], refl)
within_take k f w (t ∷ ts) = by (same_kind (kind_of t.tok) k)
  where
    by : (b : Bool) → InOut (take_if b t f ts) (t ∷ ts)
    by true = later (f t ts) (t ∷ []) ts (t ∷ ts) refl (w t ts)
    by false = ([], refl)

within_turn : {B C : Type 0} (rest : Parser (List B × C)) → Within rest → (x : B ⊎ C) → Within (turn rest x)
within_turn {B} {C} rest w (inl b) = within_bind rest (λ x. done (b ∷ x.0, x.1)) w (λ x. within_done {A = List B × C} (b ∷ x.0, x.1))
within_turn {B} {C} rest w (inr c) = within_done {A = List B × C} ([], c)

within_turns : {B C : Type 0} (n : ℕ) (step : Parser (B ⊎ C)) → Within step → Within (turns n step)
unfolding turns
within_turns zero step w ts = ([], refl)
within_turns (suc n) step w ts = in_bind (step ts) (turn (turns n step)) ts (w ts) (within_turn (turns n step) (within_turns n step w))

pub within_loop : {B C : Type 0} (step : Parser (B ⊎ C)) → Within step → Within (loop step)
unfolding loop
within_loop step w ts = within_turns (suc (length ts)) step w ts

pub within_another : {B : Type 0} (ks : List TokenKind) (p : Parser B) → Within p → Within (another ks p)
within_another {B} ks p w = within_choose ks (λ us. bind (p us) (λ a. done (inl a))) (done (inr tt)) (within_bind p (λ a. done (inl a)) w (λ a. within_done {A = B ⊎ Unit {0}} (inl a))) (within_done {A = B ⊎ Unit {0}} (inr tt))

within_after : {B C : Type 0} (as_item : C → B) (close : TokenKind) (c : C) → Within (after_separator as_item close c)
within_after {B} {C} as_item close c = within_choose (close ∷ []) (take close (λ t. done (inr c))) (done (inl (as_item c))) (within_take close (λ t. done (inr c)) (λ t. within_done {A = B ⊎ C} (inr c))) (within_done {A = B ⊎ C} (inl (as_item c)))

pub within_behind : {B C : Type 0} (as_item : C → B) (sep close : TokenKind) (x : B ⊎ C)
    → Within (behind_item as_item sep close x)
within_behind {B} {C} as_item sep close (inl b) = within_take sep (λ t. done (inl b)) (λ t. within_done {A = B ⊎ C} (inl b))
within_behind {B} {C} as_item sep close (inr c) =
    within_choose (close ∷ []) (take close (λ t. done (inr c))) (take sep (λ t. after_separator as_item close c)) (within_take close (λ t. done (inr c)) (λ t. within_done {A = B ⊎ C} (inr c)))
    (within_take sep (λ t. after_separator as_item close c) (λ t. within_after as_item close c))

too_long : {A : Type 0} (t : Token) (x : List Token) (o : Rel A) → InOut (with_end o (t ∷ x)) x → ⊥
too_long t x (read a r) w = omega (arith, ap length w.1, length-append w.0 (r ++ t ∷ x), length-append r (t ∷ x))
too_long t x (bad b) w = omega (arith, ap length w.1, length-append w.0 (b ++ t ∷ x), length-append b (t ∷ x))

-- Two ends of the input that begin alike: a parser that looks no further does the same over both.
abbrev pub SameHead : List Token → List Token → Type 0
SameHead [] [] = Unit {0}
SameHead [] (u ∷ y) = ⊥
SameHead (t ∷ x) [] = ⊥
SameHead (t ∷ x) (u ∷ y) = t ≡ u

begins_head : (ks : List TokenKind) (X Y : List Token) → SameHead X Y → begins ks X ≡ begins ks Y
begins_head ks [] [] s = refl
begins_head ks [] (u ∷ y) s = absurd s
begins_head ks (t ∷ x) [] s = absurd s
begins_head ks (t ∷ x) (u ∷ y) s = ap (λ v. is_in (kind_of v.tok) ks) s

module _ (X Y : List Token) (same : SameHead X Y) where
  abbrev pub AgreeAt : {A : Type 0} → Parser A → Parser A → List Token → Type 0
  AgreeAt {A} p q pre = (o : Rel A) → p (pre ++ X) ≡ with_end o X → q (pre ++ Y) ≡ with_end o Y

  abbrev pub Agree : {A : Type 0} → Parser A → Parser A → Type 0
  Agree p q = (pre : List Token) → AgreeAt p q pre

  first_ends : {B : Type 0} (o : Rel B) (m : List Token) → InOut (with_end o X) m → (mid : List Token) × (mid ++ X ≡ m)
  first_ends (read b r) m w = (w.0 ++ r, append_assoc w.0 r X ∙ w.1)
  first_ends (bad b) m w = (w.0 ++ b, append_assoc w.0 b X ∙ w.1)

  bad_agrees : {A B : Type 0} (p q : Parser A) (g : A → Parser B) (pre b : List Token) (o : Rel B) → AgreeAt p q pre → p (pre ++ X) ≡ Stop unexpected b → ◌≡◌ {A = Out B} (Stop unexpected b) (with_end o X) → bind (q (pre ++ Y)) g ≡ with_end o Y
  bad_agrees p q g pre b (read c r) ag e h = absurd (cc h)
  bad_agrees p q g pre b (bad c) ag e h =
      let s : b ≡ c ++ X = cc h in ap (λ z. bind z g) (ag (bad c) (e ∙ ap (Stop unexpected) s))

  pub deep_agrees : {B : Type 0} (b : List Token) (o : Rel B) → ◌≡◌ {A = Out B} (Stop too_deep b) (with_end o X) → ⊥
  deep_agrees b (read c r) h = cc h
  deep_agrees b (bad c) h = cc h

  pub bind_at : {A B : Type 0} (p q : Parser A) (f g : A → Parser B) (pre : List Token) → AgreeAt p q pre → ((a : A) → Within (f a)) → ((a : A) (mid : List Token) → p (pre ++ X) ≡ Done a (mid ++ X) → AgreeAt (f a) (g a) mid) → AgreeAt (λ ts. bind (p ts) f) (λ ts. bind (q ts) g) pre
  bind_at {A} {B} p q f g pre ag wf agf o h = by (p (pre ++ X)) refl h
    where
      by : (po : Out A) → p (pre ++ X) ≡ po → bind po f ≡ with_end o X → bind (q (pre ++ Y)) g ≡ with_end o Y
      by (Done a m) e k =
          let in' : InOut (with_end o X) m = subst (λ z. InOut z m) k (wf a m) in
          let mid = first_ends o m in' in
          let e' : p (pre ++ X) ≡ Done a (mid.0 ++ X) = e ∙ ap (Done a) (sym mid.1) in
          ap (λ z. bind z g) (ag (read a mid.0) e') ∙ agf a mid.0 e' o (ap (f a) mid.1 ∙ k)
      by (Stop unexpected b) e k = bad_agrees p q g pre b o ag e k
      by (Stop too_deep b) e k = absurd (deep_agrees b o k)

  pub agree_bind : {A B : Type 0} (p q : Parser A) (f g : A → Parser B) → Agree p q → ((a : A) → Within (f a)) → ((a : A) → Agree (f a) (g a)) → Agree (λ ts. bind (p ts) f) (λ ts. bind (q ts) g)
  agree_bind p q f g ag wf agf pre = bind_at p q f g pre (ag pre) wf (λ a mid e. agf a mid)

  pub agree_done : {A : Type 0} (a : A) → Agree (done a) (done a)
  agree_done a pre (read b r) h =
      let e : pre ++ X ≡ r ++ X = cc h in
      let ab : a ≡ b = cc h in
      let s = append_cancel_right pre r X e in
      ap (λ z. Done z (pre ++ Y)) ab ∙ ap (λ z. Done b (z ++ Y)) s
  agree_done a pre (bad b) h = absurd (cc h)

  begins_same : (ks : List TokenKind) (pre : List Token) → begins ks (pre ++ X) ≡ begins ks (pre ++ Y)
  begins_same ks [] = begins_head ks X Y same
  begins_same ks (u ∷ us) = refl

  pub agree_choose : {A : Type 0} (ks : List TokenKind) (p q p' q' : Parser A) → Agree p p' → Agree q q' → Agree (λ ts. choose (begins ks ts) p q ts) (λ ts. choose (begins ks ts) p' q' ts)
  agree_choose {A} ks p q p' q' ag ah pre o h =
      ap (λ b. choose b p' q' (pre ++ Y)) (sym (begins_same ks pre)) ∙ by (begins ks (pre ++ X)) h
    where
      by : (b : Bool) → choose b p q (pre ++ X) ≡ with_end o X → choose b p' q' (pre ++ Y) ≡ with_end o Y
      by true k = ag pre o k
      by false k = ah pre o k

  pub agree_bad : {A : Type 0} (pre : List Token) (o : Rel A) → ◌≡◌ {A = Out A} (Stop unexpected (pre ++ X)) (with_end o X) → ◌≡◌ {A = Out A} (Stop unexpected (pre ++ Y)) (with_end o Y)
  agree_bad pre (read a r) h = absurd (cc h)
  agree_bad pre (bad b) h =
      let e : pre ++ X ≡ b ++ X = cc h in ap (λ z. Stop unexpected (z ++ Y)) (append_cancel_right pre b X e)

  take_front : {A : Type 0} (k : TokenKind) (f g : Token → Parser A) (x y : List Token) → X ≡ x → Y ≡ y → SameHead x y → ((t : Token) → Within (f t)) → (o : Rel A) → take k f x ≡ with_end o X → take k g y ≡ with_end o Y
  take_front k f g [] [] ex ey s w o h = ap (Stop unexpected) (sym ey) ∙ agree_bad [] o (ap (Stop unexpected) ex ∙ h)
  take_front k f g [] (u ∷ y) ex ey s w o h = absurd s
  take_front k f g (t ∷ x) [] ex ey s w o h = absurd s
  take_front k f g (t ∷ x) (u ∷ y) ex ey s w o h =
      ap (λ v. take_if (same_kind (kind_of v.tok) k) u g y) (sym s) ∙ by (same_kind (kind_of t.tok) k) h
    where
      by : (b : Bool) → take_if b t f x ≡ with_end o X → take_if b u g y ≡ with_end o Y
      by true k = absurd (too_long t x o (subst (λ z. InOut (with_end o z) x) ex (subst (λ z. InOut z x) k (w t x))))
      by false k = ap (Stop unexpected) (sym ey) ∙ agree_bad [] o (ap (Stop unexpected) ex ∙ k)

  pub agree_take : {A : Type 0} (k : TokenKind) (f g : Token → Parser A) → ((t : Token) → Within (f t)) → ((t : Token) → Agree (f t) (g t)) → Agree (take k f) (take k g)
  agree_take k f g w ag [] o h = take_front k f g X Y refl refl same w o h
  agree_take k f g w ag (u ∷ us) o h = by (same_kind (kind_of u.tok) k) h
    where
      by : (b : Bool) → take_if b u f (us ++ X) ≡ with_end o X → take_if b u g (us ++ Y) ≡ with_end o Y
      by true e = ag u us o e
      by false e = agree_bad (u ∷ us) o e

  module _ {B C : Type 0} (p q : Parser (B ⊎ C)) (tp : TakesLeft p) (tq : TakesLeft q) (wp : Within p) (ag : Agree p q) where
    turn_at : (n : ℕ) (pre : List Token) → length pre ≤ n → ((mid : List Token) → length mid < length pre → AgreeAt (loop p) (loop q) mid) → (x : B ⊎ C) (mid : List Token) → p (pre ++ X) ≡ Done x (mid ++ X) → AgreeAt (turn (loop p) x) (turn (loop q) x) mid
    turn_at n pre l ih (inl b) mid e =
        let shorter : length (mid ++ X) < length (pre ++ X) = tp (pre ++ X) b (mid ++ X) e in
        bind_at (loop p) (loop q) (λ x. done (b ∷ x.0, x.1)) (λ x. done (b ∷ x.0, x.1)) mid (ih mid (omega (arith, length-append mid X, length-append pre X))) (λ x. within_done {A = List B × C} (b ∷ x.0, x.1)) (λ x mid' e'. agree_done {A = List B × C} (b ∷ x.0, x.1) mid')
    turn_at n pre l ih (inr c) mid e = agree_done {A = List B × C} ([], c) mid

    loop_at : (n : ℕ) (pre : List Token) → length pre < n → AgreeAt (loop p) (loop q) pre
    loop_at zero pre l o h = absurd (omega arith)
    loop_at (suc n) pre l o h =
        loop_eq q tq (pre ++ Y)
        ∙ bind_at p q (turn (loop p)) (turn (loop q)) pre (ag pre) (within_turn (loop p) (within_loop p wp)) (turn_at n pre (omega arith) (λ mid s. loop_at n mid (omega arith))) o (sym (loop_eq p tp (pre ++ X)) ∙ h)

    pub agree_loop : Agree (loop p) (loop q)
    agree_loop pre = loop_at (suc (length pre)) pre (omega arith)

  pub agree_another : {B : Type 0} (ks : List TokenKind) (p q : Parser B) → Agree p q → Agree (another ks p) (another ks q)
  agree_another {B} ks p q ag =
      agree_choose ks (λ us. bind (p us) (λ a. done (inl a))) (done (inr tt)) (λ us. bind (q us) (λ a. done (inl a))) (done (inr tt))
      (agree_bind p q (λ a. done (inl a)) (λ a. done (inl a)) ag (λ a. within_done {A = B ⊎ Unit {0}} (inl a)) (λ a. agree_done {A = B ⊎ Unit {0}} (inl a))) (agree_done {A = B ⊎ Unit {0}} (inr tt))

  module _ {B C : Type 0} (as_item : C → B) (sep close : TokenKind) where
    agree_token : {A : Type 0} (k : TokenKind) (a : A) → Agree (take k (λ t. done a)) (take k (λ t. done a))
    agree_token k a = agree_take k (λ t. done a) (λ t. done a) (λ t. within_done a) (λ t. agree_done a)

    agree_after : (c : C) → Agree (after_separator as_item close c) (after_separator as_item close c)
    agree_after c =
        agree_choose (close ∷ []) (take close (λ t. done (inr c))) (done (inl (as_item c))) (take close (λ t. done (inr c))) (done (inl (as_item c))) (agree_token {A = B ⊎ C} close (inr c)) (agree_done {A = B ⊎ C} (inl (as_item c)))

    agree_behind : (x : B ⊎ C) → Agree (behind_item as_item sep close x) (behind_item as_item sep close x)
    agree_behind (inl b) = agree_token {A = B ⊎ C} sep (inl b)
    agree_behind (inr c) =
        agree_choose (close ∷ []) (take close (λ t. done (inr c))) (take sep (λ t. after_separator as_item close c)) (take close (λ t. done (inr c))) (take sep (λ t. after_separator as_item close c))
        (agree_token {A = B ⊎ C} close (inr c)) (agree_take sep (λ t. after_separator as_item close c) (λ t. after_separator as_item close c) (λ t. within_after as_item close c) (λ t. agree_after c))

    pub agree_item : (p q : Parser (B ⊎ C)) → Agree p q → Agree (item_step as_item sep close p) (item_step as_item sep close q)
    agree_item p q ag = agree_bind p q (behind_item as_item sep close) (behind_item as_item sep close) ag (within_behind as_item sep close) agree_behind
