-- Steps of the parser: a call and what follows it.
use Rattle.std.proofs.Common.{◌≡◌, ℕ, zero, suc, ◌<◌, ◌-◌, Bool, true, false, List, [], ◌∷◌, ◌++◌, length, Option, Some, None, Result, Ok, Err, refl, sym, ap, ◌∙◌, subst, ◌⊎◌, inl, inr, arith, append_assoc, append-nil}
use Rattle.hs_base.specs.declared.pos.Pos.{Pos}
use Rattle.hs_base.specs.declared.tree.expr.Expr.{Expr}
use Rattle.hs_base.specs.declared.tree.expr.Name.{Name}
use Rattle.hs_base.specs.declared.tree.ty.Written.{Written}
use Rattle.rules_grammar.specs.GrammarKinds.{at_sign}
use Rattle.rules_tokens.specs.declared.token.Token.{Token}
use Rattle.rules_grammar.specs.Grammar.{rule_of}
use Rattle.rules_grammar.specs.GrammarForms.{Rule, one, within}
use Rattle.rules_grammar.specs.GrammarParts.{TokenKind, name, upper, int, text, word, symbol, kind_of, OpenerPart}
use Rattle.hs_grammar.specs.Parser.{same_kind, either, both, is_in, where', may_be_empty, firsts, begins, Why, unexpected, too_deep, Out, Done, Stop, Parser, bind, done, choose, take_if, take, on_left, turn, loop, another, Inner, read_then, read, enter}
use Rattle.hs_grammar.proofs.Checks.{plain, fine, opened}
use Rattle.hs_grammar.proofs.Loops.{TakesLeft, loop_eq, another_takes}
use Rattle.hs_grammar.proofs.KindLists.{is_in_append}
use Rattle.hs_grammar.proofs.Main.{takes_rule}
use Rattle.hs_grammar.proofs.Reading.{split}
use Rattle.rules_grammar.specs.Grammar as g
use Rattle.parse_leaves.specs.declared.halt.Halt.{Halt}
use Rattle.parse_leaves.specs.declared.halt.Halt.TheVariants as h
use Rattle.parse_leaves.specs.Reads.{Reads, enter_if, open_at, many_of, prepend}

-- a rule that can be repeated
abbrev pub IsItem : {A : Type 0} → Rule A → Type 0
IsItem p = (plain p ≡ true) × (fine p ≡ true) × (may_be_empty p ≡ false)

pub reads_no_memory : {A : Type 0} (o : Out A) (new : List Token) → Reads o (Err h.NoMemory) new
reads_no_memory (Done a r) new = tt
reads_no_memory (Stop unexpected b) new = tt
reads_no_memory (Stop too_deep b) new = tt

pub reads_ok : {A : Type 0} (o : Out A) (x : A) (new : List Token) → Reads o (Ok x) new → o ≡ Done x new
reads_ok (Done a r) x new h = cc
reads_ok (Stop unexpected b) x new h = absurd h
reads_ok (Stop too_deep b) x new h = absurd h

-- a fault of the first part is a fault of the whole
pub reads_bind : {A B : Type 0} (o : Out A) (g : A → Parser B) (e : Halt) (new new' : List Token) → Reads o (Err e) new → Reads (bind o g) (Err e) new'
reads_bind (Done a r) g (h.Unexpected n) new new' h = absurd h
reads_bind (Done a r) g (h.TooDeep n) new new' h = absurd h
reads_bind (Done a r) g h.NoMemory new new' h = reads_no_memory (g a r) new'
reads_bind (Stop unexpected b) g (h.Unexpected n) new new' h = h
reads_bind (Stop unexpected b) g (h.TooDeep n) new new' h = h
reads_bind (Stop unexpected b) g h.NoMemory new new' h = h
reads_bind (Stop too_deep b) g (h.Unexpected n) new new' h = h
reads_bind (Stop too_deep b) g (h.TooDeep n) new new' h = h
reads_bind (Stop too_deep b) g h.NoMemory new new' h = h

-- the second part, where the first gave a value
pub reads_next : {A B : Type 0} (o : Out A) (g : A → Parser B) (a : A) (mid new : List Token) (r : Result B Halt) → Reads o (Ok a) mid → Reads (g a mid) r new → Reads (bind o g) r new
reads_next o g a mid new r h k = subst (λ z. Reads (bind z g) r new) (sym (reads_ok o a mid h)) k

-- a call for a rule, and what follows it
pub call_ok : {A R : Type 0} (inner : Inner) (p : Rule A) (κ : A → Parser R) (ts mid new : List Token) (a : A) (r : Result R Halt) → Reads (read inner p ts) (Ok a) mid → Reads (κ a mid) r new → Reads (read_then inner p κ ts) r new
call_ok inner p κ ts mid new a r h k = subst (λ o. Reads o r new) (sym (split inner p κ ts)) (reads_next (read inner p ts) κ a mid new r h k)

pub call_err : {A R : Type 0} (inner : Inner) (p : Rule A) (κ : A → Parser R) (ts mid new : List Token) (e : Halt) → Reads (read inner p ts) (Err e) mid → Reads (read_then inner p κ ts) (Err e) new
call_err inner p κ ts mid new e h = subst (λ o. Reads o (Err e) new) (sym (split inner p κ ts)) (reads_bind (read inner p ts) κ e mid new h)

-- ---- tokens
pub take_ok : {R : Type 0} (k : TokenKind) (κ : Pos → Parser R) (ts mid new : List Token) (a : Pos) (r : Result R Halt) → Reads (take k (λ t. done t.pos) ts) (Ok a) mid → Reads (κ a mid) r new → Reads (take k (λ t. κ t.pos) ts) r new
unfolding read_then
take_ok k κ ts mid new a r h j = call_ok (λ B part t us. Stop unexpected us) (one k (λ t. t.pos)) κ ts mid new a r h j

pub take_err : {R : Type 0} (k : TokenKind) (κ : Pos → Parser R) (ts mid new : List Token) (e : Halt) → Reads (take k (λ t. done t.pos) ts) (Err e) mid → Reads (take k (λ t. κ t.pos) ts) (Err e) new
unfolding read_then
take_err k κ ts mid new e h = call_err (λ B part t us. Stop unexpected us) (one k (λ t. t.pos)) κ ts mid new e h

-- ---- openers
inside : {B : Type 0} → ℕ → OpenerPart B → Parser B
inside zero part us = Stop too_deep us
inside (suc n) part us = read (enter n) (rule_of part) us

inside_is : {B : Type 0} (n : ℕ) (part : OpenerPart B) (us : List Token) → 0 < n → inside n part us ≡ read (enter (n - 1)) (rule_of part) us
unfolding inside
inside_is zero part us h = absurd (omega arith)
inside_is (suc n) part us h = let e : n ≡ suc n - 1 = omega arith in ap (λ m. read (enter m) (rule_of part) us) e

within_eq : {A B R : Type 0} (n : ℕ) (g : Pos → B → A) (k : TokenKind) (part : OpenerPart B) (κ : A → Parser R) (ts : List Token) → read_then (enter n) (within g k part) κ ts ≡ bind (open_at n k ts) (λ p us. bind (inside n part us) (λ b. κ (g p b)))
unfolding read_then enter inside
within_eq n g k part κ [] = refl
within_eq {A} {B} {R} n g k part κ (t ∷ ts) = by (same_kind (kind_of t.tok) k) n
  where
    by : (b : Bool) (n : ℕ) → take_if b t (λ u us. bind (enter n B part u us) (λ b. κ (g u.pos b))) ts ≡ bind (take_if b t (enter_if n) ts) (λ p us. bind (inside n part us) (λ b. κ (g p b)))
    by false n = refl
    by true zero = refl
    by true (suc n) = refl

pub within_ok : {A B R : Type 0} (n : ℕ) (g : Pos → B → A) (k : TokenKind) (part : OpenerPart B) (κ : A → Parser R) (ts mid last new : List Token) (p : Pos) (b : B) (r : Result R Halt) → 0 < n → Reads (open_at n k ts) (Ok p) mid → Reads (read (enter (n - 1)) (rule_of part) mid) (Ok b) last → Reads (κ (g p b) last) r new → Reads (read_then (enter n) (within g k part) κ ts) r new
within_ok n g k part κ ts mid last new p b r l h i j =
    subst (λ o. Reads o r new) (sym (within_eq n g k part κ ts))
    (reads_next (open_at n k ts) (λ p us. bind (inside n part us) (λ b. κ (g p b))) p mid new r h
    (reads_next (inside n part mid) (λ b. κ (g p b)) b last new r (subst (λ o. Reads o (Ok b) last) (sym (inside_is n part mid l)) i) j))

pub open_err : {A B R : Type 0} (n : ℕ) (g : Pos → B → A) (k : TokenKind) (part : OpenerPart B) (κ : A → Parser R) (ts mid new : List Token) (e : Halt) → Reads (open_at n k ts) (Err e) mid → Reads (read_then (enter n) (within g k part) κ ts) (Err e) new
open_err n g k part κ ts mid new e h =
    subst (λ o. Reads o (Err e) new) (sym (within_eq n g k part κ ts)) (reads_bind (open_at n k ts) (λ p us. bind (inside n part us) (λ b. κ (g p b))) e mid new h)

pub within_err : {A B R : Type 0} (n : ℕ) (g : Pos → B → A) (k : TokenKind) (part : OpenerPart B) (κ : A → Parser R) (ts mid last new : List Token) (p : Pos) (e : Halt) → 0 < n → Reads (open_at n k ts) (Ok p) mid → Reads (read (enter (n - 1)) (rule_of part) mid) (Err e) last → Reads (read_then (enter n) (within g k part) κ ts) (Err e) new
within_err n g k part κ ts mid last new p e l h i =
    subst (λ o. Reads o (Err e) new) (sym (within_eq n g k part κ ts))
    (reads_next (open_at n k ts) (λ p us. bind (inside n part us) (λ b. κ (g p b))) p mid new (Err e) h
    (reads_bind (inside n part mid) (λ b. κ (g p b)) e last new (subst (λ o. Reads o (Err e) last) (sym (inside_is n part mid l)) i)))

-- ---- the alternative that the next token decides
pub choose_yes : {A : Type 0} (ks : List TokenKind) (p q : Parser A) (ts new : List Token) (b : Bool) (r : Result A Halt) → b ≡ begins ks ts → b ≡ true → Reads (p ts) r new → Reads (choose (begins ks ts) p q ts) r new
choose_yes ks p q ts new b r e h k = subst (λ z. Reads (choose z p q ts) r new) (sym h ∙ e) k

pub choose_no : {A : Type 0} (ks : List TokenKind) (p q : Parser A) (ts new : List Token) (b : Bool) (r : Result A Halt) → b ≡ begins ks ts → b ≡ false → Reads (q ts) r new → Reads (choose (begins ks ts) p q ts) r new
choose_no ks p q ts new b r e h k = subst (λ z. Reads (choose z p q ts) r new) (sym h ∙ e) k

-- what stands in an opener, as the last call
pub within_then : {A B R : Type 0} (n : ℕ) (g : Pos → B → A) (k : TokenKind) (part : OpenerPart B) (κ : A → Parser R) (ts mid new : List Token) (p : Pos) (r : Result R Halt) → 0 < n → Reads (open_at n k ts) (Ok p) mid → Reads (read_then (enter (n - 1)) (rule_of part) (λ b. κ (g p b)) mid) r new → Reads (read_then (enter n) (within g k part) κ ts) r new
within_then n g k part κ ts mid new p r l h i =
    subst (λ o. Reads o r new) (sym (within_eq n g k part κ ts))
    (reads_next (open_at n k ts) (λ p us. bind (inside n part us) (λ b. κ (g p b))) p mid new r h
    (subst (λ o. Reads o r new) (split (enter (n - 1)) (rule_of part) (λ b. κ (g p b)) mid ∙ ap (λ o. bind o (λ b. κ (g p b))) (sym (inside_is n part mid l))) i))

-- the last step, a value made of others
pub reads_done : {A : Type 0} (x : A) (r : Result A Halt) (new : List Token) → Reads (Done x []) r [] → Reads (Done x new) r new
reads_done x (Ok y) new h = (h.0, refl)
reads_done x (Err (h.Unexpected n)) new h = absurd h
reads_done x (Err (h.TooDeep n)) new h = absurd h
reads_done x (Err h.NoMemory) new h = tt

-- ---- loops
prepend_more : {A : Type 0} (xs : List A) (y : A) (o : Out (List A)) → prepend xs (bind o (λ ys. done (y ∷ ys))) ≡ prepend (xs ++ y ∷ []) o
prepend_more xs y (Done ys r) = ap (λ z. Done z r) (sym (append_assoc xs (y ∷ []) ys))
prepend_more xs y (Stop w b) = refl

module _ {A : Type 0} (n : ℕ) (p : Rule A) (good : IsItem p) where
  step : Parser (A ⊎ Unit {0})
  step = another (firsts p) (read (enter n) p)

  step_takes : TakesLeft step
  unfolding step
  step_takes = another_takes (firsts p) (read (enter n) p) (takes_rule n p good.0 good.1 good.2)

  many_stop : (ts : List Token) → begins (firsts p) ts ≡ false → many_of n p ts ≡ Done [] ts
  unfolding read_then step
  many_stop ts h =
      ap (λ o. bind o (λ x. done x.0)) (loop_eq step step_takes ts ∙ ap (λ b. bind (choose b (λ us. bind (read (enter n) p us) (λ a. done (inl a))) (done (inr tt)) ts) (turn (loop step))) h)

  go_out : (o : Out A) → bind (bind (bind o (λ a. done {A = A ⊎ Unit {0}} (inl a))) (turn (loop step))) (λ x. done x.0) ≡ bind o (λ a r. bind (bind (loop step r) (λ x. done x.0)) (λ ys. done (a ∷ ys)))
  go_out (Done a r) = by (loop step r)
    where
      by : (o : Out (List A × Unit {0})) → bind (bind o (λ x. done {A = List A × Unit {0}} (a ∷ x.0, x.1))) (λ x. done x.0) ≡ bind (bind o (λ x. done x.0)) (λ ys. done (a ∷ ys))
      by (Done x q) = refl
      by (Stop y q) = refl
  go_out (Stop y b) = refl

  many_go : (ts : List Token) → begins (firsts p) ts ≡ true → many_of n p ts ≡ bind (read (enter n) p ts) (λ a r. bind (many_of n p r) (λ ys. done (a ∷ ys)))
  unfolding read_then step
  many_go ts h =
      ap (λ o. bind o (λ x. done x.0)) (loop_eq step step_takes ts ∙ ap (λ b. bind (choose b (λ us. bind (read (enter n) p us) (λ a. done (inl a))) (done (inr tt)) ts) (turn (loop step))) h)
      ∙ go_out (read (enter n) p ts)

  -- one more item of a loop, its last turn, and a fault in a turn
  pub turn_more : (start self new : List Token) (xs ys : List A) (y : A) → many_of n p start ≡ prepend xs (many_of n p self) → begins (firsts p) self ≡ true → Reads (read (enter n) p self) (Ok y) new → ys ≡ xs ++ y ∷ [] → many_of n p start ≡ prepend ys (many_of n p new)
  turn_more start self new xs ys y so_far at r e =
      so_far
      ∙ ap (prepend xs) (many_go self at ∙ ap (λ o. bind o (λ a m. bind (many_of n p m) (λ zs. done (a ∷ zs)))) (reads_ok (read (enter n) p self) y new r))
      ∙ prepend_more xs y (many_of n p new)
      ∙ ap (λ z. prepend z (many_of n p new)) (sym e)

  pub turn_stop : (start self : List Token) (xs : List A) → many_of n p start ≡ prepend xs (many_of n p self) → begins (firsts p) self ≡ false → Reads (many_of n p start) (Ok xs) self
  turn_stop start self xs so_far at =
      let e : many_of n p start ≡ Done (xs ++ []) self = so_far ∙ ap (prepend xs) (many_stop self at) in
      subst (λ o. Reads o (Ok xs) self) (sym e) (sym (append-nil xs), refl)

  pub turn_fault : (start self new new' : List Token) (xs : List A) (fault : Halt) → many_of n p start ≡ prepend xs (many_of n p self) → begins (firsts p) self ≡ true → Reads (read (enter n) p self) (Err fault) new → Reads (many_of n p start) (Err fault) new'
  turn_fault start self new new' xs fault so_far at r =
      let e = so_far ∙ ap (prepend xs) (many_go self at) in
      subst (λ o. Reads o (Err fault) new') (sym e) (reads_bind (bind (read (enter n) p self) (λ a m. bind (many_of n p m) (λ zs. done (a ∷ zs)))) (λ ys q. Done (xs ++ ys) q) fault new new' (reads_bind (read (enter n) p self) (λ a m. bind (many_of n p m) (λ zs. done (a ∷ zs))) fault new new r))

-- the rules that are repeated
pub item-arg : IsItem g.arg
unfolding opened
item-arg = (refl, refl, refl)

pub item-next_item : IsItem g.next_item
unfolding opened
item-next_item = (refl, refl, refl)

pub item-product_link : IsItem g.product_link
unfolding opened
item-product_link = (refl, refl, refl)

pub item-sum_link : IsItem g.sum_link
unfolding opened
item-sum_link = (refl, refl, refl)

pub item-cons_link : IsItem g.cons_link
unfolding opened
item-cons_link = (refl, refl, refl)

pub item-and_link : IsItem g.and_link
unfolding opened
item-and_link = (refl, refl, refl)

pub item-or_link : IsItem g.or_link
unfolding opened
item-or_link = (refl, refl, refl)

pub item-param : IsItem g.param
unfolding opened
item-param = (refl, refl, refl)

pub item-def : IsItem g.def
unfolding opened
item-def = (refl, refl, refl)

-- a name
pub name_ok : {R : Type 0} (κ : Name → Parser R) (ts mid new : List Token) (a : Name) (r : Result R Halt) → Reads (take name (λ t. done (record { text = g.text_of t.tok; pos = t.pos })) ts) (Ok a) mid → Reads (κ a mid) r new → Reads (take name (λ t. κ (record { text = g.text_of t.tok; pos = t.pos })) ts) r new
unfolding read_then
name_ok κ ts mid new a r h j = call_ok (λ B part t us. Stop unexpected us) g.name κ ts mid new a r h j

pub name_err : {R : Type 0} (κ : Name → Parser R) (ts mid new : List Token) (e : Halt) → Reads {A = Name} (take name (λ t. done (record { text = g.text_of t.tok; pos = t.pos })) ts) (Err e) mid → Reads (take name (λ t. κ (record { text = g.text_of t.tok; pos = t.pos })) ts) (Err e) new
unfolding read_then
name_err κ ts mid new e h = call_err {A = Name} (λ B part t us. Stop unexpected us) g.name κ ts mid new e h

-- the steps of a chain of calls
pub ruleset steps = (choose_yes, choose_no, call_ok, call_err, name_ok, name_err, take_ok, take_err, within_ok, within_err, open_err, within_then, reads_done)

-- ---- looks at the next token
pub begins_both : (ks ls : List TokenKind) (ts : List Token) → begins (ks ++ ls) ts ≡ either (begins ks ts) (begins ls ts)
begins_both ks ls [] = refl
begins_both ks ls (t ∷ ts) = is_in_append (kind_of t.tok) ks ls

-- one of the first list, or none of it
pub or_yes : (ks ls : List TokenKind) (ts : List Token) (b : Bool) → b ≡ begins ks ts → b ≡ true → true ≡ begins (ks ++ ls) ts
or_yes ks ls ts b h e = sym (begins_both ks ls ts ∙ ap (λ z. either z (begins ls ts)) (sym h ∙ e))

pub or_no : (ks ls : List TokenKind) (ts : List Token) (b c : Bool) → b ≡ begins ks ts → b ≡ false → c ≡ begins ls ts → c ≡ begins (ks ++ ls) ts
or_no ks ls ts b c h e i = i ∙ sym (begins_both ks ls ts ∙ ap (λ z. either z (begins ls ts)) (sym h ∙ e))
