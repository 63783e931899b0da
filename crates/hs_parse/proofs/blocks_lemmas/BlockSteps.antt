-- Steps of a block.
use Rattle.std.proofs.Common.{◌≡◌, ℕ, Bool, true, false, List, [], ◌∷◌, Result, Ok, Err, refl, ap, ◌∙◌, ◌++◌, sym, subst, append_assoc, append-nil, ◌⊎◌, inl, inr}
use Rattle.hs_base.specs.declared.pos.Pos.{Pos}
use Rattle.hs_base.specs.declared.tree.action.Action.{Action}
use Rattle.hs_base.specs.declared.tree.action.Block.{Block}
use Rattle.rules_tokens.specs.declared.token.Token.{Token}
use Rattle.rules_grammar.specs.Grammar.{rule_of, block_item}
use Rattle.rules_grammar.specs.GrammarParts.{block_in_braces}
use Rattle.hs_grammar.specs.Parser.{begins, Done, Parser, done, take, read, read_then, enter, Why, unexpected, too_deep, Out, Stop, bind, choose, turn, loop, behind_item, after_separator}
use Rattle.parse_leaves.specs.declared.halt.Halt.{Halt}
use Rattle.parse_leaves.specs.Reads.{Reads}
use Rattle.parse_leaves.proofs.Steps.{take_ok, take_err, reads_ok, reads_bind}
use Rattle.hs_base.specs.declared.tree.action.Stmt.{Stmt}
use Rattle.hs_grammar.proofs.Checks.{opened, plain_item, fine_item}
use Rattle.hs_grammar.proofs.Loops.{TakesLeft, loop_eq, item_takes}
use Rattle.hs_grammar.proofs.Main.{takes_rule}
use Rattle.hs_grammar.proofs.Reading.{split, take_bind, take_same}
use Rattle.hs_parse.specs.declared.blocks.step.Step.{Step}
use Rattle.rules_grammar.specs.GrammarKinds as k
use Rattle.hs_base.specs.declared.tree.action.Stmt.TheVariants as s
use Rattle.hs_parse.specs.declared.blocks.step.Step.TheVariants as step
use Rattle.hs_parse.specs.blocks.Blocks.{step_of, behind_action, behind_as, next_item, block_step}

choose_bind : {A B : Type 0} (b : Bool) (p q : Parser A) (κ : A → Parser B) (ts : List Token) → bind (choose b p q ts) κ ≡ choose b (λ us. bind (p us) κ) (λ us. bind (q us) κ) ts
choose_bind true p q κ ts = refl
choose_bind false p q κ ts = refl

as_steps : Stmt ⊎ Action → Parser Step
as_steps x = done (step_of x)

choose_parts : {A : Type 0} (b : Bool) (p q p' q' : Parser A) (ts : List Token) → p ts ≡ p' ts → q ts ≡ q' ts → choose b p q ts ≡ choose b p' q' ts
choose_parts true p q p' q' ts h i = h
choose_parts false p q p' q' ts h i = i

behind_link : (x : Action) (ts : List Token) → bind (behind_action x ts) (λ y. done (step_of y)) ≡ behind_as x ts
behind_link x ts =
    choose_bind (begins (k.close_brace ∷ []) ts) (take k.close_brace (λ t. done (inr x))) (take k.semicolon (λ t. after_separator s.Do k.close_brace x)) (λ y. done (step_of y)) ts
    ∙ choose_parts (begins (k.close_brace ∷ []) ts) (λ us. bind (take k.close_brace (λ t. done (inr x)) us) (λ y. done (step_of y))) (λ us. bind (take k.semicolon (λ t. after_separator s.Do k.close_brace x) us) (λ y. done (step_of y)))
    (take k.close_brace (λ t. done (step.Last x))) (take k.semicolon (λ t us. choose (begins (k.close_brace ∷ []) us) (take k.close_brace (λ u. done (step.Last x))) (done (step.Stmt (s.Do x))) us)) ts
    (sym (take_bind k.close_brace (λ t. done (inr x)) (λ y. done (step_of y)) ts))
    (sym (take_bind k.semicolon (λ t. after_separator s.Do k.close_brace x) (λ y. done (step_of y)) ts)
    ∙ take_same k.semicolon (λ t us. bind (after_separator s.Do k.close_brace x us) (λ y. done (step_of y))) (λ t us. choose (begins (k.close_brace ∷ []) us) (take k.close_brace (λ u. done (step.Last x))) (done (step.Stmt (s.Do x))) us)
    (λ t us. choose_bind (begins (k.close_brace ∷ []) us) (take k.close_brace (λ t. done (inr x))) (done (inl (s.Do x))) (λ y. done (step_of y)) us
    ∙ choose_parts (begins (k.close_brace ∷ []) us) (λ vs. bind (take k.close_brace (λ t. done (inr x)) vs) (λ y. done (step_of y))) (λ vs. bind (done (inl (s.Do x)) vs) (λ y. done (step_of y))) (take k.close_brace (λ u. done (step.Last x))) (done (step.Stmt (s.Do x))) us
    (sym (take_bind k.close_brace (λ t. done (inr x)) (λ y. done (step_of y)) us)) refl) ts)

-- an outcome, by the step that it gives
is_stmt : (o : Out (Stmt ⊎ Action)) (x : Stmt) (mid : List Token) → bind o (λ y. done (step_of y)) ≡ Done (step.Stmt x) mid → o ≡ Done (inl x) mid
is_stmt (Done (inl y) r) x mid h = let e : y ≡ x = cc h in let f : r ≡ mid = cc h in ap (λ z. Done (inl z) r) e ∙ ap (λ z. Done (inl x) z) f
is_stmt (Done (inr y) r) x mid h = absurd (cc h)
is_stmt (Stop y b) x mid h = absurd (cc h)

is_last : (o : Out (Stmt ⊎ Action)) (x : Action) (mid : List Token) → bind o (λ y. done (step_of y)) ≡ Done (step.Last x) mid → o ≡ Done (inr x) mid
is_last (Done (inl y) r) x mid h = absurd (cc h)
is_last (Done (inr y) r) x mid h = let e : y ≡ x = cc h in let f : r ≡ mid = cc h in ap (λ z. Done (inr z) r) e ∙ ap (λ z. Done (inr x) z) f
is_last (Stop y b) x mid h = absurd (cc h)

err_of : (o : Out (Stmt ⊎ Action)) (e : Halt) (new new' : List Token) → Reads (bind o (λ y. done (step_of y))) (Err e) new → Reads o (Err e) new'
err_of o e new new' = by o e
  where
    open_h : Type 0
    open_h = Unit {0}

    by : (o : Out (Stmt ⊎ Action)) (e : Halt) → Reads (bind o (λ y. done (step_of y))) (Err e) new → Reads o (Err e) new'
    by (Done x r) e h = done_err x r e h
      where
        done_err : (x : Stmt ⊎ Action) (r : List Token) (e : Halt) → Reads {A = Step} (Done (step_of x) r) (Err e) new → Reads {A = Stmt ⊎ Action} (Done x r) (Err e) new'
        done_err x r (Rattle.parse_leaves.specs.declared.halt.Halt.TheVariants.Unexpected n) h = h
        done_err x r (Rattle.parse_leaves.specs.declared.halt.Halt.TheVariants.TooDeep n) h = h
        done_err x r Rattle.parse_leaves.specs.declared.halt.Halt.TheVariants.NoMemory h = h
    by (Stop y b) e h = stop_err y b e h
      where
        stop_err : (y : Why) (b : List Token) (e : Halt) → Reads {A = Step} (Stop y b) (Err e) new → Reads {A = Stmt ⊎ Action} (Stop y b) (Err e) new'
        stop_err unexpected b (Rattle.parse_leaves.specs.declared.halt.Halt.TheVariants.Unexpected n) h = h
        stop_err unexpected b (Rattle.parse_leaves.specs.declared.halt.Halt.TheVariants.TooDeep n) h = h
        stop_err unexpected b Rattle.parse_leaves.specs.declared.halt.Halt.TheVariants.NoMemory h = h
        stop_err too_deep b (Rattle.parse_leaves.specs.declared.halt.Halt.TheVariants.Unexpected n) h = h
        stop_err too_deep b (Rattle.parse_leaves.specs.declared.halt.Halt.TheVariants.TooDeep n) h = h
        stop_err too_deep b Rattle.parse_leaves.specs.declared.halt.Halt.TheVariants.NoMemory h = h

module _ (n : ℕ) where
  item : Parser (Stmt ⊎ Action)
  item = read (enter n) block_item

  abbrev Item' : List Token → Result Step Halt → List Token → Type 0
  Item' ts r new = Reads (read_then (enter n) block_item (λ x. done (step_of x)) ts) r new

  item_split : (ts : List Token) → read_then (enter n) block_item (λ x. done (step_of x)) ts ≡ bind (item ts) (λ x. done (step_of x))
  unfolding item
  item_split ts = split (enter n) block_item (λ x. done (step_of x)) ts

  pub step_err : (ts mid new : List Token) (e : Halt) → Item' ts (Err e) mid → Reads (block_step n ts) (Err e) new
  unfolding item
  step_err ts mid new e h =
      reads_bind (next_item n ts) (λ x. done (step_of x)) e new new (reads_bind (item ts) (behind_item s.Do k.semicolon k.close_brace) e mid new (err_of (item ts) e mid mid (subst (λ o. Reads o (Err e) mid) (item_split ts) h)))

  stmt_eq : (ts mid : List Token) (x : Stmt) → Item' ts (Ok (step.Stmt x)) mid → block_step n ts ≡ bind (take k.semicolon (λ t. done (inl x)) mid) (λ y. done (step_of y))
  unfolding item
  stmt_eq ts mid x h =
      ap (λ o. bind (bind o (behind_item s.Do k.semicolon k.close_brace)) (λ y. done (step_of y))) (is_stmt (item ts) x mid (sym (item_split ts) ∙ reads_ok (read_then (enter n) block_item (λ y. done (step_of y)) ts) (step.Stmt x) mid h))

  pub step_stmt : (ts mid new : List Token) (x : Stmt) (p : Pos) → Item' ts (Ok (step.Stmt x)) mid → Reads (take k.semicolon (λ t. done t.pos) mid) (Ok p) new → Reads (block_step n ts) (Ok (step.Stmt x)) new
  step_stmt ts mid new x p h i =
      subst (λ o. Reads o (Ok (step.Stmt x)) new) (sym (stmt_eq ts mid x h ∙ sym (take_bind k.semicolon (λ t. done (inl x)) (λ y. done (step_of y)) mid)))
      (take_ok k.semicolon (λ q. done (step.Stmt x)) mid new new p (Ok (step.Stmt x)) i (refl, refl))

  pub step_sep : (ts mid last new : List Token) (x : Stmt) (e : Halt) → Item' ts (Ok (step.Stmt x)) mid → Reads (take k.semicolon (λ t. done t.pos) mid) (Err e) last → Reads (block_step n ts) (Err e) new
  step_sep ts mid last new x e h i =
      subst (λ o. Reads o (Err e) new) (sym (stmt_eq ts mid x h ∙ sym (take_bind k.semicolon (λ t. done (inl x)) (λ y. done (step_of y)) mid)))
      (take_err k.semicolon (λ q. done (step.Stmt x)) mid last new e i)

  pub step_last : (ts mid new : List Token) (x : Action) (r : Result Step Halt) → Item' ts (Ok (step.Last x)) mid → Reads (behind_as x mid) r new → Reads (block_step n ts) r new
  unfolding item
  step_last ts mid new x r h i =
      subst (λ o. Reads o r new)
      (sym (ap (λ o. bind (bind o (behind_item s.Do k.semicolon k.close_brace)) (λ y. done (step_of y))) (is_last (item ts) x mid (sym (item_split ts) ∙ reads_ok (read_then (enter n) block_item (λ y. done (step_of y)) ts) (step.Last x) mid h)) ∙ behind_link x mid)) i

  -- ---- the loop over the items
  abbrev pub block_of : Parser Block
  block_of ts = read (enter n) (rule_of block_in_braces) ts

  abbrev pub behind : List Stmt → Out Block → Out Block
  behind xs o = bind o (λ b. done (record { stmts = xs ++ b.stmts; last = b.last }))

  items_take : TakesLeft (next_item n)
  unfolding opened
  items_take = item_takes s.Do k.semicolon k.close_brace (read (enter n) block_item) (takes_rule n block_item plain_item fine_item refl)

  block_eq : (ts : List Token) → block_of ts ≡ bind (bind (next_item n ts) (turn (loop (next_item n)))) (λ x. done (record { stmts = x.0; last = x.1 }))
  unfolding rule_of read_then
  block_eq ts = ap (λ o. bind o (λ x. done (record { stmts = x.0; last = x.1 }))) (loop_eq (next_item n) items_take ts)

  more_eq : (ts : List Token) (x : Stmt) (xs : List Stmt) → behind xs (bind (bind (loop (next_item n) ts) (λ y. done {A = List Stmt × Action} (x ∷ y.0, y.1))) (λ y. done (record { stmts = y.0; last = y.1 }))) ≡ behind (xs ++ x ∷ []) (block_of ts)
  unfolding rule_of read_then
  more_eq ts x xs = by (loop (next_item n) ts)
    where
      by : (o : Out (List Stmt × Action)) → behind xs (bind (bind o (λ y. done {A = List Stmt × Action} (x ∷ y.0, y.1))) (λ y. done (record { stmts = y.0; last = y.1 }))) ≡ behind (xs ++ x ∷ []) (bind o (λ y. done (record { stmts = y.0; last = y.1 })))
      by (Done y r) = ap (λ z. Done (record { stmts = z; last = y.1 }) r) (sym (append_assoc xs (x ∷ []) y.0))
      by (Stop y b) = refl

  pub block_turn : (start self new : List Token) (xs ys : List Stmt) (x : Stmt) → block_of start ≡ behind xs (block_of self) → Reads (block_step n self) (Ok (step.Stmt x)) new → ys ≡ xs ++ x ∷ [] → block_of start ≡ behind ys (block_of new)
  block_turn start self new xs ys x so_far r e =
      so_far
      ∙ ap (behind xs) (block_eq self ∙ ap (λ o. bind (bind o (turn (loop (next_item n)))) (λ y. done (record { stmts = y.0; last = y.1 }))) (is_stmt (next_item n self) x new (reads_ok (block_step n self) (step.Stmt x) new r)))
      ∙ more_eq new x xs
      ∙ ap (λ z. behind z (block_of new)) (sym e)

  pub block_stop : (start self new : List Token) (xs : List Stmt) (x : Action) → block_of start ≡ behind xs (block_of self) → Reads (block_step n self) (Ok (step.Last x)) new → Reads (block_of start) (Ok (record { stmts = xs; last = x })) new
  block_stop start self new xs x so_far r =
      let e = so_far ∙ ap (behind xs) (block_eq self ∙ ap (λ o. bind (bind o (turn (loop (next_item n)))) (λ y. done (record { stmts = y.0; last = y.1 }))) (is_last (next_item n self) x new (reads_ok (block_step n self) (step.Last x) new r))) in
      subst (λ o. Reads o (Ok (record { stmts = xs; last = x })) new) (sym e) (ap (λ z. record { stmts = z; last = x }) (sym (append-nil xs)), refl)

  pub block_fault : (start self new new' : List Token) (xs : List Stmt) (e : Halt) → block_of start ≡ behind xs (block_of self) → Reads (block_step n self) (Err e) new → Reads (block_of start) (Err e) new'
  block_fault start self new new' xs e so_far r =
      let f = so_far ∙ ap (behind xs) (block_eq self) in
      subst (λ o. Reads o (Err e) new') (sym f)
      (reads_bind (bind (bind (next_item n self) (turn (loop (next_item n)))) (λ y. done (record { stmts = y.0; last = y.1 }))) (λ b. done (record { stmts = xs ++ b.stmts; last = b.last })) e new new'
      (reads_bind (bind (next_item n self) (turn (loop (next_item n)))) (λ y. done (record { stmts = y.0; last = y.1 })) e new new
      (reads_bind (next_item n self) (turn (loop (next_item n))) e new new (err_of (next_item n self) e new new r))))

  -- the same, with the step as the value that a match tells apart
  pub at_stmt : (ts mid new : List Token) (x : Stmt) (y : Step) (p : Pos) → y ≡ step.Stmt x → Item' ts (Ok y) mid → Reads (take k.semicolon (λ t. done t.pos) mid) (Ok p) new → Reads (block_step n ts) (Ok (step.Stmt x)) new
  at_stmt ts mid new x y p q h i = step_stmt ts mid new x p (subst (λ z. Item' ts (Ok z) mid) q h) i

  pub at_sep : (ts mid last new : List Token) (x : Stmt) (y : Step) (e : Halt) → y ≡ step.Stmt x → Item' ts (Ok y) mid → Reads (take k.semicolon (λ t. done t.pos) mid) (Err e) last → Reads (block_step n ts) (Err e) new
  at_sep ts mid last new x y e q h i = step_sep ts mid last new x e (subst (λ z. Item' ts (Ok z) mid) q h) i

  pub at_last : (ts mid new : List Token) (x : Action) (y : Step) (r : Result Step Halt) → y ≡ step.Last x → Item' ts (Ok y) mid → Reads (behind_as x mid) r new → Reads (block_step n ts) r new
  at_last ts mid new x y r q h i = step_last ts mid new x r (subst (λ z. Item' ts (Ok z) mid) q h) i

  pub item_next : (start self new : List Token) (xs ys : List Stmt) (x : Stmt) (y : Step) → block_of start ≡ behind xs (block_of self) → Reads (block_step n self) (Ok y) new → y ≡ step.Stmt x → ys ≡ xs ++ x ∷ [] → block_of start ≡ behind ys (block_of new)
  item_next start self new xs ys x y so_far r q e = block_turn start self new xs ys x so_far (subst (λ z. Reads (block_step n self) (Ok z) new) q r) e

  pub item_last : (start self new : List Token) (xs : List Stmt) (x : Action) (y : Step) (z : Action) → block_of start ≡ behind xs (block_of self) → Reads (block_step n self) (Ok y) new → y ≡ step.Last x → z ≡ x → Reads (block_of start) (Ok (record { stmts = xs; last = z })) new
  item_last start self new xs x y z so_far r q e =
      subst (λ w. Reads (block_of start) (Ok (record { stmts = xs; last = w })) new) (sym e)
      (block_stop start self new xs x so_far (subst (λ w. Reads (block_step n self) (Ok w) new) q r))
