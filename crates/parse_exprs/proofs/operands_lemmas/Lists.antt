-- Steps of a list: its items, or `[]` and its type.
use Rattle.std.proofs.Common.{◌≡◌, ℕ, ◌-◌, ◌<◌, Bool, true, false, List, [], ◌∷◌, Result, Ok, Err, ◌⊎◌, inl, inr}
use Rattle.hs_base.specs.declared.pos.Pos.{Pos}
use Rattle.hs_base.specs.declared.tree.expr.Expr.{Expr}
use Rattle.hs_base.specs.declared.tree.expr.Expr.TheVariants as e
use Rattle.hs_base.specs.declared.tree.forms.EmptyForm.TheVariants as empty_form
use Rattle.hs_base.specs.declared.tree.ty.Written.{Written}
use Rattle.rules_tokens.specs.declared.token.Token.{Token}
use Rattle.rules_grammar.specs.Grammar as g
use Rattle.rules_grammar.specs.Grammar.{rule_of}
use Rattle.rules_grammar.specs.GrammarKinds as k
use Rattle.rules_grammar.specs.GrammarParts.{items_or_none}
use Rattle.hs_grammar.specs.Parser.{firsts, may_be_empty, begins, Done, Parser, done, choose, take, on_left, read_then, read, enter}
use Rattle.parse_leaves.specs.declared.halt.Halt.{Halt}
use Rattle.parse_leaves.specs.Reads.{Reads, open_at}
use Rattle.parse_leaves.proofs.Steps.{call_ok, call_err, take_ok, take_err, within_then, open_err, choose_yes, choose_no, reads_done}
use Rattle.parse_exprs.specs.operands.Items.{rest_of_items}

-- the items of a list
pub items_ok : (n : ℕ) (ts m new : List Token) (a : Expr) (xs : List Expr) (r : Result (List Expr) Halt) → Reads (read (enter n) g.expr ts) (Ok a) m → Reads (read (enter n) rest_of_items m) (Ok xs) new → Reads (Done (a ∷ xs) []) r [] → Reads (read (enter n) g.items ts) r new
unfolding read_then g.items
items_ok n ts m new a xs r h i e =
    call_ok (enter n) g.expr (λ a. read_then (enter n) rest_of_items (λ xs. done (a ∷ xs))) ts m new a r h
    (call_ok (enter n) rest_of_items (λ xs. done (a ∷ xs)) m new new xs r i (reads_done (a ∷ xs) r new e))

pub items_first : (n : ℕ) (ts m new : List Token) (e : Halt) → Reads {A = Expr} (read (enter n) g.expr ts) (Err e) m → Reads {A = List Expr} (read (enter n) g.items ts) (Err e) new
unfolding read_then g.items
items_first n ts m new e h = call_err (enter n) g.expr (λ a. read_then (enter n) rest_of_items (λ xs. done (a ∷ xs))) ts m new e h

pub items_rest : (n : ℕ) (ts m o new : List Token) (a : Expr) (e : Halt) → Reads (read (enter n) g.expr ts) (Ok a) m → Reads {A = List Expr} (read (enter n) rest_of_items m) (Err e) o → Reads {A = List Expr} (read (enter n) g.items ts) (Err e) new
unfolding read_then g.items
items_rest n ts m o new a e h i =
    call_ok (enter n) g.expr (λ a. read_then (enter n) rest_of_items (λ xs. done (a ∷ xs))) ts m new a (Err e) h
    (call_err (enter n) rest_of_items (λ xs. done (a ∷ xs)) m o new e i)

-- a list, or `[]` and its type
module _ (n : ℕ) where
  abbrev empty_type : Pos → Parser Expr
  empty_type p = take k.at_sign (λ t. read_then (enter n) g.atype (λ w. done ((e.Empty empty_form.EmptyList) p w)))

  -- behind the `[`
  abbrev behind_bracket : Pos → Parser Expr
  behind_bracket p ts = choose (begins (k.close_bracket ∷ []) ts) (take k.close_bracket (λ t. empty_type p)) (read_then (enter (n - 1)) g.items (λ xs. done (e.List p xs))) ts

  bracket_is : (ts m new : List Token) (p : Pos) (r : Result Expr Halt) → 0 < n → Reads (open_at n k.open_bracket ts) (Ok p) m → Reads (behind_bracket p m) r new → Reads (read (enter n) g.list_form ts) r new
  unfolding firsts may_be_empty read_then rule_of g.list_form g.list_or_empty
  bracket_is ts m new p r l h i =
      within_then n (λ p xs. elim xs as (λ xs. Pos ⊎ Expr) [ inl u ↦ inl p | inr as' ↦ inr (e.List p as') ]) k.open_bracket items_or_none (on_left (λ b. take k.at_sign (λ t. read_then (enter n) g.atype (λ w. done ((e.Empty empty_form.EmptyList) b w)))) done) ts m new p r l h i

  pub bracket_closed : (ts m o q new : List Token) (p c a : Pos) (b : Bool) (w : Written) (r : Result Expr Halt) → 0 < n → Reads (open_at n k.open_bracket ts) (Ok p) m → b ≡ begins (k.close_bracket ∷ []) m → b ≡ true → Reads (take k.close_bracket (λ t. done t.pos) m) (Ok c) o → Reads (take k.at_sign (λ t. done t.pos) o) (Ok a) q → Reads (read (enter n) g.atype q) (Ok w) new → Reads (Done ((e.Empty empty_form.EmptyList) p w) []) r [] → Reads (read (enter n) g.list_form ts) r new
  bracket_closed ts m o q new p c a b w r l h u v i j y d =
      bracket_is ts m new p r l h
      (choose_yes (k.close_bracket ∷ []) (take k.close_bracket (λ t. empty_type p)) (read_then (enter (n - 1)) g.items (λ xs. done (e.List p xs))) m new b r u v
      (take_ok k.close_bracket (λ t. empty_type p) m o new c r i
      (take_ok k.at_sign (λ t. read_then (enter n) g.atype (λ w. done ((e.Empty empty_form.EmptyList) p w))) o q new a r j
      (call_ok (enter n) g.atype (λ w. done ((e.Empty empty_form.EmptyList) p w)) q new new w r y (reads_done ((e.Empty empty_form.EmptyList) p w) r new d)))))

  pub bracket_at : (ts m o q new : List Token) (p c : Pos) (b : Bool) (f : Halt) → 0 < n → Reads (open_at n k.open_bracket ts) (Ok p) m → b ≡ begins (k.close_bracket ∷ []) m → b ≡ true → Reads (take k.close_bracket (λ t. done t.pos) m) (Ok c) o → Reads {A = Pos} (take k.at_sign (λ t. done t.pos) o) (Err f) q → Reads {A = Expr} (read (enter n) g.list_form ts) (Err f) new
  bracket_at ts m o q new p c b f l h u v i j =
      bracket_is ts m new p (Err f) l h
      (choose_yes (k.close_bracket ∷ []) (take k.close_bracket (λ t. empty_type p)) (read_then (enter (n - 1)) g.items (λ xs. done (e.List p xs))) m new b (Err f) u v
      (take_ok k.close_bracket (λ t. empty_type p) m o new c (Err f) i
      (take_err k.at_sign (λ t. read_then (enter n) g.atype (λ w. done ((e.Empty empty_form.EmptyList) p w))) o q new f j)))

  pub bracket_type : (ts m o q s new : List Token) (p c a : Pos) (b : Bool) (f : Halt) → 0 < n → Reads (open_at n k.open_bracket ts) (Ok p) m → b ≡ begins (k.close_bracket ∷ []) m → b ≡ true → Reads (take k.close_bracket (λ t. done t.pos) m) (Ok c) o → Reads (take k.at_sign (λ t. done t.pos) o) (Ok a) q → Reads {A = Written} (read (enter n) g.atype q) (Err f) s → Reads {A = Expr} (read (enter n) g.list_form ts) (Err f) new
  bracket_type ts m o q s new p c a b f l h u v i j y =
      bracket_is ts m new p (Err f) l h
      (choose_yes (k.close_bracket ∷ []) (take k.close_bracket (λ t. empty_type p)) (read_then (enter (n - 1)) g.items (λ xs. done (e.List p xs))) m new b (Err f) u v
      (take_ok k.close_bracket (λ t. empty_type p) m o new c (Err f) i
      (take_ok k.at_sign (λ t. read_then (enter n) g.atype (λ w. done ((e.Empty empty_form.EmptyList) p w))) o q new a (Err f) j
      (call_err (enter n) g.atype (λ w. done ((e.Empty empty_form.EmptyList) p w)) q s new f y))))

  pub bracket_items : (ts m new : List Token) (p : Pos) (b : Bool) (xs : List Expr) (r : Result Expr Halt) → 0 < n → Reads (open_at n k.open_bracket ts) (Ok p) m → b ≡ begins (k.close_bracket ∷ []) m → b ≡ false → Reads (read (enter (n - 1)) g.items m) (Ok xs) new → Reads (Done (e.List p xs) []) r [] → Reads (read (enter n) g.list_form ts) r new
  bracket_items ts m new p b xs r l h u v i d =
      bracket_is ts m new p r l h
      (choose_no (k.close_bracket ∷ []) (take k.close_bracket (λ t. empty_type p)) (read_then (enter (n - 1)) g.items (λ xs. done (e.List p xs))) m new b r u v
      (call_ok (enter (n - 1)) g.items (λ xs. done (e.List p xs)) m new new xs r i (reads_done (e.List p xs) r new d)))

  pub bracket_fault : (ts m o new : List Token) (p : Pos) (b : Bool) (f : Halt) → 0 < n → Reads (open_at n k.open_bracket ts) (Ok p) m → b ≡ begins (k.close_bracket ∷ []) m → b ≡ false → Reads {A = List Expr} (read (enter (n - 1)) g.items m) (Err f) o → Reads {A = Expr} (read (enter n) g.list_form ts) (Err f) new
  bracket_fault ts m o new p b f l h u v i =
      bracket_is ts m new p (Err f) l h
      (choose_no (k.close_bracket ∷ []) (take k.close_bracket (λ t. empty_type p)) (read_then (enter (n - 1)) g.items (λ xs. done (e.List p xs))) m new b (Err f) u v
      (call_err (enter (n - 1)) g.items (λ xs. done (e.List p xs)) m o new f i))

  pub bracket_open : (ts m new : List Token) (f : Halt) → Reads {A = Pos} (open_at n k.open_bracket ts) (Err f) m → Reads {A = Expr} (read (enter n) g.list_form ts) (Err f) new
  unfolding firsts may_be_empty read_then rule_of g.list_form g.list_or_empty
  bracket_open ts m new f h =
      open_err n (λ p xs. elim xs as (λ xs. Pos ⊎ Expr) [ inl u ↦ inl p | inr as' ↦ inr (e.List p as') ]) k.open_bracket items_or_none (on_left (λ b. take k.at_sign (λ t. read_then (enter n) g.atype (λ w. done ((e.Empty empty_form.EmptyList) b w)))) done) ts m new f h
