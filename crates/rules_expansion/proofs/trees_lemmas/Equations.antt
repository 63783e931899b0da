-- What the rules see of each variant of a tree: one equation each, for proofs of functions that go down a tree.
use Rattle.std.proofs.Common.{◌≡◌, ℕ, ℤ, List, [], ◌∷◌, map, refl, ap, ◌∙◌, sym}
use Rattle.hs_base.specs.declared.pos.Pos.{Pos}
use Rattle.hs_base.specs.declared.tree.ty.Ty.{Ty}
use Rattle.hs_base.specs.declared.tree.ty.Ty.TheVariants as t
use Rattle.hs_base.specs.declared.tree.ty.Ty.TheOpen.{Ty-F}
use Rattle.hs_base.specs.declared.tree.ty.Ty.TheFolds.{fold-Ty, fold-roll-Ty}
use Rattle.hs_base.specs.declared.tree.ty.Written.{Written}
use Rattle.hs_base.specs.declared.tree.expr.Name.{Name}
use Rattle.hs_base.specs.declared.tree.expr.CompareOp.{CompareOp}
use Rattle.hs_base.specs.declared.tree.expr.Constant.{Constant}
use Rattle.hs_base.specs.declared.tree.expr.Expr.{Expr}
use Rattle.hs_base.specs.declared.tree.expr.Expr.TheVariants as e
use Rattle.hs_base.specs.declared.tree.expr.ExprArms.{ExprArms}
use Rattle.hs_base.specs.declared.tree.expr.ExprArms.TheVariants as a
use Rattle.hs_base.specs.declared.tree.expr.Link.{Link}
use Rattle.hs_base.specs.declared.tree.expr.ListLink.{ListLink}
use Rattle.hs_base.specs.declared.tree.expr.SumLink.{SumLink}
use Rattle.hs_base.specs.declared.tree.expr.Expr.TheOpen.{Expr-F, ExprArms-F, Link-F, ListLink-F, SumLink-F}
use Rattle.hs_base.specs.declared.tree.expr.Expr.TheFolds.{fold-Expr, fold-roll-Expr, fold-ExprArms, fold-roll-ExprArms, fold_out-Link, fold_out-ListLink, fold_out-SumLink}
use Rattle.hs_base.specs.declared.tree.forms.UnaryForm.{UnaryForm}
use Rattle.hs_base.specs.declared.tree.forms.BinaryForm.{BinaryForm}
use Rattle.hs_base.specs.declared.tree.forms.BinaryForm.TheVariants as b
use Rattle.hs_base.specs.declared.tree.forms.EmptyForm.{EmptyForm}
use Rattle.hs_base.specs.declared.tree.forms.SideForm.{SideForm}
use Rattle.rules_expansion.specs.trees.Trees.{T, unit, int, bool, text, thread, exn, pair, maybe, either, list, cell, async, ty_step, ty_of, Wr, wr_of, Lit, number, letters, truth, nothing_more, exception, Ex, lit, name, unary, binary, chain, conses, choose, items, empty, side, given, case, Exs, none, more, Links, end, link, Arms, maybe_arms, either_arms, list_arms, pair_arms, constant_of, compare_form, sum_form, cons_form, to_exs, Linked, Joined, to_links, all_by, ex_step, arms_step, link_step, list_link_step, sum_link_step, ex_of, arms_of, joined_of, list_linked_of, sum_linked_of, exs_of, links_of, list_links_of, sum_links_of}

pub ty-Unit : ty_of t.Unit ≡ unit
ty-Unit = ap ty_of (sym t.rolls-Unit) ∙ fold-roll-Ty T ty_step Ty-F.Unit

pub ty-Int : ty_of t.Int ≡ int
ty-Int = ap ty_of (sym t.rolls-Int) ∙ fold-roll-Ty T ty_step Ty-F.Int

pub ty-Bool : ty_of t.Bool ≡ bool
ty-Bool = ap ty_of (sym t.rolls-Bool) ∙ fold-roll-Ty T ty_step Ty-F.Bool

pub ty-Text : ty_of t.Text ≡ text
ty-Text = ap ty_of (sym t.rolls-Text) ∙ fold-roll-Ty T ty_step Ty-F.Text

pub ty-Thread : ty_of t.Thread ≡ thread
ty-Thread = ap ty_of (sym t.rolls-Thread) ∙ fold-roll-Ty T ty_step Ty-F.Thread

pub ty-Exn : ty_of t.Exn ≡ exn
ty-Exn = ap ty_of (sym t.rolls-Exn) ∙ fold-roll-Ty T ty_step Ty-F.Exn

pub ty-Maybe : (a : Ty) → ty_of (t.Maybe a) ≡ maybe (ty_of a)
ty-Maybe a = ap ty_of (sym (t.rolls-Maybe a)) ∙ fold-roll-Ty T ty_step (Ty-F.Maybe a)

pub ty-List : (a : Ty) → ty_of (t.List a) ≡ list (ty_of a)
ty-List a = ap ty_of (sym (t.rolls-List a)) ∙ fold-roll-Ty T ty_step (Ty-F.List a)

pub ty-Cell : (a : Ty) → ty_of (t.Cell a) ≡ cell (ty_of a)
ty-Cell a = ap ty_of (sym (t.rolls-Cell a)) ∙ fold-roll-Ty T ty_step (Ty-F.Cell a)

pub ty-Async : (a : Ty) → ty_of (t.Async a) ≡ async (ty_of a)
ty-Async a = ap ty_of (sym (t.rolls-Async a)) ∙ fold-roll-Ty T ty_step (Ty-F.Async a)

pub ty-Pair : (a b : Ty) → ty_of (t.Pair a b) ≡ pair (ty_of a) (ty_of b)
ty-Pair a b = ap ty_of (sym (t.rolls-Pair a b)) ∙ fold-roll-Ty T ty_step (Ty-F.Pair a b)

pub ty-Either : (a b : Ty) → ty_of (t.Either a b) ≡ either (ty_of a) (ty_of b)
ty-Either a b = ap ty_of (sym (t.rolls-Either a b)) ∙ fold-roll-Ty T ty_step (Ty-F.Either a b)

pub ruleset ty_rules = (ty-Unit, ty-Int, ty-Bool, ty-Text, ty-Thread, ty-Exn, ty-Maybe, ty-List, ty-Cell, ty-Async, ty-Pair, ty-Either)

exs_are : (es : List Expr) → to_exs (map ex_of es) ≡ exs_of es
exs_are [] = refl
exs_are (x ∷ es) = ap (more (ex_of x)) (exs_are es)

joined_is : (k : Link) → joined_of k ≡ record { pos = k.pos; operand = ex_of k.operand }
joined_is k = fold_out-Link Ex Arms Joined Linked Linked ex_step arms_step link_step list_link_step sum_link_step k

sum_linked_is : (k : SumLink) → sum_linked_of k ≡ record { form = sum_form k.op; pos = k.pos; operand = ex_of k.operand }
sum_linked_is k = fold_out-SumLink Ex Arms Joined Linked Linked ex_step arms_step link_step list_link_step sum_link_step k

list_linked_is : (k : ListLink) → list_linked_of k ≡ record { form = cons_form k.op; pos = k.pos; operand = ex_of k.operand }
list_linked_is k = fold_out-ListLink Ex Arms Joined Linked Linked ex_step arms_step link_step list_link_step sum_link_step k

links_are : (f : BinaryForm) (ks : List Link) → all_by f (map joined_of ks) ≡ links_of f ks
links_are f [] = refl
links_are f (k ∷ ks) =
    ap (λ j. link f j.pos j.operand (all_by f (map joined_of ks))) (joined_is k) ∙ ap (link f k.pos (ex_of k.operand)) (links_are f ks)

sum_links_are : (ks : List SumLink) → to_links (map sum_linked_of ks) ≡ sum_links_of ks
sum_links_are [] = refl
sum_links_are (k ∷ ks) =
    ap (λ j. link j.form j.pos j.operand (to_links (map sum_linked_of ks))) (sum_linked_is k) ∙ ap (link (sum_form k.op) k.pos (ex_of k.operand)) (sum_links_are ks)

list_links_are : (ks : List ListLink) → to_links (map list_linked_of ks) ≡ list_links_of ks
list_links_are [] = refl
list_links_are (k ∷ ks) =
    ap (λ j. link j.form j.pos j.operand (to_links (map list_linked_of ks))) (list_linked_is k) ∙ ap (link (cons_form k.op) k.pos (ex_of k.operand)) (list_links_are ks)

pub ex-If : (p : Pos) (c : Expr) (f : Expr) (g : Expr) → ex_of (e.If p c f g) ≡ choose p (ex_of c) (ex_of f) (ex_of g)
ex-If p c f g = ap ex_of (sym (e.rolls-If p c f g)) ∙ fold-roll-Expr Ex Arms Joined Linked Linked ex_step arms_step link_step list_link_step sum_link_step (Expr-F.If p c f g)

pub ex-Case : (p : Pos) (c : Expr) (r : ExprArms) → ex_of (e.Case p c r) ≡ case p (ex_of c) (arms_of r)
ex-Case p c r = ap ex_of (sym (e.rolls-Case p c r)) ∙ fold-roll-Expr Ex Arms Joined Linked Linked ex_step arms_step link_step list_link_step sum_link_step (Expr-F.Case p c r)

pub ex-Let : (p : Pos) (y : Name) (c : Expr) (f : Expr) → ex_of (e.Let p y c f) ≡ given y (ex_of c) (ex_of f)
ex-Let p y c f = ap ex_of (sym (e.rolls-Let p y c f)) ∙ fold-roll-Expr Ex Arms Joined Linked Linked ex_step arms_step link_step list_link_step sum_link_step (Expr-F.Let p y c f)

pub ex-Or : (c : Expr) (ks : List Link) → ex_of (e.Or c ks) ≡ chain (ex_of c) (links_of b.Or ks)
ex-Or c ks = ap ex_of (sym (e.rolls-Or c ks)) ∙ (fold-roll-Expr Ex Arms Joined Linked Linked ex_step arms_step link_step list_link_step sum_link_step (Expr-F.Or c ks) ∙ ap (chain (ex_of c)) (links_are b.Or ks))

pub ex-And : (c : Expr) (ks : List Link) → ex_of (e.And c ks) ≡ chain (ex_of c) (links_of b.And ks)
ex-And c ks = ap ex_of (sym (e.rolls-And c ks)) ∙ (fold-roll-Expr Ex Arms Joined Linked Linked ex_step arms_step link_step list_link_step sum_link_step (Expr-F.And c ks) ∙ ap (chain (ex_of c)) (links_are b.And ks))

pub ex-Product : (c : Expr) (ks : List Link) → ex_of (e.Product c ks) ≡ chain (ex_of c) (links_of b.Times ks)
ex-Product c ks = ap ex_of (sym (e.rolls-Product c ks)) ∙ (fold-roll-Expr Ex Arms Joined Linked Linked ex_step arms_step link_step list_link_step sum_link_step (Expr-F.Product c ks) ∙ ap (chain (ex_of c)) (links_are b.Times ks))

pub ex-Sum : (c : Expr) (ks : List SumLink) → ex_of (e.Sum c ks) ≡ chain (ex_of c) (sum_links_of ks)
ex-Sum c ks = ap ex_of (sym (e.rolls-Sum c ks)) ∙ (fold-roll-Expr Ex Arms Joined Linked Linked ex_step arms_step link_step list_link_step sum_link_step (Expr-F.Sum c ks) ∙ ap (chain (ex_of c)) (sum_links_are ks))

pub ex-Cons : (c : Expr) (ks : List ListLink) → ex_of (e.Cons c ks) ≡ conses (ex_of c) (list_links_of ks)
ex-Cons c ks = ap ex_of (sym (e.rolls-Cons c ks)) ∙ (fold-roll-Expr Ex Arms Joined Linked Linked ex_step arms_step link_step list_link_step sum_link_step (Expr-F.Cons c ks) ∙ ap (conses (ex_of c)) (list_links_are ks))

pub ex-Compare : (c : Expr) (o : CompareOp) (p : Pos) (f : Expr) → ex_of (e.Compare c o p f) ≡ binary (compare_form o) p (ex_of c) (ex_of f)
ex-Compare c o p f = ap ex_of (sym (e.rolls-Compare c o p f)) ∙ fold-roll-Expr Ex Arms Joined Linked Linked ex_step arms_step link_step list_link_step sum_link_step (Expr-F.Compare c o p f)

pub ex-Call : (y : Name) (es : List Expr) → ex_of (e.Call y es) ≡ name y (exs_of es)
ex-Call y es = ap ex_of (sym (e.rolls-Call y es)) ∙ (fold-roll-Expr Ex Arms Joined Linked Linked ex_step arms_step link_step list_link_step sum_link_step (Expr-F.Call y es) ∙ ap (name y) (exs_are es))

pub ex-Unary : (o : UnaryForm) (p : Pos) (c : Expr) → ex_of (e.Unary o p c) ≡ unary o p (ex_of c)
ex-Unary o p c = ap ex_of (sym (e.rolls-Unary o p c)) ∙ fold-roll-Expr Ex Arms Joined Linked Linked ex_step arms_step link_step list_link_step sum_link_step (Expr-F.Unary o p c)

pub ex-Empty : (o : EmptyForm) (p : Pos) (w : Written) → ex_of (e.Empty o p w) ≡ empty o p (wr_of w)
ex-Empty o p w = ap ex_of (sym (e.rolls-Empty o p w)) ∙ fold-roll-Expr Ex Arms Joined Linked Linked ex_step arms_step link_step list_link_step sum_link_step (Expr-F.Empty o p w)

pub ex-Side : (o : SideForm) (p : Pos) (w : Written) (v : Written) (c : Expr) → ex_of (e.Side o p w v c) ≡ side o p (wr_of w) (wr_of v) (ex_of c)
ex-Side o p w v c = ap ex_of (sym (e.rolls-Side o p w v c)) ∙ fold-roll-Expr Ex Arms Joined Linked Linked ex_step arms_step link_step list_link_step sum_link_step (Expr-F.Side o p w v c)

pub ex-Div : (p : Pos) (c : Expr) (f : Expr) → ex_of (e.Div p c f) ≡ binary b.Div p (ex_of c) (ex_of f)
ex-Div p c f = ap ex_of (sym (e.rolls-Div p c f)) ∙ fold-roll-Expr Ex Arms Joined Linked Linked ex_step arms_step link_step list_link_step sum_link_step (Expr-F.Div p c f)

pub ex-Mod : (p : Pos) (c : Expr) (f : Expr) → ex_of (e.Mod p c f) ≡ binary b.Mod p (ex_of c) (ex_of f)
ex-Mod p c f = ap ex_of (sym (e.rolls-Mod p c f)) ∙ fold-roll-Expr Ex Arms Joined Linked Linked ex_step arms_step link_step list_link_step sum_link_step (Expr-F.Mod p c f)

pub ex-Pair : (p : Pos) (c : Expr) (f : Expr) → ex_of (e.Pair p c f) ≡ binary b.Pair p (ex_of c) (ex_of f)
ex-Pair p c f = ap ex_of (sym (e.rolls-Pair p c f)) ∙ fold-roll-Expr Ex Arms Joined Linked Linked ex_step arms_step link_step list_link_step sum_link_step (Expr-F.Pair p c f)

pub ex-Int : (p : Pos) (m : ℤ) → ex_of (e.Int p m) ≡ lit p (number m)
ex-Int p m = ap ex_of (sym (e.rolls-Int p m)) ∙ fold-roll-Expr Ex Arms Joined Linked Linked ex_step arms_step link_step list_link_step sum_link_step (Expr-F.Int p m)

pub ex-Text : (p : Pos) (x : List ℕ) → ex_of (e.Text p x) ≡ lit p (letters x)
ex-Text p x = ap ex_of (sym (e.rolls-Text p x)) ∙ fold-roll-Expr Ex Arms Joined Linked Linked ex_step arms_step link_step list_link_step sum_link_step (Expr-F.Text p x)

pub ex-Constant : (p : Pos) (q : Constant) → ex_of (e.Constant p q) ≡ lit p (constant_of q)
ex-Constant p q = ap ex_of (sym (e.rolls-Constant p q)) ∙ fold-roll-Expr Ex Arms Joined Linked Linked ex_step arms_step link_step list_link_step sum_link_step (Expr-F.Constant p q)

pub ex-Unit : (p : Pos) → ex_of (e.Unit p) ≡ lit p nothing_more
ex-Unit p = ap ex_of (sym (e.rolls-Unit p)) ∙ fold-roll-Expr Ex Arms Joined Linked Linked ex_step arms_step link_step list_link_step sum_link_step (Expr-F.Unit p)

pub ex-List : (p : Pos) (es : List Expr) → ex_of (e.List p es) ≡ items p (exs_of es)
ex-List p es = ap ex_of (sym (e.rolls-List p es)) ∙ (fold-roll-Expr Ex Arms Joined Linked Linked ex_step arms_step link_step list_link_step sum_link_step (Expr-F.List p es) ∙ ap (items p) (exs_are es))

pub ruleset ex_rules = (ex-If, ex-Case, ex-Let, ex-Or, ex-And, ex-Product, ex-Sum, ex-Cons, ex-Compare, ex-Call, ex-Unary, ex-Empty, ex-Side, ex-Div, ex-Mod, ex-Pair, ex-Int, ex-Text, ex-Constant, ex-Unit, ex-List)

pub arms-OfMaybe : (c : Expr) (y : Name) (f : Expr) → arms_of (a.OfMaybe c y f) ≡ maybe_arms (ex_of c) y (ex_of f)
arms-OfMaybe c y f = ap arms_of (sym (a.rolls-OfMaybe c y f)) ∙ fold-roll-ExprArms Ex Arms Joined Linked Linked ex_step arms_step link_step list_link_step sum_link_step (ExprArms-F.OfMaybe c y f)

pub arms-OfEither : (y : Name) (c : Expr) (z : Name) (f : Expr) → arms_of (a.OfEither y c z f) ≡ either_arms y (ex_of c) z (ex_of f)
arms-OfEither y c z f = ap arms_of (sym (a.rolls-OfEither y c z f)) ∙ fold-roll-ExprArms Ex Arms Joined Linked Linked ex_step arms_step link_step list_link_step sum_link_step (ExprArms-F.OfEither y c z f)

pub arms-OfList : (c : Expr) (y : Name) (z : Name) (f : Expr) → arms_of (a.OfList c y z f) ≡ list_arms (ex_of c) y z (ex_of f)
arms-OfList c y z f = ap arms_of (sym (a.rolls-OfList c y z f)) ∙ fold-roll-ExprArms Ex Arms Joined Linked Linked ex_step arms_step link_step list_link_step sum_link_step (ExprArms-F.OfList c y z f)

pub arms-OfPair : (y : Name) (z : Name) (c : Expr) → arms_of (a.OfPair y z c) ≡ pair_arms y z (ex_of c)
arms-OfPair y z c = ap arms_of (sym (a.rolls-OfPair y z c)) ∙ fold-roll-ExprArms Ex Arms Joined Linked Linked ex_step arms_step link_step list_link_step sum_link_step (ExprArms-F.OfPair y z c)

pub ruleset arms_rules = (arms-OfMaybe, arms-OfEither, arms-OfList, arms-OfPair)
