-- The abstract syntax of a script as the rules see it (own): one clean tree for each sort of the grammar, forms of one
-- shape under one constructor. `ty_of`, `ex_of`, `act_of`, `bl_of` and `script_of` say which clean tree a tree of the
-- program's is.
use Rattle.std.specs.Prelude.{ℤ, ℕ, List, [], ◌∷◌, map, Bool, true, false}
use Rattle.hs_base.specs.declared.exn.Exn.{Exn}
use Rattle.hs_base.specs.declared.exn.Exn.TheVariants as x
use Rattle.hs_base.specs.declared.pos.Pos.{Pos}
use Rattle.hs_base.specs.declared.tree.ty.Ty.{Ty}
use Rattle.hs_base.specs.declared.tree.ty.Ty.TheOpen.{Ty-F}
use Rattle.hs_base.specs.declared.tree.ty.Ty.TheFolds.{fold-Ty}
use Rattle.hs_base.specs.declared.tree.ty.Written.{Written}
use Rattle.hs_base.specs.declared.tree.expr.Name.{Name}
use Rattle.hs_base.specs.declared.tree.expr.CompareOp.{CompareOp}
use Rattle.hs_base.specs.declared.tree.expr.CompareOp.TheVariants as c
use Rattle.hs_base.specs.declared.tree.expr.ConsOp.{ConsOp}
use Rattle.hs_base.specs.declared.tree.expr.ConsOp.TheVariants as l
use Rattle.hs_base.specs.declared.tree.expr.SumOp.{SumOp}
use Rattle.hs_base.specs.declared.tree.expr.SumOp.TheVariants as s
use Rattle.hs_base.specs.declared.tree.expr.Constant.{Constant}
use Rattle.hs_base.specs.declared.tree.expr.Constant.TheVariants as k
use Rattle.hs_base.specs.declared.tree.expr.Expr.{Expr}
use Rattle.hs_base.specs.declared.tree.expr.ExprArms.{ExprArms}
use Rattle.hs_base.specs.declared.tree.expr.Link.{Link}
use Rattle.hs_base.specs.declared.tree.expr.ListLink.{ListLink}
use Rattle.hs_base.specs.declared.tree.expr.SumLink.{SumLink}
use Rattle.hs_base.specs.declared.tree.expr.Expr.TheOpen.{Expr-F, ExprArms-F, Link-F, ListLink-F, SumLink-F}
use Rattle.hs_base.specs.declared.tree.expr.Expr.TheFolds.{fold-Expr, fold-ExprArms, fold-Link, fold-ListLink, fold-SumLink}
use Rattle.hs_base.specs.declared.tree.forms.UnaryForm.{UnaryForm}
use Rattle.hs_base.specs.declared.tree.forms.BinaryForm.{BinaryForm}
use Rattle.hs_base.specs.declared.tree.forms.BinaryForm.TheVariants as b
use Rattle.hs_base.specs.declared.tree.forms.EmptyForm.{EmptyForm}
use Rattle.hs_base.specs.declared.tree.forms.SideForm.{SideForm}

-- ---- types

pub data T : Type 0 where
  unit : T
  int : T
  bool : T
  text : T
  thread : T
  exn : T
  pair : T → T → T
  maybe : T → T
  either : T → T → T
  list : T → T
  cell : T → T
  -- `Async a`
  async : T → T

abbrev pub ty_step : Ty-F T → T
ty_step Ty-F.Unit = unit
ty_step Ty-F.Int = int
ty_step Ty-F.Bool = bool
ty_step Ty-F.Text = text
ty_step Ty-F.Thread = thread
ty_step Ty-F.Exn = exn
ty_step (Ty-F.Pair a b) = pair a b
ty_step (Ty-F.Maybe a) = maybe a
ty_step (Ty-F.Either a b) = either a b
ty_step (Ty-F.List a) = list a
ty_step (Ty-F.Cell a) = cell a
ty_step (Ty-F.Async a) = async a

abbrev pub ty_of : Ty → T
ty_of = fold-Ty T ty_step

-- a written type, at its first token
pub record Wr : Type 0 where
  pub ty : T
  pub pos : Pos

abbrev pub wr_of : Written → Wr
wr_of w = record { ty = ty_of w.ty; pos = w.pos }

-- ---- expressions

pub data Lit : Type 0 where
  number : ℤ → Lit
  letters : List ℕ → Lit
  truth : Bool → Lit
  nothing_more : Lit
  exception : Exn → Lit

mutual
  pub data Ex : Type 0 where
    lit : Pos → Lit → Ex
    -- a name alone, or a call
    name : Name → Exs → Ex
    unary : UnaryForm → Pos → Ex → Ex
    binary : BinaryForm → Pos → Ex → Ex → Ex
    -- a chain of operators that groups from the left
    chain : Ex → Links → Ex
    -- a chain of `:` and `++`, which groups from the right
    conses : Ex → Links → Ex
    choose : Pos → Ex → Ex → Ex → Ex
    items : Pos → Exs → Ex
    empty : EmptyForm → Pos → Wr → Ex
    side : SideForm → Pos → Wr → Wr → Ex → Ex
    -- let x = a in b
    given : Name → Ex → Ex → Ex
    case : Pos → Ex → Arms → Ex

  pub data Exs : Type 0 where
    none : Exs
    more : Ex → Exs → Exs

  pub data Links : Type 0 where
    end : Links
    link : BinaryForm → Pos → Ex → Links → Links

  pub data Arms : Type 0 where
    maybe_arms : Ex → Name → Ex → Arms
    either_arms : Name → Ex → Name → Ex → Arms
    list_arms : Ex → Name → Name → Ex → Arms
    pair_arms : Name → Name → Ex → Arms

abbrev pub constant_of : Constant → Lit
constant_of k.True = truth true
constant_of k.False = truth false
constant_of k.ThreadKilled = exception x.ThreadKilled
constant_of k.UserInterrupt = exception x.UserInterrupt
constant_of k.DivideByZero = exception x.DivideByZero
constant_of k.Overflow = exception x.Overflow

abbrev pub compare_form : CompareOp → BinaryForm
compare_form c.Equal = b.Equal
compare_form c.Unequal = b.Unequal
compare_form c.Less = b.Less
compare_form c.AtMost = b.AtMost
compare_form c.Greater = b.Greater
compare_form c.AtLeast = b.AtLeast

abbrev pub sum_form : SumOp → BinaryForm
sum_form s.Plus = b.Plus
sum_form s.Minus = b.Minus

abbrev pub cons_form : ConsOp → BinaryForm
cons_form l.Cons = b.Cons
cons_form l.Append = b.Append

abbrev pub to_exs : List Ex → Exs
to_exs [] = none
to_exs (e ∷ es) = more e (to_exs es)

-- links of one operator, and links that name theirs
pub record Linked : Type 0 where
  pub form : BinaryForm
  pub pos : Pos
  pub operand : Ex

pub record Joined : Type 0 where
  pub pos : Pos
  pub operand : Ex

abbrev pub to_links : List Linked → Links
to_links [] = end
to_links (k ∷ ks) = link k.form k.pos k.operand (to_links ks)

abbrev pub all_by : BinaryForm → List Joined → Links
all_by f [] = end
all_by f (k ∷ ks) = link f k.pos k.operand (all_by f ks)

abbrev pub ex_step : Expr-F Ex Arms Joined Linked Linked → Ex
ex_step (Expr-F.If p e f g) = choose p e f g
ex_step (Expr-F.Case p e arms) = case p e arms
ex_step (Expr-F.Let p y e f) = given y e f
ex_step (Expr-F.Or e ks) = chain e (all_by b.Or ks)
ex_step (Expr-F.And e ks) = chain e (all_by b.And ks)
ex_step (Expr-F.Compare e op p f) = binary (compare_form op) p e f
ex_step (Expr-F.Cons e ks) = conses e (to_links ks)
ex_step (Expr-F.Sum e ks) = chain e (to_links ks)
ex_step (Expr-F.Product e ks) = chain e (all_by b.Times ks)
ex_step (Expr-F.Call f es) = name f (to_exs es)
ex_step (Expr-F.Empty o p w) = empty o p (wr_of w)
ex_step (Expr-F.Side o p w v e) = side o p (wr_of w) (wr_of v) e
ex_step (Expr-F.Unary o p e) = unary o p e
ex_step (Expr-F.Div p e f) = binary b.Div p e f
ex_step (Expr-F.Mod p e f) = binary b.Mod p e f
ex_step (Expr-F.Int p m) = lit p (number m)
ex_step (Expr-F.Text p t) = lit p (letters t)
ex_step (Expr-F.Constant p q) = lit p (constant_of q)
ex_step (Expr-F.Unit p) = lit p nothing_more
ex_step (Expr-F.Pair p e f) = binary b.Pair p e f
ex_step (Expr-F.List p es) = items p (to_exs es)

abbrev pub arms_step : ExprArms-F Ex Arms Joined Linked Linked → Arms
arms_step (ExprArms-F.OfMaybe e y f) = maybe_arms e y f
arms_step (ExprArms-F.OfEither y e z f) = either_arms y e z f
arms_step (ExprArms-F.OfList e y z f) = list_arms e y z f
arms_step (ExprArms-F.OfPair y z e) = pair_arms y z e

abbrev pub link_step : Link-F Ex Arms Joined Linked Linked → Joined
link_step k = record { pos = k.pos; operand = k.operand }

abbrev pub list_link_step : ListLink-F Ex Arms Joined Linked Linked → Linked
list_link_step k = record { form = cons_form k.op; pos = k.pos; operand = k.operand }

abbrev pub sum_link_step : SumLink-F Ex Arms Joined Linked Linked → Linked
sum_link_step k = record { form = sum_form k.op; pos = k.pos; operand = k.operand }

abbrev pub ex_of : Expr → Ex
ex_of = fold-Expr Ex Arms Joined Linked Linked ex_step arms_step link_step list_link_step sum_link_step

abbrev pub arms_of : ExprArms → Arms
arms_of = fold-ExprArms Ex Arms Joined Linked Linked ex_step arms_step link_step list_link_step sum_link_step

abbrev pub joined_of : Link → Joined
joined_of = fold-Link Ex Arms Joined Linked Linked ex_step arms_step link_step list_link_step sum_link_step

abbrev pub list_linked_of : ListLink → Linked
list_linked_of = fold-ListLink Ex Arms Joined Linked Linked ex_step arms_step link_step list_link_step sum_link_step

abbrev pub sum_linked_of : SumLink → Linked
sum_linked_of = fold-SumLink Ex Arms Joined Linked Linked ex_step arms_step link_step list_link_step sum_link_step

-- the trees of a list of expressions, and of the links of a chain
abbrev pub exs_of : List Expr → Exs
exs_of [] = none
exs_of (e ∷ es) = more (ex_of e) (exs_of es)

abbrev pub links_of : BinaryForm → List Link → Links
links_of f [] = end
links_of f (k ∷ ks) = link f k.pos (ex_of k.operand) (links_of f ks)

abbrev pub list_links_of : List ListLink → Links
list_links_of [] = end
list_links_of (k ∷ ks) = link (cons_form k.op) k.pos (ex_of k.operand) (list_links_of ks)

abbrev pub sum_links_of : List SumLink → Links
sum_links_of [] = end
sum_links_of (k ∷ ks) = link (sum_form k.op) k.pos (ex_of k.operand) (sum_links_of ks)
