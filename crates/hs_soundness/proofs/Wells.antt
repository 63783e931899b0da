-- The tree of an expression of a script has `&&` and `||` in chains from the left alone.
use Rattle.std.proofs.Common.{List, [], ◌∷◌, map, sym, subst}
use Rattle.hs_base.specs.declared.tree.expr.CompareOp.{CompareOp}
use Rattle.hs_base.specs.declared.tree.expr.CompareOp.TheVariants as c
use Rattle.hs_base.specs.declared.tree.expr.ConsOp.{ConsOp}
use Rattle.hs_base.specs.declared.tree.expr.ConsOp.TheVariants as l
use Rattle.hs_base.specs.declared.tree.expr.Expr.{Expr}
use Rattle.hs_base.specs.declared.tree.expr.ExprArms.{ExprArms}
use Rattle.hs_base.specs.declared.tree.expr.Link.{Link}
use Rattle.hs_base.specs.declared.tree.expr.ListLink.{ListLink}
use Rattle.hs_base.specs.declared.tree.expr.SumLink.{SumLink}
use Rattle.hs_base.specs.declared.tree.expr.Expr.TheOpen.{Expr-F, ExprArms-F}
use Rattle.hs_base.specs.declared.tree.expr.Expr.TheViews.{roll-Expr, roll-ExprArms, roll-Link, roll-ListLink, roll-SumLink}
use Rattle.hs_base.specs.declared.tree.expr.Expr.TheFolds.{map-Expr, map-ExprArms, fold-roll-Expr, fold-roll-ExprArms, fold-roll-Link, fold-roll-ListLink, fold-roll-SumLink, ind-Expr}
use Rattle.hs_base.specs.declared.tree.forms.BinaryForm.{BinaryForm}
use Rattle.rules_expansion.specs.trees.Trees.{Ex, Arms, Linked, Joined, to_exs, to_links, all_by, compare_form, cons_form, ex_step, arms_step, link_step, list_link_step, sum_link_step, ex_of, arms_of, joined_of, list_linked_of, sum_linked_of}
use Rattle.rules_sorts.specs.TypedMeaning.{IsStrict, Well, WellAll, WellLinks, WellConses, WellArms}

-- ---- parts with their proofs

abbrev WellListLinked : Linked → Type 0
WellListLinked k = IsStrict k.form × Well k.operand

abbrev WithExpr : Type 0
WithExpr = (e : Expr) × Well (ex_of e)

abbrev WithArms : Type 0
WithArms = (r : ExprArms) × WellArms (arms_of r)

abbrev WithLink : Type 0
WithLink = (k : Link) × Well (joined_of k).operand

abbrev WithListLink : Type 0
WithListLink = (k : ListLink) × WellListLinked (list_linked_of k)

abbrev WithSumLink : Type 0
WithSumLink = (k : SumLink) × Well (sum_linked_of k).operand

-- ---- lists of parts

all_well : (es : List WithExpr) → WellAll (to_exs (map ex_of (map (λ e. e.0) es)))
all_well [] = tt
all_well (e ∷ es) = (e.1, all_well es)

joined_well : (f : BinaryForm) (ks : List WithLink) → WellLinks (all_by f (map joined_of (map (λ k. k.0) ks)))
joined_well f [] = tt
joined_well f (k ∷ ks) = (k.1, joined_well f ks)

sums_well : (ks : List WithSumLink) → WellLinks (to_links (map sum_linked_of (map (λ k. k.0) ks)))
sums_well [] = tt
sums_well (k ∷ ks) = (k.1, sums_well ks)

conses_well : (ks : List WithListLink) → WellConses (to_links (map list_linked_of (map (λ k. k.0) ks)))
conses_well [] = tt
conses_well (k ∷ ks) = (k.1.0, k.1.1, conses_well ks)

compare_strict : (o : CompareOp) → IsStrict (compare_form o)
compare_strict c.Equal = tt
compare_strict c.Unequal = tt
compare_strict c.Less = tt
compare_strict c.AtMost = tt
compare_strict c.Greater = tt
compare_strict c.AtLeast = tt

cons_strict : (o : ConsOp) → IsStrict (cons_form o)
cons_strict l.Cons = tt
cons_strict l.Append = tt

-- ---- one layer of a tree, over parts with their proofs

abbrev plain_expr : Expr-F WithExpr WithArms WithLink WithListLink WithSumLink → Expr-F Expr ExprArms Link ListLink SumLink
plain_expr y = map-Expr WithExpr WithArms WithLink WithListLink WithSumLink Expr ExprArms Link ListLink SumLink (λ e. e.0) (λ e. e.0) (λ e. e.0) (λ e. e.0) (λ e. e.0) y

abbrev plain_arms : ExprArms-F WithExpr WithArms WithLink WithListLink WithSumLink → ExprArms-F Expr ExprArms Link ListLink SumLink
plain_arms y = map-ExprArms WithExpr WithArms WithLink WithListLink WithSumLink Expr ExprArms Link ListLink SumLink (λ e. e.0) (λ e. e.0) (λ e. e.0) (λ e. e.0) (λ e. e.0) y

expr_step : (y : Expr-F WithExpr WithArms WithLink WithListLink WithSumLink) → Well (ex_step (map-Expr Expr ExprArms Link ListLink SumLink Ex Arms Joined Linked Linked ex_of arms_of joined_of list_linked_of sum_linked_of (plain_expr y)))
expr_step (Expr-F.If p e f g) = (e.1, f.1, g.1)
expr_step (Expr-F.Case p e r) = (e.1, r.1)
expr_step (Expr-F.Let p x e f) = (e.1, f.1)
expr_step (Expr-F.Or e ks) = (e.1, joined_well _ ks)
expr_step (Expr-F.And e ks) = (e.1, joined_well _ ks)
expr_step (Expr-F.Compare e o p f) = (compare_strict o, e.1, f.1)
expr_step (Expr-F.Cons e ks) = (e.1, conses_well ks)
expr_step (Expr-F.Sum e ks) = (e.1, sums_well ks)
expr_step (Expr-F.Product e ks) = (e.1, joined_well _ ks)
expr_step (Expr-F.Call f es) = all_well es
expr_step (Expr-F.Unary o p e) = e.1
expr_step (Expr-F.Empty o p w) = tt
expr_step (Expr-F.Side o p w v e) = e.1
expr_step (Expr-F.Div p e f) = (tt, e.1, f.1)
expr_step (Expr-F.Mod p e f) = (tt, e.1, f.1)
expr_step (Expr-F.Int p m) = tt
expr_step (Expr-F.Text p t) = tt
expr_step (Expr-F.Constant p k) = tt
expr_step (Expr-F.Unit p) = tt
expr_step (Expr-F.Pair p e f) = (tt, e.1, f.1)
expr_step (Expr-F.List p es) = all_well es

arms_well : (y : ExprArms-F WithExpr WithArms WithLink WithListLink WithSumLink) → WellArms (arms_step (map-ExprArms Expr ExprArms Link ListLink SumLink Ex Arms Joined Linked Linked ex_of arms_of joined_of list_linked_of sum_linked_of (plain_arms y)))
arms_well (ExprArms-F.OfMaybe e x f) = (e.1, f.1)
arms_well (ExprArms-F.OfEither x e y f) = (e.1, f.1)
arms_well (ExprArms-F.OfList e x y f) = (e.1, f.1)
arms_well (ExprArms-F.OfPair x y e) = e.1

-- ---- whole trees

-- y is x with a proof beside each part
pub ex_well : (e : Expr) → Well (ex_of e)
ex_well =
    ind-Expr (λ e. Well (ex_of e)) (λ r. WellArms (arms_of r)) (λ k. Well (joined_of k).operand) (λ k. WellListLinked (list_linked_of k)) (λ k. Well (sum_linked_of k).operand)
    (λ x y is. subst (λ z. Well (ex_of (roll-Expr z))) is (subst Well (sym (fold-roll-Expr Ex Arms Joined Linked Linked ex_step arms_step link_step list_link_step sum_link_step (plain_expr y))) (expr_step y)))
    (λ x y is. subst (λ z. WellArms (arms_of (roll-ExprArms z))) is (subst WellArms (sym (fold-roll-ExprArms Ex Arms Joined Linked Linked ex_step arms_step link_step list_link_step sum_link_step (plain_arms y))) (arms_well y)))
    (λ x y is. subst (λ z. Well (joined_of (roll-Link z)).operand) is (subst (λ k. Well k.operand) (sym (fold-roll-Link Ex Arms Joined Linked Linked ex_step arms_step link_step list_link_step sum_link_step _)) y.operand.1))
    (λ x y is. subst (λ z. WellListLinked (list_linked_of (roll-ListLink z))) is (subst WellListLinked (sym (fold-roll-ListLink Ex Arms Joined Linked Linked ex_step arms_step link_step list_link_step sum_link_step _)) (cons_strict y.op, y.operand.1)))
    (λ x y is. subst (λ z. Well (sum_linked_of (roll-SumLink z)).operand) is (subst (λ k. Well k.operand) (sym (fold-roll-SumLink Ex Arms Joined Linked Linked ex_step arms_step link_step list_link_step sum_link_step _)) y.operand.1))
