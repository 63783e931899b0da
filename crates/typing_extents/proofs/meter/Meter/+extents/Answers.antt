use Rattle.std.proofs.Common.{refl, ap, ◌∙◌, sym}
use Rattle.hs_base.specs.declared.tree.expr.ExprArms.{ExprArms}
use Rattle.hs_base.specs.declared.tree.forms.BinaryForm.TheVariants as bf
use Rattle.rules_expansion.specs.trees.Trees.{ex_of, exs_of, arms_of, links_of, sum_links_of, list_links_of}
use Rattle.rules_expansion.proofs.trees_lemmas.Equations.{ex-If, ex-Case, ex-Let, ex-Or, ex-And, ex-Product, ex-Sum, ex-Cons, ex-Compare, ex-Call, ex-List, ex-Unary, ex-Empty, ex-Side, ex-Div, ex-Mod, ex-Pair, ex-Int, ex-Text, ex-Constant, ex-Unit}
use Rattle.rules_typing.specs.TypingSizes as rule
use Rattle.typing_parts.specs.Views.{sigs_of}
use Rattle.typing_extents.proofs.Steps.{At, at, tree_at, ex_at, exs_at, name_at, under_at, links_at, arms_at, both, leaf, two, over_parts, higher_parts, tail0, tail2}
use Rattle.typing_extents.proofs.meter.Meter.+extents.Goals as goal

pub extent-returns-in-Int : goal.extent-returns-in-Int
extent-returns-in-Int t c =
    let gs = sigs_of c.args.funs.now.types.nodes c.args.funs.now.sigs in
    let o = c.args.self.now in
    let v = c.in-Int in
    leaf o c.nothing.result _ _ (ap (λ z. at (tree_at gs z) o) (ap ex_of v.is ∙ ex-Int _ _)) c.nothing.ensures c.over.ensures

pub extent-returns-in-Text : goal.extent-returns-in-Text
extent-returns-in-Text t c =
    let gs = sigs_of c.args.funs.now.types.nodes c.args.funs.now.sigs in
    let o = c.args.self.now in
    let v = c.in-Text in
    leaf o c.nothing-in-Text.result _ _ (ap (λ z. at (tree_at gs z) o) (ap ex_of v.is ∙ ex-Text _ _)) c.nothing-in-Text.ensures c.over-in-Text.ensures

pub extent-returns-in-Constant : goal.extent-returns-in-Constant
extent-returns-in-Constant t c =
    let gs = sigs_of c.args.funs.now.types.nodes c.args.funs.now.sigs in
    let o = c.args.self.now in
    let v = c.in-Constant in
    leaf o c.nothing-in-Constant.result _ _ (ap (λ z. at (tree_at gs z) o) (ap ex_of v.is ∙ ex-Constant _ _)) c.nothing-in-Constant.ensures c.over-in-Constant.ensures

pub extent-returns-in-Unit : goal.extent-returns-in-Unit
extent-returns-in-Unit t c =
    let gs = sigs_of c.args.funs.now.types.nodes c.args.funs.now.sigs in
    let o = c.args.self.now in
    let v = c.in-Unit in
    leaf o c.nothing-in-Unit.result _ _ (ap (λ z. at (tree_at gs z) o) (ap ex_of v.is ∙ ex-Unit _)) c.nothing-in-Unit.ensures c.over-in-Unit.ensures

pub extent-returns-in-Empty : goal.extent-returns-in-Empty
extent-returns-in-Empty t c =
    let gs = sigs_of c.args.funs.now.types.nodes c.args.funs.now.sigs in
    let o = c.args.self.now in
    let v = c.in-Empty in
    leaf o c.nothing-in-Empty.result _ _ (ap (λ z. at (tree_at gs z) o) (ap ex_of v.is ∙ ex-Empty _ _ _)) c.nothing-in-Empty.ensures c.over-in-Empty.ensures

pub extent-returns-in-Unary : goal.extent-returns-in-Unary
extent-returns-in-Unary t c =
    let gs = sigs_of c.args.funs.now.types.nodes c.args.funs.now.sigs in
    let o = c.args.self.now in
    let v = c.in-Unary in
    tail0 _ _ _ _ _ (ap (λ z. at (tree_at gs z) o) (ap ex_of v.is ∙ ex-Unary _ _ v.a) ∙ ap (λ z. rule.over (at (ex_at gs z) o)) (sym c.get.ensures)) c.around.ensures

pub extent-returns-in-Side : goal.extent-returns-in-Side
extent-returns-in-Side t c =
    let gs = sigs_of c.args.funs.now.types.nodes c.args.funs.now.sigs in
    let o = c.args.self.now in
    let v = c.in-Side in
    tail0 _ _ _ _ _ (ap (λ z. at (tree_at gs z) o) (ap ex_of v.is ∙ ex-Side _ _ _ _ v.a) ∙ ap (λ z. rule.over (at (ex_at gs z) o)) (sym c.get-in-Side.ensures)) c.around-in-Side.ensures

pub extent-returns-in-Compare : goal.extent-returns-in-Compare
extent-returns-in-Compare t c =
    let gs = sigs_of c.args.funs.now.types.nodes c.args.funs.now.sigs in
    let o = c.args.self.now in
    let v = c.in-Compare in
    tail0 _ _ _ _ _ (ap (λ z. at (tree_at gs z) o) (ap ex_of v.is ∙ ex-Compare v.a _ _ v.b) ∙ both (λ x y. rule.over (rule.beside (at (ex_at gs x) o) (at (ex_at gs y) o))) c.get-in-Compare.result.now v.a c.get-in-Compare-2.result.now v.b c.get-in-Compare.ensures c.get-in-Compare-2.ensures) c.around_both.ensures

pub extent-returns-in-Div : goal.extent-returns-in-Div
extent-returns-in-Div t c =
    let gs = sigs_of c.args.funs.now.types.nodes c.args.funs.now.sigs in
    let o = c.args.self.now in
    let v = c.in-Div in
    tail0 _ _ _ _ _ (ap (λ z. at (tree_at gs z) o) (ap ex_of v.is ∙ ex-Div _ v.a v.b) ∙ both (λ x y. rule.over (rule.beside (at (ex_at gs x) o) (at (ex_at gs y) o))) c.get-in-Div.result.now v.a c.get-in-Div-2.result.now v.b c.get-in-Div.ensures c.get-in-Div-2.ensures) c.around_both-in-Div.ensures

pub extent-returns-in-Mod : goal.extent-returns-in-Mod
extent-returns-in-Mod t c =
    let gs = sigs_of c.args.funs.now.types.nodes c.args.funs.now.sigs in
    let o = c.args.self.now in
    let v = c.in-Mod in
    tail0 _ _ _ _ _ (ap (λ z. at (tree_at gs z) o) (ap ex_of v.is ∙ ex-Mod _ v.a v.b) ∙ both (λ x y. rule.over (rule.beside (at (ex_at gs x) o) (at (ex_at gs y) o))) c.get-in-Mod.result.now v.a c.get-in-Mod-2.result.now v.b c.get-in-Mod.ensures c.get-in-Mod-2.ensures) c.around_both-in-Mod.ensures

pub extent-returns-in-Pair : goal.extent-returns-in-Pair
extent-returns-in-Pair t c =
    let gs = sigs_of c.args.funs.now.types.nodes c.args.funs.now.sigs in
    let o = c.args.self.now in
    let v = c.in-Pair in
    tail0 _ _ _ _ _ (ap (λ z. at (tree_at gs z) o) (ap ex_of v.is ∙ ex-Pair _ v.a v.b) ∙ both (λ x y. rule.over (rule.beside (at (ex_at gs x) o) (at (ex_at gs y) o))) c.get-in-Pair.result.now v.a c.get-in-Pair-2.result.now v.b c.get-in-Pair.ensures c.get-in-Pair-2.ensures) c.around_both-in-Pair.ensures

pub around_both-returns : goal.around_both-returns
around_both-returns t c =
    let gs = sigs_of c.args.funs.now.types.nodes c.args.funs.now.sigs in
    let o = c.args.self.now in
    tail2 o c.extent.new.self _ _ c.in_ok-x.x (at (ex_at gs c.args.a.now) o) _ (ex_at gs c.args.b.now) refl c.in_ok-x.ensures c.around_two.ensures

pub extent-returns-in-Or : goal.extent-returns-in-Or
extent-returns-in-Or t c =
    let gs = sigs_of c.args.funs.now.types.nodes c.args.funs.now.sigs in
    let o = c.args.self.now in
    let v = c.in-Or in
    tail0 _ _ _ _ _ (ap (λ z. at (tree_at gs z) o) (ap ex_of v.is ∙ ex-Or v.a v.ks) ∙ ap (λ z. rule.higher (rule.beside (at (ex_at gs z) o) (at (links_at gs (links_of bf.Or v.ks)) o))) (sym c.get-in-Or.ensures)) c.chain.ensures

pub extent-returns-in-And : goal.extent-returns-in-And
extent-returns-in-And t c =
    let gs = sigs_of c.args.funs.now.types.nodes c.args.funs.now.sigs in
    let o = c.args.self.now in
    let v = c.in-And in
    tail0 _ _ _ _ _ (ap (λ z. at (tree_at gs z) o) (ap ex_of v.is ∙ ex-And v.a v.ks) ∙ ap (λ z. rule.higher (rule.beside (at (ex_at gs z) o) (at (links_at gs (links_of bf.And v.ks)) o))) (sym c.get-in-And.ensures)) c.chain-in-And.ensures

pub extent-returns-in-Product : goal.extent-returns-in-Product
extent-returns-in-Product t c =
    let gs = sigs_of c.args.funs.now.types.nodes c.args.funs.now.sigs in
    let o = c.args.self.now in
    let v = c.in-Product in
    tail0 _ _ _ _ _ (ap (λ z. at (tree_at gs z) o) (ap ex_of v.is ∙ ex-Product v.a v.ks) ∙ ap (λ z. rule.higher (rule.beside (at (ex_at gs z) o) (at (links_at gs (links_of bf.Times v.ks)) o))) (sym c.get-in-Product.ensures)) c.chain-in-Product.ensures

pub chain-returns : goal.chain-returns
chain-returns t c =
    let gs = sigs_of c.args.funs.now.types.nodes c.args.funs.now.sigs in
    let o = c.args.self.now in
    let a = c.args.a.now in
    let k : At = links_at gs (links_of c.args.o c.args.ks.now) in
    higher_parts o c.links.new.self c.beside.result c.higher.result (rule.beside (at (ex_at gs a) o) (at k o)) _ refl
    (two o c.extent.new.self c.links.new.self c.in_ok-x.x c.in_ok-y.y c.beside.result (at (ex_at gs a) o) k c.in_ok-x.ensures c.in_ok-y.ensures c.beside.ensures)
    c.higher.ensures

pub extent-returns-in_ok-y-in-If : goal.extent-returns-in_ok-y-in-If
extent-returns-in_ok-y-in-If t c =
    let gs = sigs_of c.args.funs.now.types.nodes c.args.funs.now.sigs in
    let o = c.args.self.now in
    let v = c.in-If in
    let a = c.get-in-If.result.now in
    let b = c.get-in-If-2.result.now in
    let d = c.get-in-If-3.result.now in
    tail2 o c.extent-in-If.new.self _ _ c.beside.result (rule.beside (at (ex_at gs a) o) (at (ex_at gs b) o)) _ (ex_at gs d)
    (ap (λ z. at (tree_at gs z) o) (ap ex_of v.is ∙ ex-If _ v.c v.a v.b) ∙ (ap (λ z. rule.over (rule.beside (rule.beside (at (ex_at gs z) o) (at (ex_at gs v.a) o)) (at (ex_at gs v.b) o))) (sym c.get-in-If.ensures)
    ∙ both (λ x y. rule.over (rule.beside (rule.beside (at (ex_at gs a) o) (at (ex_at gs x) o)) (at (ex_at gs y) o))) b v.a d v.b c.get-in-If-2.ensures c.get-in-If-3.ensures))
    (two o c.extent.new.self c.extent-in-If.new.self c.in_ok-x-in-If.x c.in_ok-y-in-If.y c.beside.result (at (ex_at gs a) o) (ex_at gs b) c.in_ok-x-in-If.ensures c.in_ok-y-in-If.ensures c.beside.ensures)
    c.around_two.ensures

pub extent-returns-in_ok-y-in-Let : goal.extent-returns-in_ok-y-in-Let
extent-returns-in_ok-y-in-Let t c =
    let gs = sigs_of c.args.funs.now.types.nodes c.args.funs.now.sigs in
    let o = c.args.self.now in
    let v = c.in-Let in
    let a = c.get-in-Let.result.now in
    let b = c.get-in-Let-2.result.now in
    let k : At = under_at gs v.v b in
    over_parts o c.under.new.self c.beside-in-Let.result c.over-in-Let.result (rule.beside (at (ex_at gs a) o) (at k o)) _
    (ap (λ z. at (tree_at gs z) o) (ap ex_of v.is ∙ ex-Let _ v.v v.a v.b) ∙ both (λ x y. rule.over (rule.beside (at (ex_at gs x) o) (at (under_at gs v.v y) o))) a v.a b v.b c.get-in-Let.ensures c.get-in-Let-2.ensures)
    (two o c.extent-in-Let.new.self c.under.new.self c.in_ok-x-in-Let.x c.in_ok-y-in-Let.y c.beside-in-Let.result (at (ex_at gs a) o) k c.in_ok-x-in-Let.ensures c.in_ok-y-in-Let.ensures c.beside-in-Let.ensures)
    c.over-in-Let.ensures

pub extent-returns-in_ok-y-in-Sum : goal.extent-returns-in_ok-y-in-Sum
extent-returns-in_ok-y-in-Sum t c =
    let gs = sigs_of c.args.funs.now.types.nodes c.args.funs.now.sigs in
    let o = c.args.self.now in
    let v = c.in-Sum in
    let a = c.get-in-Sum.result.now in
    let k : At = links_at gs (sum_links_of v.ks) in
    higher_parts o c.sum_links.new.self c.beside-in-Sum.result c.higher.result (rule.beside (at (ex_at gs a) o) (at k o)) _
    (ap (λ z. at (tree_at gs z) o) (ap ex_of v.is ∙ ex-Sum v.a v.ks) ∙ ap (λ z. rule.higher (rule.beside (at (ex_at gs z) o) (at k o))) (sym c.get-in-Sum.ensures))
    (two o c.extent-in-Sum.new.self c.sum_links.new.self c.in_ok-x-in-Sum.x c.in_ok-y-in-Sum.y c.beside-in-Sum.result (at (ex_at gs a) o) k c.in_ok-x-in-Sum.ensures c.in_ok-y-in-Sum.ensures c.beside-in-Sum.ensures)
    c.higher.ensures

pub extent-returns-in_ok-y-in-Cons : goal.extent-returns-in_ok-y-in-Cons
extent-returns-in_ok-y-in-Cons t c =
    let gs = sigs_of c.args.funs.now.types.nodes c.args.funs.now.sigs in
    let o = c.args.self.now in
    let v = c.in-Cons in
    let a = c.get-in-Cons.result.now in
    let k : At = links_at gs (list_links_of v.ks) in
    higher_parts o c.list_links.new.self c.beside-in-Cons.result c.higher-in-Cons.result (rule.beside (at (ex_at gs a) o) (at k o)) _
    (ap (λ z. at (tree_at gs z) o) (ap ex_of v.is ∙ ex-Cons v.a v.ks) ∙ ap (λ z. rule.higher (rule.beside (at (ex_at gs z) o) (at k o))) (sym c.get-in-Cons.ensures))
    (two o c.extent-in-Cons.new.self c.list_links.new.self c.in_ok-x-in-Cons.x c.in_ok-y-in-Cons.y c.beside-in-Cons.result (at (ex_at gs a) o) k c.in_ok-x-in-Cons.ensures c.in_ok-y-in-Cons.ensures c.beside-in-Cons.ensures)
    c.higher-in-Cons.ensures

pub extent-returns-in_ok-y-in-Case : goal.extent-returns-in_ok-y-in-Case
extent-returns-in_ok-y-in-Case t c =
    let gs = sigs_of c.args.funs.now.types.nodes c.args.funs.now.sigs in
    let o = c.args.self.now in
    let v = c.in-Case in
    let a = c.get-in-Case.result.now in
    let g : ExprArms = c.get-in-Case-2.result.now in
    let k : At = arms_at gs (arms_of g) in
    over_parts o c.arms.new.self c.beside-in-Case.result c.over-in-Case.result (rule.beside (at (ex_at gs a) o) (at k o)) _
    (ap (λ z. at (tree_at gs z) o) (ap ex_of v.is ∙ ex-Case _ v.a v.arms) ∙ (ap (λ z. rule.over (rule.beside (at (ex_at gs z) o) (at (arms_at gs (arms_of v.arms)) o))) (sym c.get-in-Case.ensures) ∙ ap (λ z. rule.over (rule.beside (at (ex_at gs a) o) (at (arms_at gs (arms_of z)) o))) (sym c.get-in-Case-2.ensures)))
    (two o c.extent-in-Case.new.self c.arms.new.self c.in_ok-x-in-Case.x c.in_ok-y-in-Case.y c.beside-in-Case.result (at (ex_at gs a) o) k c.in_ok-x-in-Case.ensures c.in_ok-y-in-Case.ensures c.beside-in-Case.ensures)
    c.over-in-Case.ensures

pub extent-returns-in_ok-given-in-Call : goal.extent-returns-in_ok-given-in-Call
extent-returns-in_ok-given-in-Call t c =
    let gs = sigs_of c.args.funs.now.types.nodes c.args.funs.now.sigs in
    let o = c.args.self.now in
    let v = c.in-Call in
    let f = at (name_at gs v.f) o in
    let k : At = exs_at gs (exs_of v.es) in
    over_parts o c.parts.new.self c.beside-in-Call.result c.over-in-Call.result (rule.beside f (at k o)) _
    (ap (λ z. at (tree_at gs z) o) (ap ex_of v.is ∙ ex-Call v.f v.es))
    (two o o c.parts.new.self c.name-own.result c.in_ok-given-in-Call.given c.beside-in-Call.result f k c.name-own.ensures c.in_ok-given-in-Call.ensures c.beside-in-Call.ensures)
    c.over-in-Call.ensures

pub extent-returns-in_ok-parts-in-List : goal.extent-returns-in_ok-parts-in-List
extent-returns-in_ok-parts-in-List t c =
    let gs = sigs_of c.args.funs.now.types.nodes c.args.funs.now.sigs in
    let o = c.args.self.now in
    let v = c.in-List in
    over_parts o c.parts-in-List.new.self c.in_ok-parts-in-List.field-0 c.over-in-List.result (at (exs_at gs (exs_of v.es)) o) _
    (ap (λ z. at (tree_at gs z) o) (ap ex_of v.is ∙ ex-List _ v.es))
    c.in_ok-parts-in-List.ensures c.over-in-List.ensures
