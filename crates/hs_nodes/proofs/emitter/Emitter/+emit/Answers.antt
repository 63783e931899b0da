-- What each function answers, step by step: the nodes of its parts, and then its own.
use Rattle.std.proofs.Common.{ap, ◌∙◌, sym, subst, refl, ◌∷◌, ◌++◌, ◌+◌, length, drop, get_or, arith}
use Rattle.std.specs.Prelude.{IfOk}
use Rattle.hs_base.specs.declared.tree.forms.BinaryForm.TheVariants as b
use Rattle.rules_expansion.specs.trees.Trees.{ex_of, exs_of, wr_of, arms_of, links_of, sum_links_of, list_links_of, compare_form, sum_form, cons_form, nothing_more, lit, name, unary, binary, chain, conses, choose, items, empty, side, given, case, maybe_arms, either_arms, list_arms, pair_arms}
use Rattle.rules_expansion.proofs.trees_lemmas.Equations.{ex-If, ex-Case, ex-Let, ex-Or, ex-And, ex-Product, ex-Sum, ex-Cons, ex-Compare, ex-Call, ex-Unary, ex-Empty, ex-Side, ex-Div, ex-Mod, ex-Pair, ex-Unit, ex-List, arms-OfMaybe, arms-OfEither, arms-OfList, arms-OfPair}
use Rattle.rules_expansion.specs.Names.{Written}
use Rattle.rules_code.specs.declared.node.Node.TheVariants as n
use Rattle.hs_nodes.specs.declared.names.ScopedName.TheVariants as w
use Rattle.hs_nodes.specs.Names.{scope_of}
use Rattle.hs_nodes.specs.Emitting.{own1, own2, nodes_of, all_nodes, ids_of, link_nodes, node_links, arm_nodes, two_nodes, Emitted}
use Rattle.hs_nodes.proofs.Steps.{IsAdded, alone, all_ended, owned, following_by, behind, two, three, under, as_form, as_arms, all_step, link_step, links-drop, sum_links-drop, list_links-drop}
use Rattle.hs_nodes.proofs.emitter.Emitter.+emit.Goals as goal

pub expr-returns-in-Unary : goal.expr-returns-in-Unary
expr-returns-in-Unary t c =
    as_form c.single.result c.args.self.now _ c.args.places.now.all (ex_of c.args.e.now) (unary c.in-Unary.form c.in-Unary.field-1 (ex_of c.in-Unary.a)) (ap ex_of c.in-Unary.is ∙ ex-Unary c.in-Unary.form c.in-Unary.field-1 c.in-Unary.a)
    (c.single.ensures)

pub expr-returns-in-Side : goal.expr-returns-in-Side
expr-returns-in-Side t c =
    as_form c.aside.result c.args.self.now _ c.args.places.now.all (ex_of c.args.e.now) (side c.in-Side.form c.in-Side.field-1 (wr_of c.in-Side.field-2) (wr_of c.in-Side.field-3) (ex_of c.in-Side.a)) (ap ex_of c.in-Side.is ∙ ex-Side c.in-Side.form c.in-Side.field-1 c.in-Side.field-2 c.in-Side.field-3 c.in-Side.a)
    (c.aside.ensures)

pub expr-returns-in-Empty : goal.expr-returns-in-Empty
expr-returns-in-Empty t c =
    as_form c.add.result c.args.self.now _ c.args.places.now.all (ex_of c.args.e.now) (empty c.in-Empty.form c.in-Empty.field-1 (wr_of c.in-Empty.field-2)) (ap ex_of c.in-Empty.is ∙ ex-Empty c.in-Empty.form c.in-Empty.field-1 c.in-Empty.field-2)
    (alone c.add.result c.args.self.now c.add.new.self (n.Empty c.in-Empty.form) c.add.ensures)

pub expr-returns-in-Call : goal.expr-returns-in-Call
expr-returns-in-Call t c =
    as_form c.call.result c.args.self.now _ c.args.places.now.all (ex_of c.args.e.now) (name c.in-Call.x (exs_of c.in-Call.es)) (ap ex_of c.in-Call.is ∙ ex-Call c.in-Call.x c.in-Call.es)
    (c.call.ensures)

pub expr-returns-in-List : goal.expr-returns-in-List
expr-returns-in-List t c =
    as_form c.items.result c.args.self.now _ c.args.places.now.all (ex_of c.args.e.now) (items c.in-List.field-0 (exs_of c.in-List.es)) (ap ex_of c.in-List.is ∙ ex-List c.in-List.field-0 c.in-List.es)
    (c.items.ensures)

pub expr-returns-in-Unit : goal.expr-returns-in-Unit
expr-returns-in-Unit t c =
    as_form c.add-in-Unit.result c.args.self.now _ c.args.places.now.all (ex_of c.args.e.now) (lit c.in-Unit.field-0 nothing_more) (ap ex_of c.in-Unit.is ∙ ex-Unit c.in-Unit.field-0)
    (alone c.add-in-Unit.result c.args.self.now c.add-in-Unit.new.self (n.Unit) c.add-in-Unit.ensures)

pub expr-returns-in-Div : goal.expr-returns-in-Div
expr-returns-in-Div t c =
    as_form c.both-in-Div.result c.args.self.now _ c.args.places.now.all (ex_of c.args.e.now) (binary b.Div c.in-Div.field-0 (ex_of c.in-Div.a) (ex_of c.in-Div.b)) (ap ex_of c.in-Div.is ∙ ex-Div c.in-Div.field-0 c.in-Div.a c.in-Div.b)
    (c.both-in-Div.ensures)

pub expr-returns-in-Pair : goal.expr-returns-in-Pair
expr-returns-in-Pair t c =
    as_form c.both-in-Pair.result c.args.self.now _ c.args.places.now.all (ex_of c.args.e.now) (binary b.Pair c.in-Pair.field-0 (ex_of c.in-Pair.a) (ex_of c.in-Pair.b)) (ap ex_of c.in-Pair.is ∙ ex-Pair c.in-Pair.field-0 c.in-Pair.a c.in-Pair.b)
    (c.both-in-Pair.ensures)

pub expr-returns-in-Compare : goal.expr-returns-in-Compare
expr-returns-in-Compare t c =
    as_form c.both.result c.args.self.now _ c.args.places.now.all (ex_of c.args.e.now) (binary (compare_form c.in-Compare.op) c.in-Compare.field-2 (ex_of c.in-Compare.a) (ex_of c.in-Compare.b)) (ap ex_of c.in-Compare.is ∙ ex-Compare c.in-Compare.a c.in-Compare.op c.in-Compare.field-2 c.in-Compare.b)
    (subst (λ f. IfOk c.both.result (λ id. Emitted c.args.self.now c.both.new.self id (two_nodes c.args.places.now.all (scope_of c.args.self.now.scope) (length c.args.self.now.nodes) (ex_of c.in-Compare.a) (ex_of c.in-Compare.b) (n.Binary f)))) c.compare_form.ensures c.both.ensures)

pub expr-returns-in_ok-i-in-Let : goal.expr-returns-in_ok-i-in-Let
expr-returns-in_ok-i-in-Let t c =
    as_form c.given.result c.args.self.now _ c.args.places.now.all (ex_of c.args.e.now) (given c.in-Let.x (ex_of c.in-Let.a) (ex_of c.in-Let.b)) (ap ex_of c.in-Let.is ∙ ex-Let c.in-Let.field-0 c.in-Let.x c.in-Let.a c.in-Let.b)
    (two c.given.result c.args.self.now c.part-in-Let.new.self _ c.in_ok-i-in-Let.i (nodes_of c.args.places.now.all (scope_of c.args.self.now.scope) (length c.args.self.now.nodes) (ex_of c.in-Let.a)) (λ s m. nodes_of c.args.places.now.all (Written c.in-Let.x.text ∷ s) m (ex_of c.in-Let.b)) n.Let c.in_ok-i-in-Let.ensures c.given.ensures)

pub expr-returns-in_ok-i-in-If : goal.expr-returns-in_ok-i-in-If
expr-returns-in_ok-i-in-If t c =
    as_form c.third.result c.args.self.now _ c.args.places.now.all (ex_of c.args.e.now) (choose c.in-If.field-0 (ex_of c.in-If.c) (ex_of c.in-If.a) (ex_of c.in-If.b)) (ap ex_of c.in-If.is ∙ ex-If c.in-If.field-0 c.in-If.c c.in-If.a c.in-If.b)
    (three c.third.result c.args.self.now c.part.new.self c.part-in-If.new.self _ c.in_ok-h-in-If.h c.in_ok-i-in-If.i (nodes_of c.args.places.now.all (scope_of c.args.self.now.scope) (length c.args.self.now.nodes) (ex_of c.in-If.c)) (λ s m. nodes_of c.args.places.now.all s m (ex_of c.in-If.a)) (λ s m. nodes_of c.args.places.now.all s m (ex_of c.in-If.b)) n.If c.in_ok-h-in-If.ensures c.in_ok-i-in-If.ensures c.third.ensures)

pub expr-returns-in-Mod : goal.expr-returns-in-Mod
expr-returns-in-Mod t c =
    as_form c.both-in-Mod.result c.args.self.now _ c.args.places.now.all (ex_of c.args.e.now) (binary b.Mod c.in-Mod.field-0 (ex_of c.in-Mod.a) (ex_of c.in-Mod.b)) (ap ex_of c.in-Mod.is ∙ ex-Mod c.in-Mod.field-0 c.in-Mod.a c.in-Mod.b)
    (c.both-in-Mod.ensures)

pub expr-returns-in_ok-h-in-Case : goal.expr-returns-in_ok-h-in-Case
expr-returns-in_ok-h-in-Case t c =
    as_form c.arms.result c.args.self.now _ c.args.places.now.all (ex_of c.args.e.now) (case c.in-Case.field-0 (ex_of c.in-Case.c) (arms_of c.get.result.now)) (ap ex_of c.in-Case.is ∙ (ex-Case c.in-Case.field-0 c.in-Case.c c.in-Case.arms ∙ ap (λ z. case c.in-Case.field-0 (ex_of c.in-Case.c) (arms_of z)) (sym c.get.ensures)))
    (following_by c.arms.result c.args.self.now c.part-in-Case.new.self _ c.in_ok-h-in-Case.h (nodes_of c.args.places.now.all (scope_of c.args.self.now.scope) (length c.args.self.now.nodes) (ex_of c.in-Case.c)) (λ j s m. arm_nodes c.args.places.now.all s m j (arms_of c.get.result.now)) c.in_ok-h-in-Case.ensures c.arms.ensures)

pub expr-returns-in_ok-i-in-Or : goal.expr-returns-in_ok-i-in-Or
expr-returns-in_ok-i-in-Or t c =
    as_form c.chain.result c.args.self.now _ c.args.places.now.all (ex_of c.args.e.now) (chain (ex_of c.in-Or.a) (links_of b.Or c.in-Or.links)) (ap ex_of c.in-Or.is ∙ ex-Or c.in-Or.a c.in-Or.links)
    (behind c.chain.result c.args.self.now c.part-in-Or.new.self _ c.in_ok-i-in-Or.i (nodes_of c.args.places.now.all (scope_of c.args.self.now.scope) (length c.args.self.now.nodes) (ex_of c.in-Or.a)) (λ s m. link_nodes c.args.places.now.all s m (links_of b.Or c.in-Or.links)) (λ j s m. n.Chain j (node_links c.args.places.now.all s m (links_of b.Or c.in-Or.links))) c.in_ok-i-in-Or.ensures c.chain.ensures)

pub expr-returns-in_ok-i-in-And : goal.expr-returns-in_ok-i-in-And
expr-returns-in_ok-i-in-And t c =
    as_form c.chain-in-And.result c.args.self.now _ c.args.places.now.all (ex_of c.args.e.now) (chain (ex_of c.in-And.a) (links_of b.And c.in-And.links)) (ap ex_of c.in-And.is ∙ ex-And c.in-And.a c.in-And.links)
    (behind c.chain-in-And.result c.args.self.now c.part-in-And.new.self _ c.in_ok-i-in-And.i (nodes_of c.args.places.now.all (scope_of c.args.self.now.scope) (length c.args.self.now.nodes) (ex_of c.in-And.a)) (λ s m. link_nodes c.args.places.now.all s m (links_of b.And c.in-And.links)) (λ j s m. n.Chain j (node_links c.args.places.now.all s m (links_of b.And c.in-And.links))) c.in_ok-i-in-And.ensures c.chain-in-And.ensures)

pub expr-returns-in_ok-i-in-Product : goal.expr-returns-in_ok-i-in-Product
expr-returns-in_ok-i-in-Product t c =
    as_form c.chain-in-Product.result c.args.self.now _ c.args.places.now.all (ex_of c.args.e.now) (chain (ex_of c.in-Product.a) (links_of b.Times c.in-Product.links)) (ap ex_of c.in-Product.is ∙ ex-Product c.in-Product.a c.in-Product.links)
    (behind c.chain-in-Product.result c.args.self.now c.part-in-Product.new.self _ c.in_ok-i-in-Product.i (nodes_of c.args.places.now.all (scope_of c.args.self.now.scope) (length c.args.self.now.nodes) (ex_of c.in-Product.a)) (λ s m. link_nodes c.args.places.now.all s m (links_of b.Times c.in-Product.links)) (λ j s m. n.Chain j (node_links c.args.places.now.all s m (links_of b.Times c.in-Product.links))) c.in_ok-i-in-Product.ensures c.chain-in-Product.ensures)

pub expr-returns-in_ok-i-in-Sum : goal.expr-returns-in_ok-i-in-Sum
expr-returns-in_ok-i-in-Sum t c =
    as_form c.sum_chain.result c.args.self.now _ c.args.places.now.all (ex_of c.args.e.now) (chain (ex_of c.in-Sum.a) (sum_links_of c.in-Sum.links)) (ap ex_of c.in-Sum.is ∙ ex-Sum c.in-Sum.a c.in-Sum.links)
    (behind c.sum_chain.result c.args.self.now c.part-in-Sum.new.self _ c.in_ok-i-in-Sum.i (nodes_of c.args.places.now.all (scope_of c.args.self.now.scope) (length c.args.self.now.nodes) (ex_of c.in-Sum.a)) (λ s m. link_nodes c.args.places.now.all s m (sum_links_of c.in-Sum.links)) (λ j s m. n.Chain j (node_links c.args.places.now.all s m (sum_links_of c.in-Sum.links))) c.in_ok-i-in-Sum.ensures c.sum_chain.ensures)

pub expr-returns-in_ok-i-in-Cons : goal.expr-returns-in_ok-i-in-Cons
expr-returns-in_ok-i-in-Cons t c =
    as_form c.conses.result c.args.self.now _ c.args.places.now.all (ex_of c.args.e.now) (conses (ex_of c.in-Cons.a) (list_links_of c.in-Cons.links)) (ap ex_of c.in-Cons.is ∙ ex-Cons c.in-Cons.a c.in-Cons.links)
    (behind c.conses.result c.args.self.now c.part-in-Cons.new.self _ c.in_ok-i-in-Cons.i (nodes_of c.args.places.now.all (scope_of c.args.self.now.scope) (length c.args.self.now.nodes) (ex_of c.in-Cons.a)) (λ s m. link_nodes c.args.places.now.all s m (list_links_of c.in-Cons.links)) (λ j s m. n.Conses j (node_links c.args.places.now.all s m (list_links_of c.in-Cons.links))) c.in_ok-i-in-Cons.ensures c.conses.ensures)

pub part-returns : goal.part-returns
part-returns t c =
    subst (λ z. IfOk c.expr.result (λ id. Emitted c.args.self.now c.expr.new.self id (nodes_of c.args.places.now.all (scope_of c.args.self.now.scope) (length c.args.self.now.nodes) (ex_of z)))) c.get.ensures c.expr.ensures

pub single-returns : goal.single-returns
single-returns t c =
    subst (λ z. IfOk c.unary.result (λ id. Emitted c.args.self.now c.unary.new.self id (own1 (length c.args.self.now.nodes) (nodes_of c.args.places.now.all (scope_of c.args.self.now.scope) (length c.args.self.now.nodes) (ex_of z)) (n.Unary c.args.form)))) c.get.ensures
    (owned c.unary.result c.args.self.now c.expr.new.self c.unary.new.self c.in_ok-i.i (nodes_of c.args.places.now.all (scope_of c.args.self.now.scope) (length c.args.self.now.nodes) (ex_of c.get.result.now)) (n.Unary c.args.form) c.in_ok-i.ensures c.unary.ensures)

pub aside-returns : goal.aside-returns
aside-returns t c =
    subst (λ z. IfOk c.add.result (λ id. Emitted c.args.self.now c.add.new.self id (own1 (length c.args.self.now.nodes) (nodes_of c.args.places.now.all (scope_of c.args.self.now.scope) (length c.args.self.now.nodes) (ex_of z)) (n.Side c.args.form)))) c.get.ensures
    (owned c.add.result c.args.self.now c.expr.new.self c.add.new.self c.in_ok-i.i (nodes_of c.args.places.now.all (scope_of c.args.self.now.scope) (length c.args.self.now.nodes) (ex_of c.get.result.now)) (n.Side c.args.form) c.in_ok-i.ensures c.add.ensures)

pub second-returns : goal.second-returns
second-returns t c =
    subst (λ z. IfOk c.add.result (λ id. Emitted c.args.self.now c.add.new.self id (own1 (length c.args.self.now.nodes) (nodes_of c.args.places.now.all (scope_of c.args.self.now.scope) (length c.args.self.now.nodes) (ex_of z)) (n.Binary c.args.form c.args.i)))) c.get.ensures
    (owned c.add.result c.args.self.now c.expr.new.self c.add.new.self c.in_ok-j.j (nodes_of c.args.places.now.all (scope_of c.args.self.now.scope) (length c.args.self.now.nodes) (ex_of c.get.result.now)) (n.Binary c.args.form c.args.i) c.in_ok-j.ensures c.add.ensures)

pub third-returns : goal.third-returns
third-returns t c =
    subst (λ z. IfOk c.add.result (λ id. Emitted c.args.self.now c.add.new.self id (own1 (length c.args.self.now.nodes) (nodes_of c.args.places.now.all (scope_of c.args.self.now.scope) (length c.args.self.now.nodes) (ex_of z)) (n.If c.args.h c.args.i)))) c.get.ensures
    (owned c.add.result c.args.self.now c.expr.new.self c.add.new.self c.in_ok-j.j (nodes_of c.args.places.now.all (scope_of c.args.self.now.scope) (length c.args.self.now.nodes) (ex_of c.get.result.now)) (n.If c.args.h c.args.i) c.in_ok-j.ensures c.add.ensures)

pub given-returns : goal.given-returns
given-returns t c =
    subst (λ z. IfOk c.add.result (λ id. Emitted c.args.self.now c.add.new.self id (own1 (length c.args.self.now.nodes) (nodes_of c.args.places.now.all (Written c.args.x.now ∷ scope_of c.args.self.now.scope) (length c.args.self.now.nodes) (ex_of z)) (n.Let c.args.i)))) c.get.ensures
    (owned c.add.result c.args.self.now c.under.new.self c.add.new.self c.in_ok-j.j (nodes_of c.args.places.now.all (Written c.args.x.now ∷ scope_of c.args.self.now.scope) (length c.args.self.now.nodes) (ex_of c.get.result.now)) (n.Let c.args.i) c.in_ok-j.ensures c.add.ensures)

pub under-returns : goal.under-returns
under-returns t c =
    under c.args.self.now _ c.expr.new.self c.in_ok-id.id (w.Written c.args.x.now) _ (λ s m. nodes_of c.args.places.now.all s m (ex_of c.args.a.now)) refl c.in_ok-bind.ensures c.in_ok-id.ensures c.off.ensures

pub under_two-returns : goal.under_two-returns
under_two-returns t c =
    under c.args.self.now _ c.under.new.self c.in_ok-id.id (w.Written c.args.x.now) _ (λ s m. nodes_of c.args.places.now.all (Written c.args.y.now ∷ s) m (ex_of c.args.a.now)) refl c.in_ok-bind.ensures c.in_ok-id.ensures c.off.ensures

pub arms-returns-in_ok-j-in-OfMaybe : goal.arms-returns-in_ok-j-in-OfMaybe
arms-returns-in_ok-j-in-OfMaybe t c =
    as_arms c.add.result c.args.self.now _ c.args.places.now.all c.args.h (arms_of c.args.arms.now) (maybe_arms (ex_of c.in-OfMaybe.a) c.in-OfMaybe.x (ex_of c.in-OfMaybe.b)) (ap arms_of c.in-OfMaybe.is ∙ arms-OfMaybe c.in-OfMaybe.a c.in-OfMaybe.x c.in-OfMaybe.b)
    (two c.add.result c.args.self.now c.expr.new.self _ c.in_ok-i-in-OfMaybe.i (nodes_of c.args.places.now.all (scope_of c.args.self.now.scope) (length c.args.self.now.nodes) (ex_of c.in-OfMaybe.a)) (λ s m. nodes_of c.args.places.now.all (Written c.in-OfMaybe.x.text ∷ s) m (ex_of c.in-OfMaybe.b)) (n.CaseMaybe c.args.h) c.in_ok-i-in-OfMaybe.ensures
    (owned c.add.result c.expr.new.self c.under.new.self _ c.in_ok-j-in-OfMaybe.j (nodes_of c.args.places.now.all (Written c.in-OfMaybe.x.text ∷ scope_of c.expr.new.self.scope) (length c.expr.new.self.nodes) (ex_of c.in-OfMaybe.b)) (n.CaseMaybe c.args.h c.in_ok-i-in-OfMaybe.i) c.in_ok-j-in-OfMaybe.ensures c.add.ensures))

pub arms-returns-in_ok-j-in-OfEither : goal.arms-returns-in_ok-j-in-OfEither
arms-returns-in_ok-j-in-OfEither t c =
    as_arms c.add-in-OfEither.result c.args.self.now _ c.args.places.now.all c.args.h (arms_of c.args.arms.now) (either_arms c.in-OfEither.x (ex_of c.in-OfEither.a) c.in-OfEither.y (ex_of c.in-OfEither.b)) (ap arms_of c.in-OfEither.is ∙ arms-OfEither c.in-OfEither.x c.in-OfEither.a c.in-OfEither.y c.in-OfEither.b)
    (two c.add-in-OfEither.result c.args.self.now c.under-in-OfEither.new.self _ c.in_ok-i-in-OfEither.i (nodes_of c.args.places.now.all (Written c.in-OfEither.x.text ∷ scope_of c.args.self.now.scope) (length c.args.self.now.nodes) (ex_of c.in-OfEither.a)) (λ s m. nodes_of c.args.places.now.all (Written c.in-OfEither.y.text ∷ s) m (ex_of c.in-OfEither.b)) (n.CaseEither c.args.h) c.in_ok-i-in-OfEither.ensures
    (owned c.add-in-OfEither.result c.under-in-OfEither.new.self c.under-in-OfEither-2.new.self _ c.in_ok-j-in-OfEither.j (nodes_of c.args.places.now.all (Written c.in-OfEither.y.text ∷ scope_of c.under-in-OfEither.new.self.scope) (length c.under-in-OfEither.new.self.nodes) (ex_of c.in-OfEither.b)) (n.CaseEither c.args.h c.in_ok-i-in-OfEither.i) c.in_ok-j-in-OfEither.ensures c.add-in-OfEither.ensures))

pub arms-returns-in_ok-j-in-OfList : goal.arms-returns-in_ok-j-in-OfList
arms-returns-in_ok-j-in-OfList t c =
    as_arms c.add-in-OfList.result c.args.self.now _ c.args.places.now.all c.args.h (arms_of c.args.arms.now) (list_arms (ex_of c.in-OfList.a) c.in-OfList.x c.in-OfList.y (ex_of c.in-OfList.b)) (ap arms_of c.in-OfList.is ∙ arms-OfList c.in-OfList.a c.in-OfList.x c.in-OfList.y c.in-OfList.b)
    (two c.add-in-OfList.result c.args.self.now c.expr-in-OfList.new.self _ c.in_ok-i-in-OfList.i (nodes_of c.args.places.now.all (scope_of c.args.self.now.scope) (length c.args.self.now.nodes) (ex_of c.in-OfList.a)) (λ s m. nodes_of c.args.places.now.all (Written c.in-OfList.y.text ∷ Written c.in-OfList.x.text ∷ s) m (ex_of c.in-OfList.b)) (n.CaseList c.args.h) c.in_ok-i-in-OfList.ensures
    (owned c.add-in-OfList.result c.expr-in-OfList.new.self c.under_two.new.self _ c.in_ok-j-in-OfList.j (nodes_of c.args.places.now.all (Written c.in-OfList.y.text ∷ Written c.in-OfList.x.text ∷ scope_of c.expr-in-OfList.new.self.scope) (length c.expr-in-OfList.new.self.nodes) (ex_of c.in-OfList.b)) (n.CaseList c.args.h c.in_ok-i-in-OfList.i) c.in_ok-j-in-OfList.ensures c.add-in-OfList.ensures))

pub arms-returns-in_ok-i-in-OfPair : goal.arms-returns-in_ok-i-in-OfPair
arms-returns-in_ok-i-in-OfPair t c =
    as_arms c.add-in-OfPair.result c.args.self.now _ c.args.places.now.all c.args.h (arms_of c.args.arms.now) (pair_arms c.in-OfPair.x c.in-OfPair.y (ex_of c.in-OfPair.a)) (ap arms_of c.in-OfPair.is ∙ arms-OfPair c.in-OfPair.x c.in-OfPair.y c.in-OfPair.a)
    (owned c.add-in-OfPair.result c.args.self.now c.under_two-in-OfPair.new.self _ c.in_ok-i-in-OfPair.i (nodes_of c.args.places.now.all (Written c.in-OfPair.y.text ∷ Written c.in-OfPair.x.text ∷ scope_of c.args.self.now.scope) (length c.args.self.now.nodes) (ex_of c.in-OfPair.a)) (n.CasePair c.args.h) c.in_ok-i-in-OfPair.ensures c.add-in-OfPair.ensures)

pub items-returns : goal.items-returns
items-returns t c =
    all_ended c.add.result c.args.self.now c.all.new.self c.add.new.self (all_nodes c.args.places.now.all (scope_of c.args.self.now.scope) (length c.args.self.now.nodes) (exs_of c.args.es.now)) (n.List (ids_of c.args.places.now.all (scope_of c.args.self.now.scope) (length c.args.self.now.nodes) (exs_of c.args.es.now))) c.in_ok-ids.ensures.0 c.in_ok-ids.ensures.1
    (subst (λ z. IfOk c.add.result (IsAdded c.all.new.self c.add.new.self (n.List z))) c.in_ok-ids.ensures.2 c.add.ensures)

pub chain-each-preserved : goal.chain-each-preserved
chain-each-preserved t c =
    let ks = c.args.links.now in
    let k = c.link-item.result in
    let i = c.each.link-index in
    let d = links-drop c.args.form ks i k (omega (arith, ap length c.as_slice-link-items.ensures)) (c.link-item.is ∙ ap (λ z. get_or z i k) c.as_slice-link-items.ensures) in
    let w = link_step c.args.self.now c.each.self c.expr.new.self c.in_ok-operand.operand c.args.places.now.all c.args.form c.args.form k.pos (ex_of k.operand) (links_of c.args.form (drop i ks)) (links_of c.args.form (drop (i + 1) ks)) c.each.ks c.add.new.self (c.args.self.now.nodes ++ link_nodes c.args.places.now.all (scope_of c.args.self.now.scope) (length c.args.self.now.nodes) (links_of c.args.form c.args.links.now)) (node_links c.args.places.now.all (scope_of c.args.self.now.scope) (length c.args.self.now.nodes) (links_of c.args.form c.args.links.now))
    c.each.invariant.scope d refl c.each.invariant.nodes c.each.invariant.ids c.in_ok-operand.ensures c.in_ok-add.ensures.ok in
    record { scope = c.in_ok-operand.ensures.scope ∙ c.each.invariant.scope; nodes = w.0; ids = w.1 }

pub sum_chain-each-preserved : goal.sum_chain-each-preserved
sum_chain-each-preserved t c =
    let ks = c.args.links.now in
    let k = c.link-item.result in
    let i = c.each.link-index in
    let d = sum_links-drop ks i k (omega (arith, ap length c.as_slice-link-items.ensures)) (c.link-item.is ∙ ap (λ z. get_or z i k) c.as_slice-link-items.ensures) in
    let w = link_step c.args.self.now c.each.self c.expr.new.self c.in_ok-operand.operand c.args.places.now.all (sum_form k.op) c.sum_form-form.result k.pos (ex_of k.operand) (sum_links_of (drop i ks)) (sum_links_of (drop (i + 1) ks)) c.each.ks c.add.new.self (c.args.self.now.nodes ++ link_nodes c.args.places.now.all (scope_of c.args.self.now.scope) (length c.args.self.now.nodes) (sum_links_of c.args.links.now)) (node_links c.args.places.now.all (scope_of c.args.self.now.scope) (length c.args.self.now.nodes) (sum_links_of c.args.links.now))
    c.each.invariant.scope d c.sum_form-form.ensures c.each.invariant.nodes c.each.invariant.ids c.in_ok-operand.ensures c.in_ok-add.ensures.ok in
    record { scope = c.in_ok-operand.ensures.scope ∙ c.each.invariant.scope; nodes = w.0; ids = w.1 }

pub conses-each-preserved : goal.conses-each-preserved
conses-each-preserved t c =
    let ks = c.args.links.now in
    let k = c.link-item.result in
    let i = c.each.link-index in
    let d = list_links-drop ks i k (omega (arith, ap length c.as_slice-link-items.ensures)) (c.link-item.is ∙ ap (λ z. get_or z i k) c.as_slice-link-items.ensures) in
    let w = link_step c.args.self.now c.each.self c.expr.new.self c.in_ok-operand.operand c.args.places.now.all (cons_form k.op) c.cons_form-form.result k.pos (ex_of k.operand) (list_links_of (drop i ks)) (list_links_of (drop (i + 1) ks)) c.each.ks c.add.new.self (c.args.self.now.nodes ++ link_nodes c.args.places.now.all (scope_of c.args.self.now.scope) (length c.args.self.now.nodes) (list_links_of c.args.links.now)) (node_links c.args.places.now.all (scope_of c.args.self.now.scope) (length c.args.self.now.nodes) (list_links_of c.args.links.now))
    c.each.invariant.scope d c.cons_form-form.ensures c.each.invariant.nodes c.each.invariant.ids c.in_ok-operand.ensures c.in_ok-add.ensures.ok in
    record { scope = c.in_ok-operand.ensures.scope ∙ c.each.invariant.scope; nodes = w.0; ids = w.1 }

pub all-each-preserved : goal.all-each-preserved
all-each-preserved t c =
    let es = c.args.es.now in
    let e = c.e-item.result in
    let i = c.each.e-index in
    let w = all_step c.args.self.now c.each.self c.expr.new.self c.in_ok-id.id c.args.places.now.all es i e c.each.ids c.add.new.self (c.args.self.now.nodes ++ all_nodes c.args.places.now.all (scope_of c.args.self.now.scope) (length c.args.self.now.nodes) (exs_of es)) (ids_of c.args.places.now.all (scope_of c.args.self.now.scope) (length c.args.self.now.nodes) (exs_of es))
    c.each.invariant.scope (omega (arith, ap length c.as_slice-e-items.ensures)) (c.e-item.is ∙ ap (λ z. get_or z i e) c.as_slice-e-items.ensures) c.each.invariant.nodes c.each.invariant.ids c.in_ok-id.ensures c.in_ok-add.ensures.ok in
    record { scope = c.in_ok-id.ensures.scope ∙ c.each.invariant.scope; nodes = w.0; ids = w.1 }
