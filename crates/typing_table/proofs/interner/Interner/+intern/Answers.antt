use Rattle.std.proofs.Common.{ap, arith, sym, ◌∙◌}
use Rattle.rules_expansion.specs.trees.Trees.{ty_of, maybe, list, cell, async}
use Rattle.rules_expansion.proofs.trees_lemmas.Equations.{ty-Unit, ty-Int, ty-Bool, ty-Text, ty-Thread, ty-Exn, ty-Pair, ty-Maybe, ty-Either, ty-List, ty-Cell, ty-Async}
use Rattle.typing_table.specs.declared.base.Base.TheVariants as b
use Rattle.typing_table.specs.declared.table.TypeNode.TheVariants as n
use Rattle.typing_table.proofs.Interned.{interned, kept}
use Rattle.typing_table.proofs.Tables.{grows_self}
use Rattle.typing_table.proofs.interner.Interner.+intern.Goals as goal

pub returns-in-Unit : goal.returns-in-Unit
returns-in-Unit t c =
    interned c.put.result _ _ _ (n.Base b.Unit) (ty_of c.args.t.now) c.put.new.self.types.ordered (omega arith)
    (sym (ap ty_of c.in-Unit.is ∙ ty-Unit)) (grows_self _) c.put.ensures

pub returns-in-Int : goal.returns-in-Int
returns-in-Int t c =
    interned c.put-in-Int.result _ _ _ (n.Base b.Int) (ty_of c.args.t.now) c.put-in-Int.new.self.types.ordered (omega arith)
    (sym (ap ty_of c.in-Int.is ∙ ty-Int)) (grows_self _) c.put-in-Int.ensures

pub returns-in-Bool : goal.returns-in-Bool
returns-in-Bool t c =
    interned c.put-in-Bool.result _ _ _ (n.Base b.Bool) (ty_of c.args.t.now) c.put-in-Bool.new.self.types.ordered (omega arith)
    (sym (ap ty_of c.in-Bool.is ∙ ty-Bool)) (grows_self _) c.put-in-Bool.ensures

pub returns-in-Text : goal.returns-in-Text
returns-in-Text t c =
    interned c.put-in-Text.result _ _ _ (n.Base b.Text) (ty_of c.args.t.now) c.put-in-Text.new.self.types.ordered (omega arith)
    (sym (ap ty_of c.in-Text.is ∙ ty-Text)) (grows_self _) c.put-in-Text.ensures

pub returns-in-Thread : goal.returns-in-Thread
returns-in-Thread t c =
    interned c.put-in-Thread.result _ _ _ (n.Base b.Thread) (ty_of c.args.t.now) c.put-in-Thread.new.self.types.ordered (omega arith)
    (sym (ap ty_of c.in-Thread.is ∙ ty-Thread)) (grows_self _) c.put-in-Thread.ensures

pub returns-in-Exn : goal.returns-in-Exn
returns-in-Exn t c =
    interned c.put-in-Exn.result _ _ _ (n.Base b.Exn) (ty_of c.args.t.now) c.put-in-Exn.new.self.types.ordered (omega arith)
    (sym (ap ty_of c.in-Exn.is ∙ ty-Exn)) (grows_self _) c.put-in-Exn.ensures

pub returns-in_ok-second-in-Pair : goal.returns-in_ok-second-in-Pair
returns-in_ok-second-in-Pair t c =
    let q = c.in_ok-second-in-Pair.ensures in
    let p = kept _ _ _ _ _ c.in_ok-first-in-Pair.ensures q.0 in
    interned c.put-in-Pair.result _ _ _ (n.Pair c.in_ok-first-in-Pair.first c.in_ok-second-in-Pair.second) (ty_of c.args.t.now)
    c.put-in-Pair.new.self.types.ordered (omega (arith, p.1, q.1))
    (cc (p.2, q.2, c.get.ensures, c.get-in-Pair.ensures, c.in-Pair.is, ty-Pair c.in-Pair.a c.in-Pair.b)) p.0 c.put-in-Pair.ensures

pub returns-in_ok-part-in-Maybe : goal.returns-in_ok-part-in-Maybe
returns-in_ok-part-in-Maybe t c =
    let p = c.in_ok-part-in-Maybe.ensures in
    interned c.put-in-Maybe.result _ _ _ (n.Maybe c.in_ok-part-in-Maybe.part) (ty_of c.args.t.now)
    c.put-in-Maybe.new.self.types.ordered (omega (arith, p.1))
    (ap maybe (p.2 ∙ ap ty_of c.get-in-Maybe.ensures) ∙ sym (ap ty_of c.in-Maybe.is ∙ ty-Maybe c.in-Maybe.a)) p.0 c.put-in-Maybe.ensures

pub returns-in_ok-second-in-Either : goal.returns-in_ok-second-in-Either
returns-in_ok-second-in-Either t c =
    let q = c.in_ok-second-in-Either.ensures in
    let p = kept _ _ _ _ _ c.in_ok-first-in-Either.ensures q.0 in
    interned c.put-in-Either.result _ _ _ (n.Either c.in_ok-first-in-Either.first c.in_ok-second-in-Either.second) (ty_of c.args.t.now)
    c.put-in-Either.new.self.types.ordered (omega (arith, p.1, q.1))
    (cc (p.2, q.2, c.get-in-Either.ensures, c.get-in-Either-2.ensures, c.in-Either.is, ty-Either c.in-Either.a c.in-Either.b)) p.0 c.put-in-Either.ensures

pub returns-in_ok-part-in-List : goal.returns-in_ok-part-in-List
returns-in_ok-part-in-List t c =
    let p = c.in_ok-part-in-List.ensures in
    interned c.put-in-List.result _ _ _ (n.List c.in_ok-part-in-List.part) (ty_of c.args.t.now)
    c.put-in-List.new.self.types.ordered (omega (arith, p.1))
    (ap list (p.2 ∙ ap ty_of c.get-in-List.ensures) ∙ sym (ap ty_of c.in-List.is ∙ ty-List c.in-List.a)) p.0 c.put-in-List.ensures

pub returns-in_ok-part-in-Cell : goal.returns-in_ok-part-in-Cell
returns-in_ok-part-in-Cell t c =
    let p = c.in_ok-part-in-Cell.ensures in
    interned c.put-in-Cell.result _ _ _ (n.Cell c.in_ok-part-in-Cell.part) (ty_of c.args.t.now)
    c.put-in-Cell.new.self.types.ordered (omega (arith, p.1))
    (ap cell (p.2 ∙ ap ty_of c.get-in-Cell.ensures) ∙ sym (ap ty_of c.in-Cell.is ∙ ty-Cell c.in-Cell.a)) p.0 c.put-in-Cell.ensures

pub returns-in_ok-part-in-Async : goal.returns-in_ok-part-in-Async
returns-in_ok-part-in-Async t c =
    let p = c.in_ok-part-in-Async.ensures in
    interned c.put-in-Async.result _ _ _ (n.Async c.in_ok-part-in-Async.part) (ty_of c.args.t.now)
    c.put-in-Async.new.self.types.ordered (omega (arith, p.1))
    (ap async (p.2 ∙ ap ty_of c.get-in-Async.ensures) ∙ sym (ap ty_of c.in-Async.is ∙ ty-Async c.in-Async.a)) p.0 c.put-in-Async.ensures
