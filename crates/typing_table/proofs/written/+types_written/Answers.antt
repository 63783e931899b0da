use Rattle.std.proofs.Common.{ap, ◌∙◌, sym}
use Rattle.rules_expansion.specs.trees.Trees.{ty_of, pair, maybe, either, list, cell, async}
use Rattle.rules_expansion.proofs.trees_lemmas.Equations.{ty-Pair, ty-Maybe, ty-Either, ty-List, ty-Cell, ty-Async}
use Rattle.typing_table.specs.Meaning.{type_in}
use Rattle.typing_table.proofs.Equations.{type-Pair, type-Maybe, type-Either, type-List, type-Cell, type-Async}
use Rattle.typing_table.proofs.written.+types_written.Goals as goal

pub boxed_type-returns : goal.boxed_type-returns
boxed_type-returns t c = λ ms. ap (type_in ms) c.in_ok-new.ensures ∙ c.in_ok-t.ensures ms

pub from_written-returns-in_ok-boxed_type-in-Pair-2 : goal.from_written-returns-in_ok-boxed_type-in-Pair-2
from_written-returns-in_ok-boxed_type-in-Pair-2 t c = λ ms.
    type-Pair ms c.in_ok-boxed_type-in-Pair.field-0 c.in_ok-boxed_type-in-Pair-2.field-0
    ∙ (ap (λ z. pair z (type_in ms c.in_ok-boxed_type-in-Pair-2.field-0)) (c.in_ok-boxed_type-in-Pair.ensures ms ∙ ap ty_of c.get.ensures)
    ∙ (ap (pair (ty_of c.in-Pair.a)) (c.in_ok-boxed_type-in-Pair-2.ensures ms ∙ ap ty_of c.get-in-Pair.ensures)
    ∙ (sym (ty-Pair c.in-Pair.a c.in-Pair.b) ∙ ap ty_of (sym c.in-Pair.is))))

pub from_written-returns-in_ok-boxed_type-in-Maybe : goal.from_written-returns-in_ok-boxed_type-in-Maybe
from_written-returns-in_ok-boxed_type-in-Maybe t c = λ ms.
    type-Maybe ms c.in_ok-boxed_type-in-Maybe.field-0
    ∙ (ap maybe (c.in_ok-boxed_type-in-Maybe.ensures ms ∙ ap ty_of c.get-in-Maybe.ensures)
    ∙ (sym (ty-Maybe c.in-Maybe.a) ∙ ap ty_of (sym c.in-Maybe.is)))

pub from_written-returns-in_ok-boxed_type-in-Either-2 : goal.from_written-returns-in_ok-boxed_type-in-Either-2
from_written-returns-in_ok-boxed_type-in-Either-2 t c = λ ms.
    type-Either ms c.in_ok-boxed_type-in-Either.field-0 c.in_ok-boxed_type-in-Either-2.field-0
    ∙ (ap (λ z. either z (type_in ms c.in_ok-boxed_type-in-Either-2.field-0)) (c.in_ok-boxed_type-in-Either.ensures ms ∙ ap ty_of c.get-in-Either.ensures)
    ∙ (ap (either (ty_of c.in-Either.a)) (c.in_ok-boxed_type-in-Either-2.ensures ms ∙ ap ty_of c.get-in-Either-2.ensures)
    ∙ (sym (ty-Either c.in-Either.a c.in-Either.b) ∙ ap ty_of (sym c.in-Either.is))))

pub from_written-returns-in_ok-boxed_type-in-List : goal.from_written-returns-in_ok-boxed_type-in-List
from_written-returns-in_ok-boxed_type-in-List t c = λ ms.
    type-List ms c.in_ok-boxed_type-in-List.field-0
    ∙ (ap list (c.in_ok-boxed_type-in-List.ensures ms ∙ ap ty_of c.get-in-List.ensures)
    ∙ (sym (ty-List c.in-List.a) ∙ ap ty_of (sym c.in-List.is)))

pub from_written-returns-in_ok-boxed_type-in-Cell : goal.from_written-returns-in_ok-boxed_type-in-Cell
from_written-returns-in_ok-boxed_type-in-Cell t c = λ ms.
    type-Cell ms c.in_ok-boxed_type-in-Cell.field-0
    ∙ (ap cell (c.in_ok-boxed_type-in-Cell.ensures ms ∙ ap ty_of c.get-in-Cell.ensures)
    ∙ (sym (ty-Cell c.in-Cell.a) ∙ ap ty_of (sym c.in-Cell.is)))

pub from_written-returns-in_ok-boxed_type-in-Async : goal.from_written-returns-in_ok-boxed_type-in-Async
from_written-returns-in_ok-boxed_type-in-Async t c = λ ms.
    type-Async ms c.in_ok-boxed_type-in-Async.field-0
    ∙ (ap async (c.in_ok-boxed_type-in-Async.ensures ms ∙ ap ty_of c.get-in-Async.ensures)
    ∙ (sym (ty-Async c.in-Async.a) ∙ ap ty_of (sym c.in-Async.is)))
