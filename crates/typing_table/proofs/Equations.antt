-- Which tree each type of the checker stands for.
use Rattle.std.proofs.Common.{◌≡◌, ℕ, List, ap, ◌∙◌, sym}
use Rattle.rules_expansion.specs.trees.Trees.{T, pair, maybe, either, list, cell, async}
use Rattle.typing_table.specs.declared.base.Base.{Base}
use Rattle.typing_table.specs.declared.table.TypeNode.{TypeNode}
use Rattle.typing_table.specs.declared.ty.TypeTerm.{TypeTerm}
use Rattle.typing_table.specs.declared.ty.TypeTerm.TheVariants as t
use Rattle.typing_table.specs.declared.ty.TypeTerm.TheOpen.{TypeTerm-F}
use Rattle.typing_table.specs.declared.ty.TypeTerm.TheFolds.{fold-roll-TypeTerm}
use Rattle.typing_table.specs.Meaning.{base_of, known, type_in, type_step}

pub type-Base : (ms : List TypeNode) (o : Base) → type_in ms (t.Base o) ≡ base_of o
type-Base ms o = ap (type_in ms) (sym (t.rolls-Base o)) ∙ fold-roll-TypeTerm T (type_step ms) (TypeTerm-F.Base o)

pub type-Pair : (ms : List TypeNode) (a b : TypeTerm) → type_in ms (t.Pair a b) ≡ pair (type_in ms a) (type_in ms b)
type-Pair ms a b = ap (type_in ms) (sym (t.rolls-Pair a b)) ∙ fold-roll-TypeTerm T (type_step ms) (TypeTerm-F.Pair a b)

pub type-Maybe : (ms : List TypeNode) (a : TypeTerm) → type_in ms (t.Maybe a) ≡ maybe (type_in ms a)
type-Maybe ms a = ap (type_in ms) (sym (t.rolls-Maybe a)) ∙ fold-roll-TypeTerm T (type_step ms) (TypeTerm-F.Maybe a)

pub type-Either : (ms : List TypeNode) (a b : TypeTerm) → type_in ms (t.Either a b) ≡ either (type_in ms a) (type_in ms b)
type-Either ms a b = ap (type_in ms) (sym (t.rolls-Either a b)) ∙ fold-roll-TypeTerm T (type_step ms) (TypeTerm-F.Either a b)

pub type-List : (ms : List TypeNode) (a : TypeTerm) → type_in ms (t.List a) ≡ list (type_in ms a)
type-List ms a = ap (type_in ms) (sym (t.rolls-List a)) ∙ fold-roll-TypeTerm T (type_step ms) (TypeTerm-F.List a)

pub type-Cell : (ms : List TypeNode) (a : TypeTerm) → type_in ms (t.Cell a) ≡ cell (type_in ms a)
type-Cell ms a = ap (type_in ms) (sym (t.rolls-Cell a)) ∙ fold-roll-TypeTerm T (type_step ms) (TypeTerm-F.Cell a)

pub type-Async : (ms : List TypeNode) (a : TypeTerm) → type_in ms (t.Async a) ≡ async (type_in ms a)
type-Async ms a = ap (type_in ms) (sym (t.rolls-Async a)) ∙ fold-roll-TypeTerm T (type_step ms) (TypeTerm-F.Async a)

pub type-Known : (ms : List TypeNode) (i : ℕ) → type_in ms (t.Known i) ≡ known ms i
type-Known ms i = ap (type_in ms) (sym (t.rolls-Known i)) ∙ fold-roll-TypeTerm T (type_step ms) (TypeTerm-F.Known i)

pub ruleset type_rules = (type-Base, type-Pair, type-Maybe, type-Either, type-List, type-Cell, type-Async, type-Known)
