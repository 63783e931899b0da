use Rattle.std.proofs.Common.{◌≡◌, [], ◌∷◌, ◌++◌, length, sym, ap, ◌∙◌, subst, arith}
use Rattle.std.proofs.lemmas.Grind.{common_steps}
use Rattle.rules_meaning.specs.Values as val
use Rattle.rules_meaning.specs.Values.{value_of}
use Rattle.rules_waiting.specs.OneCell.{made}
use Rattle.hs_eval.proofs.Cases.{value_of-Cell}
use Rattle.number_states.specs.declared.state.NumberState.{NumberState}
use Rattle.number_states.specs.States.{contents, AllIn}
use Rattle.slot_states.specs.mapping.Mapped.{map_some}
use Rattle.number_changes.proofs.Written.{on_ok}
use Rattle.number_changes.proofs.Calls.{with_cells, made_in, make_becomes}
use Rattle.number_changes.proofs.calling.make.Goals as goal

-- src/calling.rt
pub answer-requires : goal.answer-requires
answer-requires c =
    let g = c.args.numbers.now in
    let h = c.content.new.numbers in
    let x = c.args.state.now in
    let o = c.in_ok-content.content in
    let cells : c.push_reserved.new.self.items ≡ x.cells.items ++ made o ∷ [] = grind (arith, common_steps) in
    subst (λ cs. AllIn h (with_cells cs (contents x))) (sym cells) (made_in g h c.in_ok-content.ensures.grows x c.requires o c.in_ok-content.ensures.within)

pub returns-clause-is : goal.returns-clause-is
returns-clause-is c =
    let g = c.args.numbers.now in
    let h = c.content.new.numbers in
    let x = c.args.state.now in
    let o = c.in_ok-content.content in
    let u : NumberState = record x { cells = c.push_reserved.new.self } in
    let cells : c.push_reserved.new.self.items ≡ x.cells.items ++ made o ∷ [] = grind (arith, common_steps) in
    let is_cell : c.in-Ok.cell ≡ length x.cells.items = grind (arith, common_steps) in
    on_ok _ _ (make_becomes g h c.in_ok-content.ensures.grows x c.requires o c.in_ok-content.ensures.within u c.answer.new.numbers c.answer.new.self c.args.thread _ (map_some value_of c.args.value)
    (ap (λ cs. with_cells cs (contents x)) cells) (value_of-Cell c.in-Ok.cell ∙ ap (λ n. val.Cell n) is_cell) c.in_ok-content.ensures.is) c.answer.result c.answer.ensures.is
