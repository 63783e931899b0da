use Rattle.std.proofs.Common.{[], ap}
use Rattle.hs_eval.proofs.Cases.{value_of-Unit}
use Rattle.number_states.specs.declared.state.NumberState.{NumberState}
use Rattle.number_states.specs.States.{contents}
use Rattle.number_changes.proofs.Written.{on_ok, kept_text, written, written_in, prints_made}
use Rattle.number_changes.proofs.printing.print.Goals as goal

-- src/printing.rt
pub answer-requires : goal.answer-requires
answer-requires c =
    let g = c.args.numbers.now in
    let h = c.text_and.new.self in
    let x = c.args.state.now in
    let grown = c.text_and.ensures.grows in
    written_in g h grown x c.requires c.in_ok-state-2.field-0 x.errors c.args.text.now [] c.in_ok-state-2.ensures.is (kept_text g h x.errors grown c.requires.errors) c.in_ok-state.field-0

pub returns-clause-is : goal.returns-clause-is
returns-clause-is c =
    let g = c.args.numbers.now in
    let h = c.text_and.new.self in
    let x = c.args.state.now in
    let o = c.in_ok-state-2.field-0 in
    let u : NumberState = record x { printed = c.in_ok-state.field-0; output = o } in
    let grown = c.text_and.ensures.grows in
    on_ok _ _ (prints_made g h grown x c.requires o x.errors c.args.text.now [] c.in_ok-state-2.ensures.is (kept_text g h x.errors grown c.requires.errors)
    c.answer.new.numbers u c.answer.new.self c.args.thread _ _ value_of-Unit c.answer.ensures.grows (ap (λ m. written m o x.errors (contents x)) c.in_ok-state.ensures)) c.answer.result c.answer.ensures.is
