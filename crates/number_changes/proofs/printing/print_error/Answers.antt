use Rattle.std.proofs.Common.{Some, [], ◌++◌, length, ◌≡◌, sym, ap, ◌∙◌}
use Rattle.hs_eval.proofs.Cases.{value_of-Unit}
use Rattle.slot_states.specs.SlotStates.{prints}
use Rattle.number_states.specs.declared.state.NumberState.{NumberState}
use Rattle.number_states.specs.Stocks.{text_at}
use Rattle.number_states.specs.States.{contents}
use Rattle.number_changes.specs.Moves.{Makes}
use Rattle.number_changes.proofs.Written.{on_ok, kept_text, written, written_in, prints_made, line_of}
use Rattle.number_changes.proofs.printing.print_error.Goals as goal

-- src/printing.rt
pub answer-requires : goal.answer-requires
answer-requires c =
    let g = c.args.numbers.now in
    let h = c.text_and.new.self in
    let x = c.args.state.now in
    let grown = c.text_and.ensures.grows in
    written_in g h grown x c.requires x.output c.in_ok-state-2.field-0 [] c.as_str-2.result.now (kept_text g h x.output grown c.requires.output) c.in_ok-state-2.ensures.is c.in_ok-state.field-0

pub returns-clause-is : goal.returns-clause-is
returns-clause-is c =
    let g = c.args.numbers.now in
    let h = c.text_and.new.self in
    let x = c.args.state.now in
    let r = c.in_ok-state-2.field-0 in
    let line = c.as_str.result.now in
    let u : NumberState = record x { printed = c.in_ok-state.field-0; errors = r } in
    let grown = c.text_and.ensures.grows in
    let same : c.as_str-2.result.now ≡ line = c.as_str-2.ensures.value ∙ sym c.as_str.ensures.value in
    let err = c.in_ok-state-2.ensures.is ∙ ap (λ l. Some (text_at g x.errors ++ l)) same in
    on_ok _ _ (λ p b. line_of (λ n l. Makes (λ s. Some (prints c.args.thread n s)) b g x [] l c.answer.new.numbers c.answer.new.self) line c.args.text.now (c.as_str.ensures.value ∙ c.in_ok-line.ensures.ok)
    (prints_made g h grown x c.requires x.output r [] line (kept_text g h x.output grown c.requires.output) err
    c.answer.new.numbers u c.answer.new.self c.args.thread (length line) _ value_of-Unit c.answer.ensures.grows (ap (λ m. written m x.output r (contents x)) c.in_ok-state.ensures) p b)) c.answer.result c.answer.ensures.is
