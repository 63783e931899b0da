use Rattle.std.proofs.Common.{sym, ap, ◌∙◌, subst}
use Rattle.number_states.specs.waits.Places.{answers}
use Rattle.number_states.specs.declared.state.NumberState.{NumberState}
use Rattle.number_states.specs.States.{contents, AllIn}
use Rattle.number_changes.proofs.Written.{on_ok}
use Rattle.number_changes.proofs.Calls.{with_cells, called_in, called_replies, call_becomes}
use Rattle.number_changes.proofs.calling.call.Goals as goal

-- src/calling.rt
pub tell_all-requires-clause-state : goal.tell_all-requires-clause-state
tell_all-requires-clause-state c =
    let g = c.args.numbers.now in
    let x = c.args.state.now in
    subst (λ cs. AllIn g (with_cells cs (contents x))) (sym c.in_ok-replies.ensures.cells) (called_in g x c.requires.state c.args.thread c.args.cell c.args.call c.requires.value)

pub tell_all-requires-clause-replies : goal.tell_all-requires-clause-replies
tell_all-requires-clause-replies c =
    called_replies c.args.numbers.now c.args.state.now c.requires.state c.args.thread c.args.cell c.args.call c.requires.value c.as_slice.result.now (ap answers c.as_slice.ensures.value ∙ c.in_ok-replies.ensures.replies)

pub returns-clause-is : goal.returns-clause-is
returns-clause-is c =
    let g = c.args.numbers.now in
    let x = c.args.state.now in
    let u : NumberState = record x { cells = c.call_at.new.cells } in
    on_ok _ _ (λ p. call_becomes g x c.requires.state c.args.thread c.args.cell c.args.call c.requires.value u c.tell_all.new.numbers c.tell_all.new.state c.as_slice.result.now
    (ap (λ cs. with_cells cs (contents x)) c.in_ok-replies.ensures.cells) (ap answers c.as_slice.ensures.value ∙ c.in_ok-replies.ensures.replies) (p c.args.cell)) c.tell_all.result c.tell_all.ensures.is
