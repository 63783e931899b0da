use Rattle.std.proofs.Common.{◌≡◌, Some, None, sym, ap, ◌∙◌}
use Rattle.number_states.specs.waits.Throwing.{thrown_to, first_of}
use Rattle.number_states.specs.Stocks.{exception_at}
use Rattle.number_states.specs.States.{thread_of}
use Rattle.number_moves.proofs.Strands.{held, rests_free, rests_not}
use Rattle.number_moves.proofs.stranding.rests.Goals as goal

-- src/stranding.rt
pub returns-in-None : goal.returns-in-None
returns-in-None c = λ b.
    let g = c.args.numbers.now in
    let xs = c.args.state.now.flight.items in
    let first : first_of (thrown_to c.args.t xs) ≡ None = ap (λ fs. first_of (thrown_to c.args.t fs)) (sym c.as_slice.ensures.value) ∙ sym c.first_to.ensures ∙ c.in-None.is in
    rests_free (exception_at g) xs c.args.t (thread_of g b c.args.thread) c.if-thread.false (held c.args.thread.blocked c.if-not-thread.false) (sym (c.is_receptive.ensures b) ∙ c.if-not-is_receptive.false) first

pub returns-in-Some : goal.returns-in-Some
returns-in-Some c = λ b.
    let g = c.args.numbers.now in
    let xs = c.args.state.now.flight.items in
    let first : first_of (thrown_to c.args.t xs) ≡ Some c.in-Some.field-0 = ap (λ fs. first_of (thrown_to c.args.t fs)) (sym c.as_slice.ensures.value) ∙ sym c.first_to.ensures ∙ c.in-Some.is in
    rests_not (exception_at g) xs c.args.t (thread_of g b c.args.thread) c.in-Some.field-0 c.if-thread.false (held c.args.thread.blocked c.if-not-thread.false) (sym (c.is_receptive.ensures b) ∙ c.if-not-is_receptive.false) first
