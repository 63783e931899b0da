use Rattle.std.proofs.Common.{◌≡◌, ◌<◌, true, Some, None, length, sym, ap, ◌∙◌}
use Rattle.hs_rules.specs.declared.entry.Entry.TheVariants as entry
use Rattle.local_steps.specs.Machine.{funs_of}
use Rattle.slot_states.specs.SlotStates.{receives}
use Rattle.slot_states.specs.Resting.{is_receptive}
use Rattle.slot_states.specs.entering.Entering.{entered, receive_entry}
use Rattle.number_states.specs.declared.waits.flight.Thrown.{Thrown}
use Rattle.number_states.specs.waits.Throwing.{thrown_to, first_of, map_thrown}
use Rattle.number_states.specs.Stocks.{exception_at}
use Rattle.number_states.specs.States.{thread_of, slots}
use Rattle.number_changes.proofs.Made.{makes, on_acting}
use Rattle.number_moves.proofs.Flying.{first_flying, first_within, receive_none, receive_first}
use Rattle.number_moves.proofs.receiving.receive.Goals as goal

-- src/receiving.rt
pub returns-in_default-first_to-clause-is : goal.returns-in_default-first_to-clause-is
returns-in_default-first_to-clause-is c = λ b.
    let g = c.args.numbers.now in
    let x = c.args.state.now in
    let t = c.args.t in
    let th = c.in-Some.thread in
    let first : first_of (thrown_to t x.flight.items) ≡ None = ap (λ fs. first_of (thrown_to t fs)) (sym c.as_slice.ensures.value) ∙ sym c.first_to.ensures ∙ c.in_default-first_to.is in
    let hears : is_receptive (thread_of g b th) ≡ true = cc (c.is_receptive.ensures b) in
    on_acting g b x t th (λ u. receive_entry t u (slots g b x)) (c.in-Some.ensures {u = tt})
    ∙ receive_none t (thread_of g b th) (slots g b x) hears (first_flying (exception_at g) t x.flight.items ∙ ap (map_thrown (exception_at g)) first)

pub received-requires-clause-exn : goal.received-requires-clause-exn
received-requires-clause-exn c =
    let g = c.args.numbers.now in
    let x = c.args.state.now in
    let t = c.args.t in
    first_within (λ (f : Thrown). f.exn < length g.exceptions) t x.flight.items c.in-Some-first_to.thrown c.requires.flight
    (ap (λ fs. first_of (thrown_to t fs)) (sym c.as_slice.ensures.value) ∙ sym c.first_to.ensures ∙ c.in-Some-first_to.is)

pub returns-clause-is : goal.returns-clause-is
returns-clause-is c = λ b.
    let g = c.args.numbers.now in
    let x = c.args.state.now in
    let t = c.args.t in
    let th = c.in-Some.thread in
    let f = c.in-Some-first_to.thrown in
    let known = c.in_ok-next.ensures {u = tt} in
    let first : first_of (thrown_to t x.flight.items) ≡ Some f = ap (λ fs. first_of (thrown_to t fs)) (sym c.as_slice.ensures.value) ∙ sym c.first_to.ensures ∙ c.in-Some-first_to.is in
    let hears : is_receptive (thread_of g b th) ≡ true = cc (c.is_receptive.ensures b) in
    makes (λ b. receives t f.thrower (exception_at g f.exn)) (λ s. entered (funs_of b) s (entry.Receive t)) b g c.received.new.numbers x c.in_ok-next.next c.requires known.grows known.is
    (on_acting g b x t th (λ u. receive_entry t u (slots g b x)) (c.in-Some.ensures {u = tt})
    ∙ receive_first t (thread_of g b th) (slots g b x) f.thrower (exception_at g f.exn) hears (first_flying (exception_at g) t x.flight.items ∙ ap (map_thrown (exception_at g)) first))
