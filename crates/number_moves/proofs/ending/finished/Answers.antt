use Rattle.std.proofs.Common.{ap, ◌∙◌}
use Rattle.slot_states.specs.SlotStates.{SlotState, finished_at, finishes}
use Rattle.number_states.specs.waits.Throwing.{thrown_to, throwers_of}
use Rattle.number_states.specs.Stocks.{exception_at}
use Rattle.number_states.specs.States.{slots}
use Rattle.number_states.proofs.Changes.{becomes_then}
use Rattle.number_changes.proofs.Made.{of_copy, becomes_as}
use Rattle.number_moves.proofs.Ended.{throwers_end, throwers_are, finishes_so}
use Rattle.number_moves.proofs.ending.finished.Goals as goal

-- src/ending.rt
pub returns-clause-is : goal.returns-clause-is
returns-clause-is c =
    let g = c.args.numbers.now in
    let h = c.answer_throwers.new.numbers in
    let x = c.args.state.now in
    let next = c.in_ok-next.next in
    let y = c.answer_throwers.new.state in
    let t = c.args.t in
    let us = c.as_slice-2.result.now in
    let are = c.as_slice-2.ensures.value ∙ c.in_ok-throwers.ensures {u = tt} ∙ ap (λ fs. throwers_of (thrown_to t fs)) c.as_slice.ensures.value ∙ throwers_are (exception_at g) t x.flight.items in
    becomes_as (λ b (s : SlotState). throwers_end us b (record s { threads = finished_at t s.threads })) (λ b. finishes t 0) g h x y (λ b. finishes_so t b (slots g b x) us are)
    (of_copy (λ b (s : SlotState). throwers_end us b (record s { threads = finished_at t s.threads })) g h x next y (c.in_ok-next.ensures {u = tt})
    (becomes_then (λ b (s : SlotState). record s { threads = finished_at t s.threads }) (throwers_end us) g g h next c.finish.new.self y c.finish.ensures (c.in_ok-answer_throwers.ensures {u = tt}).is))
