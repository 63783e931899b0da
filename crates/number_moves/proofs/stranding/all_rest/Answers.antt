use Rattle.std.proofs.Common.{◌≡◌, ◌+◌, ◌<◌, length, false, get_or, drop, map, sym, ap, ◌∙◌, arith}
use Rattle.slot_states.specs.entering.Entering.{rests, rest_from}
use Rattle.number_states.specs.declared.state.NumberThread.{NumberThread}
use Rattle.number_states.specs.States.{thread_of, slots}
use Rattle.number_moves.proofs.Strands.{rest_more}
use Rattle.number_moves.proofs.stranding.all_rest.Goals as goal

-- src/stranding.rt
pub loop-thread-preserved : goal.loop-thread-preserved
loop-thread-preserved c =
    let g = c.args.numbers.now in
    let x = c.args.state.now in
    let i = c.loop-thread.thread-index in
    let nobody : NumberThread = record { term = 0; blocked = false; finished = false } in
    let on : c.in-Some.next ≡ c.loop-thread.t + 1 = (c.in-Some.ensures {u = tt}).1 in
    let small : i < length x.threads.items = omega (arith, ap length c.deref-thread-items.ensures.value) in
    record {
      number = omega (arith, c.loop-thread.invariant.number);
      is = λ b.
          ap (λ k. rest_from (slots g b x).flight k (map (thread_of g b) (drop (i + 1) x.threads.items))) on
          ∙ rest_more (thread_of g b) (slots g b x).flight c.loop-thread.t i x.threads.items nobody small
          (ap (λ ths. rests (slots g b x).flight c.loop-thread.t (thread_of g b (get_or ths i nobody))) (sym c.deref-thread-items.ensures.value) ∙ sym (c.rests.ensures b) ∙ c.if-not-rests.false)
          ∙ c.loop-thread.invariant.is b;
    }
