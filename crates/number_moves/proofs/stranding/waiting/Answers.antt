use Rattle.std.proofs.Common.{◌≡◌, ℕ, ◌+◌, ◌<◌, ◌++◌, [], ◌∷◌, true, false, Vec, Global, length, get_or, drop, map, sym, ap, ◌∙◌, arith}
use Rattle.std.proofs.lemmas.List.{append-nil}
use Rattle.slot_states.specs.entering.Entering.{waits_open, waiting_from}
use Rattle.rules_code.specs.declared.code.CodeBody.{CodeBody}
use Rattle.number_states.specs.declared.state.NumberThread.{NumberThread}
use Rattle.number_states.specs.States.{thread_of}
use Rattle.number_moves.proofs.Strands.{waiting_more}
use Rattle.number_moves.proofs.stranding.waiting.Goals as goal
use Rattle.number_moves.proofs.stranding.waiting.Goals.{then-waits_open+in_ok-reserve, else-waits_open}

-- src/stranding.rt
pub loop-thread-preserved : goal.loop-thread-preserved
loop-thread-preserved c =
    let g = c.args.numbers.now in
    let x = c.args.state.now in
    let i = c.loop-thread.thread-index in
    let t = c.loop-thread.t in
    let us = c.if-waits_open.waiting.items in
    let ws = c.loop-thread.waiting.items in
    let nobody : NumberThread = record { term = 0; blocked = false; finished = false } in
    let here : (b : CodeBody) → waits_open (thread_of g b (get_or x.threads.items i nobody)) ≡ c.waits_open.result =
    λ b. ap (λ ths. waits_open (thread_of g b (get_or ths i nobody))) (sym c.deref-thread-items.ensures.value) ∙ sym (c.waits_open.ensures b) in
    let on : c.in-Some.next ≡ t + 1 = (c.in-Some.ensures {u = tt}).1 in
    let small : i < length x.threads.items = omega (arith, ap length c.deref-thread-items.ensures.value) in
    record {
      number = omega (arith, c.loop-thread.invariant.number);
      is = λ b.
          ap (λ k. us ++ waiting_from k (map (thread_of g b) (drop (i + 1) x.threads.items))) on
          ∙ elim c.if-waits_open.branch [
            | then-waits_open+in_ok-reserve w ↦
                waiting_more (thread_of g b) ws us t i x.threads.items nobody true small (sym (here b ∙ w.if-waits_open.true))
                (ap (λ (v : Vec ℕ Global). v.items) w.waiting-is ∙ w.push_reserved.ensures.items ∙ ap (λ vs. vs ++ t ∷ []) w.reserve.ensures.items)
            | else-waits_open w ↦
                waiting_more (thread_of g b) ws us t i x.threads.items nobody false small (sym (here b ∙ w.if-waits_open.false)) (ap (λ (v : Vec ℕ Global). v.items) w.waiting-is ∙ sym (append-nil ws))
          ]
          ∙ c.loop-thread.invariant.is b;
    }
