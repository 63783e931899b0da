use Rattle.std.proofs.Common.{◌≡◌, ℕ, List, [], Some, length, sym, ap, ◌∙◌}
use Rattle.std.specs.String.{string_bytes}
use Rattle.hs_rules.specs.Entries.{uncaught_line}
use Rattle.rules_meaning.specs.Values.{value_of}
use Rattle.slot_laws.specs.SlotRules.{ret, throw}
use Rattle.local_steps.specs.Machine.{active_of}
use Rattle.slot_states.specs.SlotStates.{finishes}
use Rattle.number_states.specs.States.{slots}
use Rattle.number_states.specs.Stocks.{term_at}
use Rattle.number_states.proofs.Growth.{stock_same}
use Rattle.number_moves.proofs.Ended.{bare_frames, finishes_none, finish_found}
use Rattle.number_moves.proofs.ending.finish.Goals as goal
use Rattle.number_moves.proofs.ending.finish.Goals.{in-Ret, in-Throw+in_ok-line-in-Throw}

-- src/ending.rt
pub returns-in_default-part : goal.returns-in_default-part
returns-in_default-part c =
    let g = c.args.numbers.now in
    let th = c.in-Some.thread in
    record {
      is = λ b. finishes_none b g c.args.state.now c.args.t th (c.in-Some.ensures {u = tt}) c.if-thread.false (bare_frames (term_at g b th.term).frames c.depth.result (c.depth.ensures b) c.if-depth-ne0.false) c.part.result.now (c.part.ensures b) c.in_default-part.not-Ret c.in_default-part.not-Throw;
      grows = stock_same g;
    }

pub returns-clause-is : goal.returns-clause-is
returns-clause-is c = λ b.
    let g = c.args.numbers.now in
    let x = c.args.state.now in
    let t = c.args.t in
    let th = c.in-Some.thread in
    let line = c.as_str.result.now in
    let bare = bare_frames (term_at g b th.term).frames c.depth.result (c.depth.ensures b) c.if-depth-ne0.false in
    let known = (c.in_ok-next.ensures {u = tt}).is b in
    let found = finish_found b g x t th (c.in-Some.ensures {u = tt}) c.if-thread.false bare c.finished_with.new.numbers c.in_ok-next.next line in
    elim c.match-part.branch [
      | in-Ret w ↦
          let none : line ≡ [] = c.as_str.ensures.value ∙ ap string_bytes w.line-is ∙ w.new-line.ensures.bytes in
          found (ret (value_of w.in-Ret.field-0)) (sym (c.part.ensures b) ∙ ap (active_of b) w.in-Ret.is) (ap (λ (l : List ℕ). Some (finishes t (length l) (slots g b x))) (sym none)) (sym none) known
      | in-Throw+in_ok-line-in-Throw w ↦
          let said : line ≡ uncaught_line t w.in-Throw.exn = c.as_str.ensures.value ∙ ap string_bytes w.line-is ∙ w.in_ok-line-in-Throw.ensures {u = tt} in
          found (throw w.in-Throw.exn) (sym (c.part.ensures b) ∙ ap (active_of b) w.in-Throw.is) (ap (λ (l : List ℕ). Some (finishes t (length l) (slots g b x))) (sym said)) (sym said) known
    ]
