use Rattle.std.proofs.Common.{◌++◌, slice_set, sym, ap, ◌∙◌}
use Rattle.rules_waiting.specs.OneCell as one
use Rattle.number_states.specs.waits.Places.{answers}
use Rattle.number_changes.specs.Calling.{call_of, cell_in}
use Rattle.number_changes.proofs.Calls.{cell_there, cell_missing, set_nowhere}
use Rattle.number_changes.proofs.calling.call_at.Goals.{in-Some+in_ok-call_one-in-Some, in-None+in_ok-call_one-in-None}
use Rattle.number_changes.proofs.calling.call_at.Goals as goal

-- src/calling.rt
pub returns-clause-cells : goal.returns-clause-cells
returns-clause-cells c =
    let cs = c.args.cells.now.items in
    let m = c.args.cell in
    let q = call_of c.args.thread c.args.call in
    elim c.match-get_mut.branch [
      | in-Some+in_ok-call_one-in-Some w ↦
          let item = (w.in-Some.ensures {u = tt}).item in
          ap (λ v. v.items) w.cells-is ∙ ap (λ d. slice_set cs m d) (w.in_ok-call_one-in-Some.ensures.cell ∙ ap (λ d. (one.call q d).cell) (sym (cell_there cs m w.in-Some.found.now item.3.0 item.1)))
      | in-None+in_ok-call_one-in-None w ↦
          let big = (w.in-None.ensures {u = tt}).item.3 in
          ap (λ v. v.items) w.cells-is ∙ sym (set_nowhere cs m (one.call q (cell_in cs m)).cell big)
    ]

pub returns-clause-replies : goal.returns-clause-replies
returns-clause-replies c =
    let cs = c.args.cells.now.items in
    let m = c.args.cell in
    let q = call_of c.args.thread c.args.call in
    elim c.match-get_mut.branch [
      | in-Some+in_ok-call_one-in-Some w ↦
          let item = (w.in-Some.ensures {u = tt}).item in
          ap (λ v. answers v.items) w.replies-is ∙ w.in_ok-call_one-in-Some.ensures.replies ∙ ap (λ rs. answers rs ++ (one.call q w.in-Some.found.now).replies) c.new-replies.ensures.items ∙ ap (λ d. (one.call q d).replies) (sym (cell_there cs m w.in-Some.found.now item.3.0 item.1))
      | in-None+in_ok-call_one-in-None w ↦
          let big = (w.in-None.ensures {u = tt}).item.3 in
          ap (λ v. answers v.items) w.replies-is ∙ w.in_ok-call_one-in-None.ensures.replies ∙ ap (λ rs. answers rs ++ (one.call q w.made-empty.result).replies) c.new-replies.ensures.items ∙ ap (λ d. (one.call q d).replies) (w.made-empty.ensures ∙ sym (cell_missing cs m big))
    ]
