use Rattle.std.proofs.Common.{sym, ap, ◌∙◌}
use Rattle.std.proofs.lemmas.Result.{IfOk-weaker}
use Rattle.frame_stack.specs.Parts.{part_of}
use Rattle.slot_states.specs.Printing.{output_of, errors_of, line_by}
use Rattle.run_course.proofs.history_lemmas.Printing.{there, absent, same_piece, op_output, op_errors, op_nothing, finish_output, finish_errors, finish_nothing}
use Rattle.run_course.proofs.history.record.Record.piece.Goals as goal

pub returns-in-Some : goal.returns-in-Some
returns-in-Some c =
    let w = c.args.self.now.world in
    let h = c.in-Some.ensures.lookup in
    let is = there c.deref.result.now w.threads.list.items c.in-Op.t c.in-Some.thread.now c.deref.ensures.value h.3.0 h.1 in
    IfOk-weaker c.printed.result _ _
    (λ p k b.
    same_piece p _ _ _ _
    (op_output w c.args.act c.in-Op.t c.in-Op.is c.in-Some.thread.now is b ∙ ap (λ z. output_of (part_of b z)) (sym c.control.ensures))
    (op_errors w c.args.act c.in-Op.t c.in-Op.is c.in-Some.thread.now is b ∙ ap (λ z. errors_of (part_of b z)) (sym c.control.ensures)) (k b))
    c.printed.ensures

pub returns-in-None : goal.returns-in-None
returns-in-None c =
    let w = c.args.self.now.world in
    op_nothing w c.args.act c.in-Op.t c.in-Op.is (absent c.deref.result.now w.threads.list.items c.in-Op.t c.deref.ensures.value c.in-None.ensures.lookup.3)

pub returns-in-Some-get : goal.returns-in-Some-get
returns-in-Some-get c =
    let w = c.args.self.now.world in
    let h = c.in-Some-get.ensures.lookup in
    let is = there c.deref-in-Finish.result.now w.threads.list.items c.in-Finish.t c.in-Some-get.thread.now c.deref-in-Finish.ensures.value h.3.0 h.1 in
    IfOk-weaker c.end_line.result _ _
    (λ p k b.
    same_piece p _ _ _ _
    (finish_output w c.args.act c.in-Finish.t c.in-Finish.is b)
    (finish_errors w c.args.act c.in-Finish.t c.in-Finish.is c.in-Some-get.thread.now is b ∙ ap (λ z. line_by c.in-Finish.t (part_of b z)) (sym c.control-in-Some-get.ensures)) (k b))
    c.end_line.ensures

pub returns-in-None-get : goal.returns-in-None-get
returns-in-None-get c =
    let w = c.args.self.now.world in
    finish_nothing w c.args.act c.in-Finish.t c.in-Finish.is (absent c.deref-in-Finish.result.now w.threads.list.items c.in-Finish.t c.deref-in-Finish.ensures.value c.in-None-get.ensures.lookup.3)
