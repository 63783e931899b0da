use Rattle.std.proofs.Common.{sym, ap, ◌∙◌}
use Rattle.frame_stack.specs.Parts.{part_of}
use Rattle.slot_states.specs.Growing.{performed, forked, celled}
use Rattle.run_course.proofs.history_lemmas.Printing.{there, absent, act_op, act_none}
use Rattle.run_course.proofs.history.record.Record.makes.Goals as goal

pub returns-in-Some-clause-threads : goal.returns-in-Some-clause-threads
returns-in-Some-clause-threads c b =
    let w = c.args.self.now.world in
    let h = c.in-Some.ensures.lookup in
    let is = there c.deref.result.now w.threads.list.items c.in-Op.t c.in-Some.thread.now c.deref.ensures.value h.3.0 h.1 in
    c.made_by.ensures.threads b ∙ (ap (λ k. forked (performed (part_of b k))) c.control.ensures ∙ ap forked (sym (act_op w c.args.act c.in-Op.t c.in-Op.is c.in-Some.thread.now is b)))

pub returns-in-Some-clause-cells : goal.returns-in-Some-clause-cells
returns-in-Some-clause-cells c b =
    let w = c.args.self.now.world in
    let h = c.in-Some.ensures.lookup in
    let is = there c.deref.result.now w.threads.list.items c.in-Op.t c.in-Some.thread.now c.deref.ensures.value h.3.0 h.1 in
    c.made_by.ensures.cells b ∙ (ap (λ k. celled (performed (part_of b k))) c.control.ensures ∙ ap celled (sym (act_op w c.args.act c.in-Op.t c.in-Op.is c.in-Some.thread.now is b)))

pub returns-in-None-clause-threads : goal.returns-in-None-clause-threads
returns-in-None-clause-threads c b =
    let w = c.args.self.now.world in
    ap forked (sym (act_none w c.args.act c.in-Op.t c.in-Op.is (absent c.deref.result.now w.threads.list.items c.in-Op.t c.deref.ensures.value c.in-None.ensures.lookup.3) b))

pub returns-in-None-clause-cells : goal.returns-in-None-clause-cells
returns-in-None-clause-cells c b =
    let w = c.args.self.now.world in
    ap celled (sym (act_none w c.args.act c.in-Op.t c.in-Op.is (absent c.deref.result.now w.threads.list.items c.in-Op.t c.deref.ensures.value c.in-None.ensures.lookup.3) b))
