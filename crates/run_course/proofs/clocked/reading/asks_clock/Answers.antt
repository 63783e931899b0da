use Rattle.std.proofs.Common.{ap, ◌∙◌}
use Rattle.run_course.proofs.history_lemmas.Printing.{there, absent}
use Rattle.run_course.specs.clocked.Clocks.{is_timed}
use Rattle.run_course.proofs.clocked_lemmas.Timed.{asks_so, op_is_there}
use Rattle.run_course.proofs.clocked.reading.asks_clock.Goals as goal

pub returns-in-Some : goal.returns-in-Some
returns-in-Some c =
    let r = c.args.run.now in
    let h = c.in-Some.ensures.lookup in
    let is = there c.deref.result.now r.world.threads.list.items c.in-Op.t c.in-Some.thread.now c.deref.ensures.value h.3.0 h.1 in
    asks_so r c.args.act c.in-Op.t c.in-Op.is c.in-Some.thread.now is c.is_timed.result (c.is_timed.ensures ∙ ap is_timed c.control.ensures)

pub returns-in-None : goal.returns-in-None
returns-in-None c =
    let r = c.args.run.now in
    let none = absent c.deref.result.now r.world.threads.list.items c.in-Op.t c.deref.ensures.value c.in-None.ensures.lookup.3 in
    (λ e. absurd (cc e), λ a. absurd (op_is_there r c.args.act c.in-Op.t c.in-Op.is c.requires.1 none))
