use Rattle.std.proofs.Common.{sym, ◌∙◌, subst}
use Rattle.conc_world.specs.Jobs.{NoneOut}
use Rattle.conc_world.proofs.Opening.{history_after}
use Rattle.conc_world.proofs.Turning.{only_goes, slice_more, some_is_ready, three_begin}
use Rattle.conc_world.proofs.running.turn.Goals as goal

pub unreachable-requires : goal.unreachable-requires
unreachable-requires g c =
    let mid = c.settle.new.self in
    let rests = only_goes mid.course.end mid.course.clocked.«record» c.in_ok-settle.ensures.settled (sym c.is_some.ensures ∙ c.if-is_some.false) in
    some_is_ready mid.course.clocked.«record» c.next_ready.new.self.course.clocked.«record» mid.tickets rests c.next_ready.ensures.same
    (subst NoneOut (sym c.settle.ensures.tickets.0) c.requires.idle) c.in_default.ensures.none

pub returns-clause-more : goal.returns-clause-more
returns-clause-more g c =
    let after = c.accept.new.self.course in
    slice_more c.args.desk.now.course.clocked.«record» c.settle.new.self.course.clocked.«record» c.next_ready.new.self.course.clocked.«record» after.clocked.«record» c.in_ok-slice.slice after.end
    c.accept.result (c.settle.ensures.goes.more, c.settle.ensures.goes.begins) c.next_ready.ensures.same c.accept.ensures.ok

pub returns-clause-begins : goal.returns-clause-begins
returns-clause-begins g c =
    let ready = c.next_ready.new.self.course.clocked.«record» in
    let after = c.accept.new.self.course in
    three_begin c.args.desk.now.course.clocked.«record» c.settle.new.self.course.clocked.«record» ready after.clocked.«record» (c.settle.ensures.goes.more, c.settle.ensures.goes.begins) c.next_ready.ensures.same.history
    (history_after c.in_ok-slice.slice after.end ready after.clocked.«record» c.accept.result c.accept.ensures.ok c.accept.ensures.err)
