use Rattle.run_course.proofs.More.{turns_less}
use Rattle.run_course.proofs.Kept.{is_none}
use Rattle.run_course.proofs.course.Course.settle_on.Goals as goal

pub loop-rests-smaller : goal.loop-rests-smaller
loop-rests-smaller g c =
    let old = c.loop-rests.self in
    let new = c.turn.new.self in
    turns_less c.loop-rests.rests c.in_ok-rests.rests old.end new.end old.clocked.«record» new.clocked.«record» c.loop-rests-test.true (is_none old.end c.is_none.result c.if-is_none.true c.is_none.ensures) c.turn.ensures.plan c.in_ok-rests.ensures.more
