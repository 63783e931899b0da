use Rattle.conc_turn.proofs.Later.{later_self, later_trans}
use Rattle.caps_visits.proofs.working.work.Goals as goal

pub loop-init : goal.loop-init
loop-init g c = (later_self c.args.me.seat, c.requires.hand, tt)

pub loop-preserved : goal.loop-preserved
loop-preserved g c =
    let next = c.step-then.ensures in
    (later_trans c.args.me.seat c.loop.now.seat c.step-then.result.0.seat c.loop.invariant.0 next.seat, next.hand, next.next)
