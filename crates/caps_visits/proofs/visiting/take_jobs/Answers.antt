use Rattle.std.proofs.Common.{◌∙◌, refl, arith}
use Rattle.conc_turn.proofs.Prefixes.{prefix_self, prefix_trans}
use Rattle.caps_visits.proofs.visiting.take_jobs.Goals as goal

pub loop-init : goal.loop-init
loop-init g c = (c.requires.hand, refl, prefix_self (g.D.Kept.history c.args.desk.now), refl)

pub loop-preserved : goal.loop-preserved
loop-preserved g c =
    let was = c.loop.invariant in
    let past = g.D.Kept.history in
    (c.push.ensures.hand.0, c.next_job.ensures.plan ∙ was.1, prefix_trans (past c.args.desk.now) (past c.loop.desk) (past c.next_job.new.self) was.2 c.next_job.ensures.history, omega arith)
