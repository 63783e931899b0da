use Rattle.std.proofs.Common.{◌∙◌, refl}
use Rattle.conc_turn.proofs.Prefixes.{prefix_self, prefix_trans}
use Rattle.caps_visits.proofs.visiting.commit_inbox.Goals as goal

pub loop-init : goal.loop-init
loop-init g c = (c.requires.hand, refl, prefix_self (g.D.Kept.history c.args.desk.now))

pub loop-preserved : goal.loop-preserved
loop-preserved g c =
    let was = c.loop.invariant in
    let past = g.D.Kept.history in
    (c.collect.ensures.hand.0, c.commit_one.ensures.plan ∙ was.1, prefix_trans (past c.args.desk.now) (past c.loop.desk) (past c.commit_one.new.desk) was.2 c.commit_one.ensures.history)
