use Rattle.std.proofs.Common.{◌∙◌, refl}
use Rattle.conc_turn.proofs.Prefixes.{prefix_self, prefix_trans}
use Rattle.caps_visits.proofs.visiting.raise_overtaken.Goals as goal

pub loop-init : goal.loop-init
loop-init g c = (c.requires, refl, prefix_self (g.D.Kept.history c.args.desk.now))

pub loop-preserved : goal.loop-preserved
loop-preserved g c =
    let was = c.loop.invariant in
    let past = g.D.Kept.history in
    (c.raise.ensures.hand.0, c.overtaken.ensures.plan ∙ was.1, prefix_trans (past c.args.desk.now) (past c.loop.desk) (past c.overtaken.new.self) was.2 c.overtaken.ensures.history)
