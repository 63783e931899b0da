use Rattle.std.proofs.Common.{sym, subst}
use Rattle.std.specs.Prelude.{IfOk}
use Rattle.hs_rules.specs.declared.entry.Entry.{Entry}
use Rattle.hs_rules.specs.declared.entry.Entry.TheVariants as entry
use Rattle.rules_code.specs.Codes.{body_of}
use Rattle.trace_checker.specs.player.Entering.{TriedOf}
use Rattle.trace_checker.proofs.player_lemmas.Following.{stood_lives, tried_as}
use Rattle.trace_checker.proofs.player.entering.enter.Goals as goal

pub op-requires-clause-live : goal.op-requires-clause-live
op-requires-clause-live c = stood_lives (body_of c.args.code.now) c.args.world.now c.requires.live

pub receive-requires-clause-live : goal.receive-requires-clause-live
receive-requires-clause-live c = stood_lives (body_of c.args.code.now) c.args.world.now c.requires.live

pub wake-requires-clause-live : goal.wake-requires-clause-live
wake-requires-clause-live c = stood_lives (body_of c.args.code.now) c.args.world.now c.requires.live

pub finish-requires-clause-live : goal.finish-requires-clause-live
finish-requires-clause-live c = stood_lives (body_of c.args.code.now) c.args.world.now c.requires.live

pub strand-requires-clause-live : goal.strand-requires-clause-live
strand-requires-clause-live c = stood_lives (body_of c.args.code.now) c.args.world.now c.requires.live

pub returns-in-Op-clause-tried : goal.returns-in-Op-clause-tried
returns-in-Op-clause-tried c = tried_as c.op.result (body_of c.args.code.now) c.args.entry (entry.Op c.in-Op.t) c.args.world.now c.op.new.world c.in-Op.is c.op.ensures.tried

pub returns-in-Finish-clause-tried : goal.returns-in-Finish-clause-tried
returns-in-Finish-clause-tried c = tried_as c.finish.result (body_of c.args.code.now) c.args.entry (entry.Finish c.in-Finish.t) c.args.world.now c.finish.new.world c.in-Finish.is c.finish.ensures.tried

pub returns-in-Stranded-clause-tried : goal.returns-in-Stranded-clause-tried
returns-in-Stranded-clause-tried c = tried_as c.strand.result (body_of c.args.code.now) c.args.entry entry.Stranded c.args.world.now c.strand.new.world c.in-Stranded.is c.strand.ensures.tried

pub returns-in-Receive-clause-tried : goal.returns-in-Receive-clause-tried
returns-in-Receive-clause-tried c =
    let b = body_of c.args.code.now in
    subst (λ (e : Entry). TriedOf b e c.args.world.now c.receive.new.world c.receive.result) (sym c.in-Receive.is) (c.receive.ensures b)

pub returns-in-Wake-clause-tried : goal.returns-in-Wake-clause-tried
returns-in-Wake-clause-tried c =
    let b = body_of c.args.code.now in
    subst (λ (e : Entry). TriedOf b e c.args.world.now c.wake.new.world c.wake.result) (sym c.in-Wake.is) (c.wake.ensures b)

pub returns-in-Tick-clause-tried : goal.returns-in-Tick-clause-tried
returns-in-Tick-clause-tried c =
    let b = body_of c.args.code.now in
    subst (λ (e : Entry). TriedOf b e c.args.world.now c.tick.new.world c.tick.result) (sym c.in-Tick.is) (c.tick.ensures b)

pub returns-in-Local-clause-tried : goal.returns-in-Local-clause-tried
returns-in-Local-clause-tried c =
    let b = body_of c.args.code.now in
    subst (λ (e : Entry). IfOk c.local.result (λ done. TriedOf b e c.args.world.now c.local.new.world done)) (sym c.in-Local.is) c.local.ensures.tried
