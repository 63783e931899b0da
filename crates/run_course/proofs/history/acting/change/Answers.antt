use Rattle.std.proofs.Common.{sym, subst}
use Rattle.world_entries.specs.Worlds.{Makes}
use Rattle.world_entries.proofs.Waiters.{first_is_due}
use Rattle.run_course.specs.declared.history.acts.NextEntry.{NextEntry}
use Rattle.run_course.specs.history.Acts.{entry_of}
use Rattle.run_course.specs.history.Records.{Can, PrintsIn}
use Rattle.run_course.proofs.history_lemmas.Asking.{op_stands, ends_so}
use Rattle.run_course.proofs.history.acting.change.Goals as goal

pub op-requires-clause-stands : goal.op-requires-clause-stands
op-requires-clause-stands c = op_stands c.args.world.now c.in-Op.t (subst (λ (a : NextEntry). Can a c.args.world.now) c.in-Op.is c.requires.can)

pub finish-requires-clause-ends : goal.finish-requires-clause-ends
finish-requires-clause-ends c =
    let w = c.args.world.now in
    let b = c.requires.bytes.0 in
    ends_so w c.in-Finish.t c.args.bytes (subst (λ (a : NextEntry). Can a w) c.in-Finish.is c.requires.can) b (subst (λ (a : NextEntry). PrintsIn b c.args.bytes a w) c.in-Finish.is c.requires.bytes.1)

pub wake-requires-clause-due : goal.wake-requires-clause-due
wake-requires-clause-due c = first_is_due c.args.world.now c.requires.live c.in-Wake.t (subst (λ (a : NextEntry). Can a c.args.world.now) c.in-Wake.is c.requires.can)

pub returns-in_ok-op-in-Op-clause-ok : goal.returns-in_ok-op-in-Op-clause-ok
returns-in_ok-op-in-Op-clause-ok c = subst (λ (a : NextEntry). Makes (entry_of a) c.args.world.now c.op.new.self) (sym c.in-Op.is) c.in_ok-op-in-Op.ensures.ok

pub returns-in-Finish-clause-ok : goal.returns-in-Finish-clause-ok
returns-in-Finish-clause-ok c = subst (λ (a : NextEntry). Makes (entry_of a) c.args.world.now c.finish.new.self) (sym c.in-Finish.is) c.finish.ensures

pub returns-in-Local-clause-ok : goal.returns-in-Local-clause-ok
returns-in-Local-clause-ok c = subst (λ (a : NextEntry). Makes (entry_of a) c.args.world.now c.pop.new.self) (sym c.in-Local.is) c.pop.ensures

pub returns-in-Receive-clause-ok : goal.returns-in-Receive-clause-ok
returns-in-Receive-clause-ok c = subst (λ (a : NextEntry). Makes (entry_of a) c.args.world.now c.receive.new.self) (sym c.in-Receive.is) c.receive.ensures

pub returns-in-Wake-clause-ok : goal.returns-in-Wake-clause-ok
returns-in-Wake-clause-ok c = subst (λ (a : NextEntry). Makes (entry_of a) c.args.world.now c.wake.new.self) (sym c.in-Wake.is) c.wake.ensures

pub returns-in-Strand-clause-ok : goal.returns-in-Strand-clause-ok
returns-in-Strand-clause-ok c = subst (λ (a : NextEntry). Makes (entry_of a) c.args.world.now c.strand.new.self) (sym c.in-Strand.is) c.strand.ensures
