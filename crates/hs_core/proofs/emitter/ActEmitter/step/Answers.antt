use Rattle.std.proofs.Common.{refl, sym, subst}
use Rattle.std.specs.Prelude.{OnOk}
use Rattle.rules_expansion.specs.declared.template.Step.TheVariants as p
use Rattle.hs_core.specs.Making.{under, bound, restoring}
use Rattle.hs_core.specs.Waiting.{Moves}
use Rattle.hs_core.proofs.Waits.{as_moves, as_step}
use Rattle.hs_core.proofs.emitter.ActEmitter.step.Goals as goal

pub returns-in-Return : goal.returns-in-Return
returns-in-Return c = λ f s g n. as_step c.make_return.result c.args.self.now c.make_return.new.self c.args.making.now c.make_return.new.making c.args.defs.now f c.args.step p.Return c.in-Return.is (c.make_return.ensures c.args.defs.now)

pub returns-in-Throw : goal.returns-in-Throw
returns-in-Throw c = λ f s g n. as_step c.make_throw.result c.args.self.now c.make_throw.new.self c.args.making.now c.make_throw.new.making c.args.defs.now f c.args.step p.Throw c.in-Throw.is (c.make_throw.ensures c.args.defs.now)

pub returns-in-Let : goal.returns-in-Let
returns-in-Let c = λ f s g n. as_step c.make_let.result c.args.self.now c.make_let.new.self c.args.making.now c.make_let.new.making c.args.defs.now f c.args.step p.Let c.in-Let.is (c.make_let.ensures c.args.defs.now)

pub returns-in-Bind : goal.returns-in-Bind
returns-in-Bind c = λ f s g n. as_step c.make_bind.result c.args.self.now c.make_bind.new.self c.args.making.now c.make_bind.new.making c.args.defs.now f c.args.step p.Bind c.in-Bind.is (c.make_bind.ensures c.args.defs.now)

pub returns-in-Then : goal.returns-in-Then
returns-in-Then c = λ f s g n. as_step c.make_then.result c.args.self.now c.make_then.new.self c.args.making.now c.make_then.new.making c.args.defs.now f c.args.step p.Then c.in-Then.is (c.make_then.ensures c.args.defs.now)

pub returns-in-If : goal.returns-in-If
returns-in-If c = λ f s g n. as_step c.make_if.result c.args.self.now c.make_if.new.self c.args.making.now c.make_if.new.making c.args.defs.now f c.args.step p.If c.in-If.is (c.make_if.ensures c.args.defs.now)

pub returns-in-CaseEither : goal.returns-in-CaseEither
returns-in-CaseEither c = λ f s g n. as_step c.make_case_either.result c.args.self.now c.make_case_either.new.self c.args.making.now c.make_case_either.new.making c.args.defs.now f c.args.step p.CaseEither c.in-CaseEither.is (c.make_case_either.ensures c.args.defs.now)

pub returns-in-Fork : goal.returns-in-Fork
returns-in-Fork c = λ f s g n. as_step c.make_fork.result c.args.self.now c.make_fork.new.self c.args.making.now c.make_fork.new.making c.args.defs.now f c.args.step p.Fork c.in-Fork.is (c.make_fork.ensures c.args.defs.now)

pub returns-in-ForkUnmask : goal.returns-in-ForkUnmask
returns-in-ForkUnmask c = λ f s g n. as_step c.make_fork_unmask.result c.args.self.now c.make_fork_unmask.new.self c.args.making.now c.make_fork_unmask.new.making c.args.defs.now f c.args.step p.ForkUnmask c.in-ForkUnmask.is (c.make_fork_unmask.ensures c.args.defs.now)

pub returns-in-Catch : goal.returns-in-Catch
returns-in-Catch c = λ f s g n. as_step c.make_catch.result c.args.self.now c.make_catch.new.self c.args.making.now c.make_catch.new.making c.args.defs.now f c.args.step p.Catch c.in-Catch.is (c.make_catch.ensures c.args.defs.now)

pub returns-in-Mask : goal.returns-in-Mask
returns-in-Mask c = λ f s g n. as_step c.make_mask.result c.args.self.now c.make_mask.new.self c.args.making.now c.make_mask.new.making c.args.defs.now f c.args.step p.Mask c.in-Mask.is (c.make_mask.ensures c.args.defs.now)

pub returns-in-MaskHard : goal.returns-in-MaskHard
returns-in-MaskHard c = λ f s g n. as_step c.make_mask_hard.result c.args.self.now c.make_mask_hard.new.self c.args.making.now c.make_mask_hard.new.making c.args.defs.now f c.args.step p.MaskHard c.in-MaskHard.is (c.make_mask_hard.ensures c.args.defs.now)

pub returns-in-Perform : goal.returns-in-Perform
returns-in-Perform c = λ f s g n. as_step c.make_perform.result c.args.self.now c.make_perform.new.self c.args.making.now c.make_perform.new.making c.args.defs.now f c.args.step (p.Perform c.in-Perform.primitive) c.in-Perform.is (c.make_perform.ensures c.args.defs.now)

pub returns-in-PerformOne : goal.returns-in-PerformOne
returns-in-PerformOne c = λ f s g n. as_step c.make_perform_one.result c.args.self.now c.make_perform_one.new.self c.args.making.now c.make_perform_one.new.making c.args.defs.now f c.args.step (p.PerformOne c.in-PerformOne.primitive) c.in-PerformOne.is (c.make_perform_one.ensures c.args.defs.now)

pub returns-in-PerformTwo : goal.returns-in-PerformTwo
returns-in-PerformTwo c = λ f s g n. as_step c.make_perform_two.result c.args.self.now c.make_perform_two.new.self c.args.making.now c.make_perform_two.new.making c.args.defs.now f c.args.step (p.PerformTwo c.in-PerformTwo.primitive) c.in-PerformTwo.is (c.make_perform_two.ensures c.args.defs.now)

pub returns-in-Push : goal.returns-in-Push
returns-in-Push c = λ f s g n. as_step c.push.result c.args.self.now c.push.new.self c.args.making.now c.push.new.making c.args.defs.now f c.args.step (p.Push c.in-Push.what) c.in-Push.is (c.push.ensures f s g)

pub returns-in-Under : goal.returns-in-Under
returns-in-Under c =
    λ f s g n. as_step c.enter.result c.args.self.now c.enter.new.self c.args.making.now c.args.making.now c.args.defs.now f c.args.step (p.Under c.in-Under.x) c.in-Under.is
    (subst (λ y. OnOk c.enter.result (Moves c.args.defs.now c.args.self.now c.enter.new.self c.args.making.now c.args.making.now (λ z. under (bound y c.in-Under.x)))) (sym g) (c.enter.ensures c.args.defs.now c.args.making.now))

pub returns-in-Off : goal.returns-in-Off
returns-in-Off c = λ f s g n. as_moves c.args.defs.now f c.args.step p.Off c.in-Off.is (c.leave.ensures c.args.defs.now c.args.making.now refl)

pub returns-in-Restore : goal.returns-in-Restore
returns-in-Restore c =
    λ f s g n. as_step c.make_restore_bound.result c.args.self.now c.make_restore_bound.new.self c.args.making.now c.make_restore_bound.new.making c.args.defs.now f c.args.step (p.Restore c.in-Restore.x) c.in-Restore.is
    (subst (λ y. OnOk c.make_restore_bound.result (Moves c.args.defs.now c.args.self.now c.make_restore_bound.new.self c.args.making.now c.make_restore_bound.new.making (λ z. restoring z y c.in-Restore.x))) (sym g) (c.make_restore_bound.ensures c.args.defs.now))
