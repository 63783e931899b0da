use Rattle.std.proofs.Common.{◌-◌, length, ap, sym, ◌∙◌, arith}
use Rattle.std.specs.Prelude.{slice_get}
use Rattle.hs_core.proofs.Openings.{closes_none, closes_more, closes_all}
use Rattle.hs_core.proofs.emitter.ActEmitter.closed.Goals as goal

pub back-init : goal.back-init
back-init c = λ os t. closes_none c.args.self.now c.args.pending os _ c.args.last t (ap length c.as_slice-items.ensures)

pub back-preserved : goal.back-preserved
back-preserved c =
    λ os t. closes_more c.args.pending os c.back.i (c.back.i - 1) c.item-one.result t (omega arith) (let l = ap length c.as_slice-items.ensures in omega (arith, l))
    (sym (ap (λ l. slice_get l (c.back.i - 1)) c.as_slice-items.ensures) ∙ c.item-one.ensures) (c.back.invariant os t) c.in_ok-id.ensures

pub returns : goal.returns
returns c = λ os t. closes_all os c.back.i t (omega arith) (c.back.invariant os t)
