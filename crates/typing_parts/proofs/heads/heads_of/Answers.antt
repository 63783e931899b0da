use Rattle.std.proofs.Common.{length, ap, ◌∙◌, arith, get_or}
use Rattle.typing_parts.proofs.HeadSteps.{heads_step}
use Rattle.typing_parts.proofs.heads.heads_of.Goals as goal

pub defs-preserved : goal.defs-preserved
defs-preserved c = heads_step c.defs.interner.types.nodes c.fun_of.new.interner.types.nodes c.args.ds.now c.defs.i c.d-item.result c.defs.sigs c.add.new.self c.in_ok-fun_of.field-0 (omega (arith, ap length c.as_slice-d-items.ensures)) (c.d-item.is ∙ ap (λ z. get_or z c.defs.i c.d-item.result) c.as_slice-d-items.ensures) c.in_ok-add.ensures.ok c.in_ok-fun_of.ensures c.defs.invariant
