use Rattle.std.proofs.Common.{[], take, map, length, get_or, sym, ap, ◌∙◌, subst, arith}
use Rattle.rules_expansion.specs.trees.Programs.{fn_of}
use Rattle.hs_core.specs.Placing.{Functions}
use Rattle.hs_core.proofs.Placings.{functions_none, functions_step, one_more}
use Rattle.hs_core.proofs.emitter.ActEmitter.functions.Goals as goal

pub each-init : goal.each-init
each-init c = subst (λ z. Functions c.args.defs.now c.args.self.now c.args.self.now [] z []) (sym c.new-funs.ensures) functions_none

pub each-preserved : goal.each-preserved
each-preserved c =
    subst (Functions c.args.defs.now c.args.self.now c.function.new.self [] c.function.new.funs)
    (sym (one_more c.args.script.now.defs c.each.def-index c.def-item.result (c.def-item.is ∙ ap (λ z. get_or z c.each.def-index c.def-item.result) c.as_slice-def-items.ensures) (omega (arith, c.each-test.true, ap length c.as_slice-def-items.ensures))))
    (functions_step (map fn_of (take c.each.def-index c.args.script.now.defs)) (fn_of c.def-item.result) c.each.invariant c.in_ok-function.ensures)
