use Rattle.std.proofs.Common.{ap, ◌∙◌, refl}
use Rattle.rules_expansion.specs.trees.Trees.{ex_of, wr_of}
use Rattle.rules_expansion.specs.trees.Programs.{fn_of, bd_of, bl_of}
use Rattle.hs_core.proofs.Placings.{function_made, function_none}
use Rattle.hs_core.proofs.emitter.ActEmitter.function.Goals as goal

pub returns-in-Pure : goal.returns-in-Pure
returns-in-Pure c = function_none c.args.funs.now (fn_of c.args.def.now) (ex_of c.in-Pure.field-1) (wr_of c.in-Pure.field-0) (ap bd_of c.in-Pure.is)

pub returns-in_ok-add-in-Action : goal.returns-in_ok-add-in-Action
returns-in_ok-add-in-Action c =
    function_made c.args.funs.now c.add.new.self (fn_of c.args.def.now) c.args.def.now.params (bl_of c.in-Action.b) (wr_of c.in-Action.field-0) (record { params = c.in_ok-params-in-Action.params; body = c.in_ok-body-in-Action.body }) refl (ap bd_of c.in-Action.is)
    c.in_ok-body-in-Action.ensures (c.in_ok-params-in-Action.ensures ∙ c.len.ensures) c.in_ok-add-in-Action.ensures.ok
