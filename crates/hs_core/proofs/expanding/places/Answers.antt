use Rattle.std.proofs.Common.{◌≡◌, [], take, map, length, get_or, sym, ap, ◌∙◌, subst, arith}
use Rattle.rules_expansion.specs.trees.Programs.{fn_of}
use Rattle.rules_code.specs.Slots.{roots_of}
use Rattle.hs_nodes.specs.Standing.{Known}
use Rattle.hs_core.proofs.Placings.{places_step, one_more}
use Rattle.hs_core.proofs.expanding.places.Goals as goal

pub defs-preserved : goal.defs-preserved
defs-preserved c =
    λ n s. let h = c.defs.invariant n s in
    subst (λ z. Known c.place.new.emitter.nodes c.in_ok-places.places.all (roots_of z) × (c.place.new.emitter.scope ≡ []))
    (sym (one_more c.args.script.now.defs c.defs.def-index c.def-item.result (c.def-item.is ∙ ap (λ z. get_or z c.defs.def-index c.def-item.result) c.as_slice-def-items.ensures) (omega (arith, c.defs-test.true, ap length c.as_slice-def-items.ensures))))
    (places_step c.args.emitter.now c.defs.emitter c.place.new.emitter c.defs.places.all c.in_ok-places.places.all (map fn_of (take c.defs.def-index c.args.script.now.defs)) (fn_of c.def-item.result) h.1 h.0 c.in_ok-places.ensures)
