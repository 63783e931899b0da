use Rattle.std.proofs.Common.{ap, sym, ◌∙◌}
use Rattle.rules_expansion.specs.trees.Trees.{ex_of, wr_of}
use Rattle.rules_expansion.specs.trees.Programs.{fn_of, bd_of, bl_of}
use Rattle.hs_core.proofs.Placings.{place_pure, place_none, texts_length}
use Rattle.hs_core.proofs.expanding.place.Goals as goal

pub returns-in_ok-more-in-Pure : goal.returns-in_ok-more-in-Pure
returns-in_ok-more-in-Pure c =
    let h = c.in_ok-node-in-Pure.ensures in
    place_pure c.args.emitter.now c.pure_body.new.emitter c.args.places.all c.in_ok-more-in-Pure.more.all (fn_of c.args.def.now) (ex_of c.in-Pure.e) (wr_of c.in-Pure.field-0)
    (record { text = c.in_ok-text-in-Pure.text; params = c.len-params.result; node = c.in_ok-node-in-Pure.node }) (ap bd_of c.in-Pure.is) h.nodes h.scope h.is
    c.in_ok-text-in-Pure.ensures (c.len-params.ensures ∙ sym (texts_length c.args.def.now.params)) c.in_ok-more-in-Pure.ensures

pub returns-in-Action : goal.returns-in-Action
returns-in-Action c = place_none c.args.emitter.now c.args.places.all (fn_of c.args.def.now) (bl_of c.in-Action.field-1) (wr_of c.in-Action.field-0) (ap bd_of c.in-Action.is)
