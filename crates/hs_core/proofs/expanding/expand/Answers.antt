use Rattle.std.proofs.Common.{sym, ap, ◌∙◌, subst}
use Rattle.std.specs.Prelude.{slice_get, codes}
use Rattle.rules_code.specs.CodeTrees.{StandsFor}
use Rattle.hs_core.specs.Numbering.{index_among}
use Rattle.hs_core.specs.Placing.{main_id}
use Rattle.hs_core.proofs.Placings.{knows_all, all_stand}
use Rattle.hs_core.proofs.expanding.expand.Goals as goal

pub invariant_of-new : goal.invariant_of-new
invariant_of-new c =
    let script = c.args.checked.now.script in
    let defs = c.in_ok-defs.defs in
    let found = c.in_ok-places.ensures c.new.ensures c.new-2.ensures in
    let d = c.in_ok-defs.ensures in
    let end = c.functions.new.self in
    record {
      stands = ∣ subst (StandsFor end.emitter.nodes end.acts c.in_ok-funs.funs c.in_ok-main.main) (sym c.of-of.ensures) (all_stand defs (record { emitter = c.places.new.emitter; acts = c.new-3.result }) end c.in_ok-funs.funs c.in_ok-main.main script c.args.checked.now.accepted (d.2)
          (knows_all c.places.new.emitter.nodes defs c.in_ok-places.places.all script found.0 (ap (λ p. p.all) d.0) d.1 d.2) found.1 c.in_ok-funs.ensures
          (c.in_ok-main.ensures ∙ ap (main_id (slice_get c.in_ok-funs.funs (index_among defs.actions (codes "main")))) c.len.ensures)) ∣₁;
    }
