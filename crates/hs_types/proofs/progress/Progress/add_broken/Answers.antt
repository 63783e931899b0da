use Rattle.std.proofs.Common.{[], ◌∷◌, ◌++◌, ap, ◌∙◌}
use Rattle.rules_expansion.specs.trees.Programs.{fn_of}
use Rattle.rules_typing.specs.TypingScripts.{fn_extent}
use Rattle.typing_parts.specs.Views.{broken_of, kept_of, scope_of}
use Rattle.typing_parts.specs.Contexts.{ctx_of}
use Rattle.typing_extents.specs.Measuring.{exts_of}
use Rattle.hs_types.specs.Steps.{measured_of}
use Rattle.hs_types.proofs.Stepping.{advance, counted, measured_one, broken_noted}
use Rattle.hs_types.proofs.progress.Progress.add_broken.Goals as goal

pub returns : goal.returns
returns c =
    let ms = c.args.funs.now.types.nodes in
    let f = ctx_of c.args.funs.now in
    let d = fn_of c.args.d.now in
    let old = c.args.self.now in
    let new = c.count.new.self in
    let x = c.in_ok-x.x in
    record {
      scope = ap (λ z. scope_of [] z.items) c.in_ok-count.ensures.1 ∙ (c.in_ok-x.ensures.scope ∙ c.requires.scope);
      rest = advance f (kept_of ms old.first.fault) (kept_of ms new.first.fault) (measured_of old) (measured_of new) d
          (broken_noted f (kept_of ms old.first.fault) (kept_of ms new.first.fault) (measured_of old) d (broken_of ms c.args.f) c.requires.first
          (ap (λ z. kept_of ms z.fault) c.in_ok-count.ensures.0 ∙ c.note.ensures))
          (measured_one f.sigs old.meter.extents new.meter.extents old.total new.total d x
          (c.in_ok-count.ensures.2 ∙ ap (λ z. z ++ x ∷ []) c.in_ok-x.ensures.before)
          (counted x (fn_extent f.sigs (exts_of old.meter.extents) d) c.in_ok-x.ensures.size c.in_ok-x.ensures.height)
          c.in_ok-count.ensures.3);
    }
