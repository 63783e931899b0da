use Rattle.std.proofs.Common.{[], ◌∷◌, ◌++◌, ◌||◌, cond, ltb, ap, ◌∙◌}
use Rattle.rules_expansion.specs.trees.Programs.{fn_of}
use Rattle.rules_typing.specs.Typing.{large}
use Rattle.rules_typing.specs.TypingSizes.{param_names, worst_body}
use Rattle.typing_judge.specs.JudgingScripts.{is_far}
use Rattle.typing_judge.specs.Least.{least}
use Rattle.typing_parts.specs.Views.{kept_of, scope_of}
use Rattle.typing_parts.specs.Contexts.{ctx_of}
use Rattle.typing_extents.specs.Measuring.{ext_of, exts_of}
use Rattle.hs_types.specs.Steps.{measured_of}
use Rattle.hs_types.proofs.Stepping.{advance, counted, measured_one, sound_extent, sound_noted}
use Rattle.hs_types.proofs.progress.Progress.add_sound.Goals as goal

pub returns : goal.returns
returns c =
    let ms = c.args.funs.now.types.nodes in
    let f = ctx_of c.args.funs.now in
    let d = fn_of c.args.d.now in
    let old = c.args.self.now in
    let new = c.check_size.new.self in
    let x = c.in_ok-x.x in
    let y = c.called.result in
    let t = c.count.new.self.total in
    let sized = counted x (worst_body f.sigs (exts_of old.meter.extents) (param_names [] d.params) d.body) c.in_ok-x.ensures.size c.in_ok-x.ensures.height in
    record {
      scope = ap (λ z. scope_of [] z.scope.items) c.check_size.ensures.0 ∙ (ap (λ z. scope_of [] z.items) c.in_ok-count.ensures.1 ∙ (c.in_ok-x.ensures.scope ∙ c.requires.scope));
      rest = advance f (kept_of ms old.first.fault) (kept_of ms new.first.fault) (measured_of old) (measured_of new) d
          (sound_noted f (kept_of ms old.first.fault) (kept_of ms new.first.fault) (measured_of old) d (ext_of x) t c.requires.sound sized c.in_ok-count.ensures.3
          (c.check_size.ensures.2 ∙ ap (λ z. least (kept_of ms z.fault) (cond (is_far (ext_of x) || ltb 1000000 t) (large d.name.pos ∷ []) [])) c.in_ok-count.ensures.0))
          (measured_one f.sigs old.meter.extents new.meter.extents old.total new.total d y
          (ap (λ z. z.extents) c.check_size.ensures.0 ∙ (c.in_ok-count.ensures.2 ∙ ap (λ z. z ++ y ∷ []) c.in_ok-x.ensures.before))
          (sound_extent f (exts_of old.meter.extents) d (ext_of x) (ext_of y) c.requires.sound c.called.ensures sized)
          (c.check_size.ensures.1 ∙ c.in_ok-count.ensures.3));
    }
