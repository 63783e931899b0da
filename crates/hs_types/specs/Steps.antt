-- What a step from definition to definition does.
use Rattle.std.specs.Prelude.{◌≡◌, ◌+◌, ◌||◌, List, [], ◌∷◌, ◌++◌, min, cond, ltb}
use Rattle.hs_base.specs.declared.pos.Pos.{Pos}
use Rattle.rules_expansion.specs.Sizes.{body_size}
use Rattle.rules_expansion.specs.trees.Programs.{Bd, pure_body, io_body, Fn}
use Rattle.rules_typing.specs.Typing.{Ctx, large}
use Rattle.rules_typing.specs.TypingSizes as rule
use Rattle.rules_typing.specs.TypingScripts.{Measured}
use Rattle.typing_judge.specs.JudgingScripts.{faults_from, is_far}
use Rattle.typing_judge.specs.Least.{least}
use Rattle.typing_table.specs.declared.table.TypeNode.{TypeNode}
use Rattle.typing_parts.specs.Views.{kept_of, scope_of, sigs_of}
use Rattle.typing_parts.specs.declared.funs.Funs.{Funs}
use Rattle.typing_extents.specs.Measuring.{ext_of, exts_of}
use Rattle.typing_extents.specs.declared.meter.Extent.{Extent}
use Rattle.hs_types.specs.declared.progress.Progress.{Progress}

-- what was measured, in counts
abbrev pub measured_of : Progress → Measured
measured_of p = record { extents = exts_of p.meter.extents; total = p.total }

-- what a call unfolds to, where the greatest expression of the body unfolds to x
abbrev pub of_call : Bd → rule.Extent → rule.Extent
of_call (pure_body w e) x = x
of_call (io_body w a) x = rule.nil

-- One definition was judged and measured. Whatever definitions follow, the first broken rule of all is the same by the
-- counts before the step and by those after it.
pub record Advanced (ms : List TypeNode) (old new : Progress) (c : Ctx) (d : Fn) : Type 0 where
  pub scope : scope_of [] new.meter.scope.items ≡ []
  pub rest : (ds : List Fn) → least (kept_of ms new.first.fault) (faults_from c.sigs (measured_of new) (c.here + 1) ds) ≡ least (kept_of ms old.first.fault) (faults_from c.sigs (measured_of old) c.here (d ∷ ds))

-- What a call of one more definition unfolds to was put behind the others, and its size added.
abbrev pub Counted : Progress → Progress → Extent → Bd → Type 0
Counted old new x b = (new.first ≡ old.first) × (new.meter.scope ≡ old.meter.scope) × (new.meter.extents ≡ old.meter.extents ++ x ∷ []) × (new.total ≡ min (old.total + body_size b) 1000001)

-- A definition is noted as too large where its greatest expression reaches too far, or all sizes so far come to too much.
abbrev pub Sized : List TypeNode → Progress → Progress → Pos → Extent → Type 0
Sized ms old new p x = (new.meter ≡ old.meter) × (new.total ≡ old.total) × (kept_of ms new.first.fault ≡ least (kept_of ms old.first.fault) (cond (is_far (ext_of x) || ltb 1000000 old.total) (large p ∷ []) []))

-- All these definitions were judged: what is kept is the first broken rule, and the heads of the functions stay.
abbrev pub AdvancedAll : Funs → Funs → Progress → Progress → List Fn → Type 0
AdvancedAll f g old new ds = (kept_of f.types.nodes new.first.fault ≡ least (kept_of f.types.nodes old.first.fault) (faults_from (sigs_of f.types.nodes f.sigs) (measured_of old) 0 ds)) × (g.types ≡ f.types) × (g.sigs ≡ f.sigs)
