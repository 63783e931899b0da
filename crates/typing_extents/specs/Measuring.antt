-- What a step of the meter does.
use Rattle.std.specs.Prelude.{◌≡◌, ◌+◌, ◌-◌, ◌≤◌, List, [], ◌∷◌, length, drop, min, max, Result, IfOk}
use Rattle.hs_base.specs.declared.no_memory.NoMemory.{NoMemory}
use Rattle.rules_typing.specs.TypingSizes as rule
use Rattle.rules_expansion.specs.trees.Programs.{Bl}
use Rattle.rules_typing.specs.Typing.{Sig, TypedName}
use Rattle.typing_parts.specs.Views.{scope_of, sigs_of}
use Rattle.typing_parts.specs.declared.funs.Funs.{Funs}
use Rattle.typing_extents.specs.declared.meter.Extent.{Extent}
use Rattle.typing_extents.specs.declared.meter.Meter.{Meter}

abbrev pub ext_of : Extent → rule.Extent
ext_of x = record { size = x.size; height = x.height }

abbrev pub exts_of : List Extent → List rule.Extent
exts_of [] = []
exts_of (x ∷ xs) = ext_of x ∷ exts_of xs

-- the scope and the definitions before stay, and x is that extent in counts
pub record Extends (old new : Meter) (x : Extent) (y : rule.Extent) : Type 0 where
  pub scope : scope_of [] new.scope.items ≡ scope_of [] old.scope.items
  pub before : new.extents ≡ old.extents
  pub size : x.size ≡ min y.size 1000001
  pub height : x.height ≡ min y.height 1000001

-- Where memory sufficed, the extent was answered that the rules give by the functions, by the definitions before and by the
-- scope that stood before.
abbrev pub MeasuredAs : Funs → Meter → Meter → Result Extent NoMemory → (List Sig → List rule.Extent → List TypedName → rule.Extent) → Type 0
MeasuredAs f old new result given = IfOk result (λ x. Extends old new x (given (sigs_of f.types.nodes f.sigs) (exts_of old.extents) (scope_of [] old.scope.items)))

-- part of a row of parts was measured: x, and what is left, make the whole
pub record Sofar (old new : Meter) (x : Extent) (left whole : rule.Extent) : Type 0 where
  pub scope : scope_of [] new.scope.items ≡ scope_of [] old.scope.items
  pub before : new.extents ≡ old.extents
  pub size : min (x.size + left.size) 1000001 ≡ min whole.size 1000001
  pub height : min (max x.height left.height) 1000001 ≡ min whole.height 1000001
  pub narrow : x.size ≤ 1000001
  pub low : x.height ≤ 1000001

-- part of a row of expressions was measured, each for itself
pub record Worst (old new : Meter) (x : Extent) (left whole : rule.Extent) : Type 0 where
  pub scope : scope_of [] new.scope.items ≡ scope_of [] old.scope.items
  pub before : new.extents ≡ old.extents
  pub size : min (max x.size left.size) 1000001 ≡ min whole.size 1000001
  pub height : min (max x.height left.height) 1000001 ≡ min whole.height 1000001
  pub narrow : x.size ≤ 1000001
  pub low : x.height ≤ 1000001

-- a statement was measured and its name bound: what is left of its block makes the whole with x
pub record Worsens (gs : List Sig) (old new : Meter) (x : Extent) (st : Bl → Bl) : Type 0 where
  pub long : length (scope_of [] old.scope.items) ≤ length (scope_of [] new.scope.items)
  pub back : drop (length (scope_of [] new.scope.items) - length (scope_of [] old.scope.items)) (scope_of [] new.scope.items) ≡ scope_of [] old.scope.items
  pub before : new.extents ≡ old.extents
  pub size : (rest : Bl) → min (rule.worst_bl gs (exts_of old.extents) (scope_of [] old.scope.items) (st rest)).size 1000001 ≡ min (max x.size (rule.worst_bl gs (exts_of old.extents) (scope_of [] new.scope.items) rest).size) 1000001
  pub height : (rest : Bl) → min (rule.worst_bl gs (exts_of old.extents) (scope_of [] old.scope.items) (st rest)).height 1000001 ≡ min (max x.height (rule.worst_bl gs (exts_of old.extents) (scope_of [] new.scope.items) rest).height) 1000001
  pub narrow : x.size ≤ 1000001
  pub low : x.height ≤ 1000001
