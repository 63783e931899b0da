-- The table of extents as the rules see it.
use Rattle.std.proofs.Common.{◌≡◌, ℕ, zero, suc, List, [], ◌∷◌, Some, None, refl, ap}
use Rattle.std.specs.Prelude.{slice_get}
use Rattle.rules_typing.specs.TypingSizes.{nil, extent_at}
use Rattle.typing_parts.proofs.Tables.{scope_of-length, scope_of-take}
use Rattle.typing_extents.specs.Measuring.{ext_of, exts_of}
use Rattle.typing_extents.specs.declared.meter.Extent.{Extent}

pub extent_known : (xs : List Extent) (k : ℕ) (x : Extent) → slice_get xs k ≡ Some x → extent_at (exts_of xs) k ≡ ext_of x
extent_known [] k x h = cc
extent_known (y ∷ xs) zero x h = ap ext_of cc
extent_known (y ∷ xs) (suc k) x h = extent_known xs k x h

pub extent_unknown : (xs : List Extent) (k : ℕ) → slice_get xs k ≡ None → extent_at (exts_of xs) k ≡ nil
extent_unknown [] k h = refl
extent_unknown (y ∷ xs) zero h = cc
extent_unknown (y ∷ xs) (suc k) h = extent_unknown xs k h

pub ruleset meter_rules = (extent_known, extent_unknown)

pub ruleset back_rules = (scope_of-length, scope_of-take)
