-- The order of masking states: Unmasked, Masked, Uninterruptible (the order of `MaskingState` in `Control.Exception`).
use Rattle.std.specs.Prelude.{ℕ, ltb, cond}
use Rattle.hs_base.specs.declared.mask.Mask.{Mask}
use Rattle.hs_base.specs.declared.mask.Mask.TheVariants.{Unmasked, Masked, Uninterruptible}

-- the place of a state in that order
abbrev pub rank_of : Mask → ℕ
rank_of Unmasked = 0
rank_of Masked = 1
rank_of Uninterruptible = 2

-- the later of the two
abbrev pub join_of : Mask → Mask → Mask
join_of a b = cond (ltb (rank_of a) (rank_of b)) b a
