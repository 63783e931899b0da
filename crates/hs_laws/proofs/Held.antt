-- What a masked scope is inside.
use Rattle.hs_base.specs.declared.mask.Mask.{Mask}
use Rattle.hs_base.specs.declared.mask.Mask.TheVariants.{Unmasked, Masked, Uninterruptible}
use Rattle.hs_base.specs.Masks.{join_of}
use Rattle.hs_laws.specs.BracketLaw.{IsMasked}

pub join_masked : (s : Mask) → IsMasked (join_of Masked s)
join_masked Unmasked = tt
join_masked Masked = tt
join_masked Uninterruptible = tt
