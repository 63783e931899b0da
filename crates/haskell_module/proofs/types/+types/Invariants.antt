use Rattle.std.proofs.Common.{◌+◌, ◌*◌, max}
use Rattle.hs_base.specs.declared.tree.ty.Ty.{size-Ty}
use Rattle.haskell_module.proofs.types.+types.Given as goal

-- Each goes down its types; of those that are given one whole the caller stands above.
abbrev pub decreases-write_type : goal.decreases-write_type
decreases-write_type l = 4 * goal.size-write_type l

abbrev pub decreases-write_one : goal.decreases-write_one
decreases-write_one l = 4 * goal.size-write_one l + 1

abbrev pub decreases-write_two : goal.decreases-write_two
decreases-write_two l = 4 * max (goal.size-write_two l) (size-Ty l.other.now) + 2
