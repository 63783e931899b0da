use Rattle.std.proofs.Common.{◌≡◌, length}
use Rattle.hs_base.specs.Lists.{all_before, chain_of}
use Rattle.hs_base.proofs.value.ValueList.from_vec.Given as goal

-- what is left, before the list, is the list of the values
abbrev pub invariant-loop-value : goal.invariant-loop-value
invariant-loop-value l = all_before l.values.items l.list ≡ chain_of l.fn.values.items

abbrev pub decreases-loop-value : goal.decreases-loop-value
decreases-loop-value l = length l.values.items
