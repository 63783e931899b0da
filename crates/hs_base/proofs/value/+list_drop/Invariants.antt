use Rattle.std.proofs.Common.{◌≤◌}
use Rattle.hs_base.specs.declared.value.ValueList.{size-ValueList}
use Rattle.hs_base.proofs.value.+list_drop.Given as goal

-- what is left is no deeper than the list
abbrev pub invariant-ValueList::drop-loop-self : goal.invariant-ValueList::drop-loop-self
invariant-ValueList::drop-loop-self l = size-ValueList l.self ≤ size-ValueList l.initial.self

abbrev pub decreases-Value::drop : goal.decreases-Value::drop
decreases-Value::drop l = goal.size-Value::drop l

abbrev pub decreases-ValueList::drop : goal.decreases-ValueList::drop
decreases-ValueList::drop l = goal.size-ValueList::drop l
