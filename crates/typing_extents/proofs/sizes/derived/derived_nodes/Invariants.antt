use Rattle.std.proofs.Common.{◌≡◌, ◌+◌, ◌≤◌, min, drop}
use Rattle.rules_expansion.specs.Expansion.{of_three}
use Rattle.rules_expansion.specs.Sizes.{steps_size}
use Rattle.typing_extents.proofs.sizes.derived.derived_nodes.Given as goal

abbrev pub invariant-each : goal.invariant-each
invariant-each l = record { sum : min (l.n + steps_size l.subject (of_three l.first l.second l.third) (drop l.step-index l.step-items)) 1000001 ≡ min (steps_size l.subject (of_three l.first l.second l.third) l.step-items) 1000001; within : l.n ≤ 1000001 }
