use Rattle.std.proofs.Common.{◌≡◌, ◌≤◌, length, take}
use Rattle.typing_parts.proofs.table.Table.back_to.Given as goal

abbrev pub invariant-off : goal.invariant-off
invariant-off l = (l.mark ≤ length l.self.items) × (l.self.items ≡ take (length l.self.items) l.fn.self.items)

abbrev pub decreases-off : goal.decreases-off
decreases-off l = length l.self.items
