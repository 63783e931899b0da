use Rattle.std.proofs.Common.{◌+◌, ◌*◌}
use Rattle.typing_table.proofs.written.+written_places.Given as goal

-- a node's parts stand before it
abbrev pub decreases-written_at : goal.decreases-written_at
decreases-written_at l = 2 * l.place

abbrev pub decreases-boxed_at : goal.decreases-boxed_at
decreases-boxed_at l = 2 * l.place + 1
