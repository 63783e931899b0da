use Rattle.std.proofs.Common.{refl, sym}
use Rattle.rules_expansion.specs.Expansion.{on_two}
use Rattle.typing_extents.proofs.sizes.nodes.guard_nodes.Goals as goal

pub returns : goal.returns
returns c = λ a e h i. rw (sym c.guard_row.ensures) (c.derived_nodes.ensures (on_two a e) (record { subject = refl; first = h; second = i; third = i }))
