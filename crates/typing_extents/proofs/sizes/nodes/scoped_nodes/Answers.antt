use Rattle.std.proofs.Common.{refl, sym, ◌∙◌}
use Rattle.rules_expansion.specs.Expansion.{on_block}
use Rattle.typing_extents.proofs.sizes.nodes.scoped_nodes.Goals as goal

pub returns-in-Derived : goal.returns-in-Derived
returns-in-Derived c = λ a h. rw (sym c.block_row.ensures ∙ c.in-Derived.is) (c.derived_nodes.ensures (on_block a) (record { subject = refl; first = h; second = h; third = h }))
