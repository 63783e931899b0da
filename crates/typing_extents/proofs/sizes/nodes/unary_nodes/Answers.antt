use Rattle.std.proofs.Common.{refl, sym, ◌∙◌}
use Rattle.rules_expansion.specs.Expansion.{on_subject}
use Rattle.typing_extents.proofs.sizes.nodes.unary_nodes.Goals as goal

pub returns-in-Derived : goal.returns-in-Derived
returns-in-Derived c = λ e h. rw (sym c.unary_row.ensures ∙ c.in-Derived.is) (c.derived_nodes.ensures (on_subject e) (record { subject = h; first = refl; second = refl; third = refl }))
