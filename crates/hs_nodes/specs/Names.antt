-- Which name an entry of a scope stands for.
use Rattle.std.specs.Prelude.{List, [], ◌∷◌}
use Rattle.rules_expansion.specs.Names.{Name, Written, Added}
use Rattle.rules_code.specs.Slots.{Scope}
use Rattle.hs_nodes.specs.declared.names.ScopedName.{ScopedName}
use Rattle.hs_nodes.specs.declared.names.ScopedName.TheVariants as b

abbrev pub name_of : ScopedName → Name
name_of (b.Written x) = Written x
name_of (b.Added k) = Added k

-- the scope of names in the order in which they were bound
abbrev pub scope_after : Scope → List ScopedName → Scope
scope_after s [] = s
scope_after s (x ∷ xs) = scope_after (name_of x ∷ s) xs

abbrev pub scope_of : List ScopedName → Scope
scope_of xs = scope_after [] xs
