use Rattle.std.proofs.Common.{subst}
use Rattle.number_tables.specs.Tables.{AreApart}
use Rattle.number_tables.proofs.Indexes.{apart}
use Rattle.number_tables.proofs.table.Table.keys_are_apart.Goals as goal

-- src/table.rt
pub returns : goal.returns
returns g c = subst (λ xs. AreApart g.T.Keyed.key xs) c.self.view_is (apart g.T.Keyed.key c.self.inside.numbers c.self.inside.things.items c.self.invariant.0)
