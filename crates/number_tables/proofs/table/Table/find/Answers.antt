use Rattle.std.proofs.Common.{sym, ◌∙◌}
use Rattle.number_tables.proofs.Indexes.{finds}
use Rattle.number_tables.proofs.table.Table.find.Goals as goal

-- src/table.rt
pub returns : goal.returns
returns g c = finds g.T.Keyed.key c.self.inside.numbers c.self.inside.things.items c.args.self.now c.args.thing.now c.args.key.now c.self.invariant.0 (sym c.self.view_is) c.requires c.copied.result (c.copied.ensures ∙ c.get.ensures.value)
