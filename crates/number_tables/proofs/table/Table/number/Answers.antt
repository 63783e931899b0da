use Rattle.std.proofs.Common.{◌≡◌, ℕ, rules}
use Rattle.number_tables.specs.Tables.{IsNumberOf}
use Rattle.number_tables.proofs.table.Table.number.Goals as goal

-- src/table.rt
pub returns-in-None-clause-stays : goal.returns-in-None-clause-stays
returns-in-None-clause-stays g c =
    let never : (n : ℕ) → IsNumberOf g.T.Keyed.key c.args.self.now n c.args.thing → c.add.new.self ≡ c.args.self.now = λ n there. absurd (c.in-None.ensures n there) in
    search (rules, never)
