use Rattle.std.proofs.Common.{◌≡◌, ◌++◌, ◌∷◌, [], length, sym, ap, ◌∙◌, subst}
use Rattle.std.proofs.lemmas.List.{length_push}
use Rattle.number_tables.specs.Tables.{IsIndex, IsNumberOf}
use Rattle.number_tables.proofs.Indexes.{index_after, none_there}
use Rattle.number_tables.proofs.table.Table.add.Goals as goal
use native.Mathlib.Omega.{arith}

-- src/table.rt
pub invariant_of-self-in-Ok : goal.invariant_of-self-in-Ok
invariant_of-self-in-Ok g c =
    let key = g.T.Keyed.key in
    let m = c.self.inside.numbers in
    let things = c.self.inside.things.items in
    let none = none_there key m things c.args.thing c.self.invariant.0 (λ n there. c.requires.none n (subst (λ xs. IsNumberOf key xs n c.args.thing) c.self.view_is there)) in
    let f : c.push_reserved.new.self.items ≡ things ++ c.args.thing ∷ [] = c.push_reserved.ensures.items ∙ ap (λ xs. xs ++ c.args.thing ∷ []) (c.reserve.ensures.items) in
    let h = c.in-Ok.ensures.updates in
    let count : c.len-count.result ≡ length things = c.len-count.ensures ∙ c.self.inside.things.ok.0 in
    let long = ap length f ∙ length_push things c.args.thing in
    (subst (λ xs. IsIndex key c.insert.new.self xs) (sym f) (index_after key m c.insert.new.self things c.args.key c.args.thing c.self.invariant.0 c.requires.key none (rw (← count) h)), omega arith)
