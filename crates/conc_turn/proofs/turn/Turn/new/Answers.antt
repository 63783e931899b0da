use Rattle.std.proofs.Common.{rules, ◌≡◌, sym, subst, Option, Some, List, [], ◌∷◌}
use Rattle.atomic_table.specs.Table.{opening}
use Rattle.conc_turn.specs.TurnRule.{IsRuled, view_with}
use Rattle.conc_turn.proofs.Keeps.{opens}
use Rattle.conc_turn.proofs.turn.Turn.new.Goals as goal

pub new-requires : goal.new-requires
new-requires g c = let D = g.row.D.Denot in let plan = g.D.Kept.plan in let history = g.D.Kept.history in
    let P : D × List (Option D) → Type 0 = λ x. IsRuled plan history (plan x.0) (opening (0 ∷ []) x.1 (view_with (Some (plan x.0)) (history x.0) 16 0)) in
    let items : c.push.new.self.items ≡ Some c.args.kept ∷ [] = search rules in
    subst P (λ i. (sym c.of-first.ensures i, sym items i)) (opens plan history c.args.kept)
