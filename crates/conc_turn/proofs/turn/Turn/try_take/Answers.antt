use Rattle.std.proofs.Common.{rules, ◌<◌, sym, ap, ◌∙◌, subst, Some, ◌∷◌}
use Rattle.atomic_table.specs.Table.{rest}
use Rattle.conc_turn.specs.declared.view.View.{View}
use Rattle.conc_turn.specs.Views.{view_in, IsAtRest}
use Rattle.conc_turn.proofs.Keeps.{may_take}
use Rattle.conc_turn.proofs.turn.Turn.try_take.Goals as goal

pub compare_exchange-found-requires : goal.compare_exchange-found-requires
compare_exchange-found-requires g c = let e = ap view_in c.into_seat-seat.ensures.2 in (
  search rules,
  search rules,
  may_take g.D.Kept.plan g.D.Kept.history _ _ _ _ (subst IsAtRest e c.args.seat.at_rest).0 (subst (λ (v : View). 0 < v.shares) e c.requires.2) (sym (ap (λ v. v.plan) e) ∙ c.requires.1),
)

pub exchange-requires : goal.exchange-requires
exchange-requires g c = let got = c.compare_exchange-found.ensures.2.0 (search rules) in let p = ap (λ m. m.1) got.1 in
    (search rules, (Some got.0, p ∙ ap (λ l. (0, Some got.0) ∷ rest l) (sym p)))
