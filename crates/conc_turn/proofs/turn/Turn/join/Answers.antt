use Rattle.std.proofs.Common.{rules, ◌<◌, ap, ◌∙◌, subst, arith}
use Rattle.conc_turn.specs.declared.view.View.{View}
use Rattle.conc_turn.specs.Views.{view_in, IsAtRest}
use Rattle.conc_turn.proofs.Keeps.{may_join, may_compare}
use Rattle.conc_turn.proofs.turn.Turn.join.Goals as goal

pub join_seat-requires : goal.join_seat-requires
join_seat-requires g c = let e = ap view_in c.into_seat-seat.ensures.2 in let f = ap view_in c.into_seat.ensures.2 in (
  search rules,
  search rules,
  search rules,
  search rules,
  may_join g.D.Kept.plan g.D.Kept.history _ _ _ _ _ (subst IsAtRest e c.args.a.at_rest).0 (subst IsAtRest f c.args.b.at_rest).0 (subst (λ (v : View). 0 < v.shares) e c.requires.0.2) (subst (λ (v : View). 0 < v.shares) f c.requires.1.2),
)

pub load-requires : goal.load-requires
load-requires g c = let e = ap view_in c.into_seat-seat.ensures.2 in let m = ap (λ m. m.0) c.join_seat.ensures.2 in (
  search rules,
  search rules,
  may_compare g.D.Kept.plan g.D.Kept.history _ _ _ _ (ap (λ v. v.holds) m ∙ (subst IsAtRest e c.args.a.at_rest).0) (let n = ap (λ (v : View). v.shares) m in let p = subst (λ (v : View). 0 < v.shares) e c.requires.0.2 in omega (arith, n, p)),
)
