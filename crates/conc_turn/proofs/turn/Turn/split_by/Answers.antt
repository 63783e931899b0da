use Rattle.std.proofs.Common.{rules, ap, subst, arith}
use Rattle.conc_turn.specs.declared.view.View.{View}
use Rattle.conc_turn.specs.Views.{view_in, IsAtRest}
use Rattle.conc_turn.proofs.Keeps.{may_split}
use Rattle.conc_turn.proofs.turn.Turn.split_by.Goals as goal

pub split_seat-other-requires : goal.split_seat-other-requires
split_seat-other-requires g c = let e = ap view_in c.into_seat-seat.ensures.2 in let n = ap (λ (v : View). v.shares) e in let h = c.requires.shares in (
  search rules,
  search rules,
  may_split g.D.Kept.plan g.D.Kept.history _ _ _ _ (subst IsAtRest e c.args.seat.at_rest).0 (omega (arith, h.0, h.2)) (omega (arith, h.1, h.2, n)),
)
