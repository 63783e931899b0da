use Rattle.std.proofs.Common.{sym, ◌∙◌}
use Rattle.std.proofs.Math.Logic.{∥∥₁_elim}
use Rattle.std.proofs.lemmas.Option.{same_Some}
use Rattle.std.specs.Coded.{Coded-set}
use Rattle.conc_hands.specs.Hands.{IsHandOf}
use Rattle.caps_visits.specs.Objects.{object_of}
use Rattle.caps_visits.proofs.Objects.{hand_there, hand_prop}
use Rattle.caps_visits.proofs.cutting.run_watched.Goals as goal

pub returns-clause-hand : goal.returns-clause-hand
returns-clause-hand g c =
    let w = c.slice-slice.new.cutter in
    let prop : IsProp (IsHandOf c.args.shared.now.hands.now w.hand) = hand_prop (Coded-set g.row.J.coded) (Coded-set g.row.S.coded) c.args.shared.now.hands.now w.hand in
    ∥∥₁_elim w.own prop (λ own. ∥∥₁_elim w.object prop (λ object.
    hand_there w.hands.now c.args.shared.now.hands.now (same_Some (object_of w.hands.now) (object_of c.args.shared.now.hands.now) (sym object ∙ c.requires.object)) w.hand own))
