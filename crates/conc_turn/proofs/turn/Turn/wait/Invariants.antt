use Rattle.std.proofs.Common.{◌≡◌, ◌≤◌}
use Rattle.conc_turn.specs.Seats.{seen_by, shares_of, lost_by}
use Rattle.conc_turn.specs.Turns.{IsSeatOf}
use Rattle.conc_turn.proofs.turn.Turn.wait.Given as goal

abbrev pub invariant-loop : goal.invariant-loop
invariant-loop g l = IsSeatOf g.D.Kept.plan l.self l.seat × (seen_by l.seat ≡ seen_by l.initial.seat) × (shares_of l.seat ≡ shares_of l.initial.seat) × (lost_by l.initial.seat ≤ lost_by l.seat)
