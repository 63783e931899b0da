use Rattle.std.proofs.Common.{◌≡◌}
use mathlib.Core.List.{IsPrefix}
use Rattle.conc_hands.specs.Hands.{IsHandOf}
use Rattle.caps_visits.proofs.visiting.raise_overtaken.Given as goal

abbrev pub invariant-loop : goal.invariant-loop
invariant-loop g l = IsHandOf l.hands l.hand × (g.D.Kept.plan l.desk ≡ g.D.Kept.plan l.initial.desk) × IsPrefix (g.D.Kept.history l.initial.desk) (g.D.Kept.history l.desk)
