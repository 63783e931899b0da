use Rattle.conc_turn.specs.Seats.{IsLater}
use Rattle.conc_hands.specs.Hands.{IsHandOf, hands_code}
use Rattle.caps_visits.specs.Nexts.{RunsOf}
use Rattle.caps_visits.proofs.working.work.Given as goal

abbrev pub invariant-loop : goal.invariant-loop
invariant-loop g l = IsLater l.initial.now.seat l.now.seat × IsHandOf l.shared.hands.now l.now.hand × RunsOf g.J.Ticketed.belongs (hands_code l.shared.hands.now) l.next
