use Rattle.conc_turn.proofs.Later.{later_trans}
use Rattle.caps_visits.proofs.running.bring.Goals as goal

pub returns-in-Ok-clause-seat : goal.returns-in-Ok-clause-seat
returns-in-Ok-clause-seat g c = c.try_commit-seat.ensures.seat

pub returns-in-Err-clause-seat : goal.returns-in-Err-clause-seat
returns-in-Err-clause-seat g c = later_trans c.args.me.seat c.try_commit-seat.result.0 c.hand_over.result.0.seat c.try_commit-seat.ensures.seat c.hand_over.ensures.seat
