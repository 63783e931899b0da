use Rattle.std.proofs.Common.{drop}
use Rattle.number_changes.proofs.Turns.{AreLeft}
use Rattle.number_moves.proofs.Ended.{throwers_end}
use Rattle.number_moves.proofs.ending.answer_throwers.Given as goal

abbrev pub invariant-loop-thrower : goal.invariant-loop-thrower
invariant-loop-thrower l = AreLeft throwers_end l.throwers (drop l.thrower-index l.throwers) l.fn.numbers l.fn.state l.numbers l.state
