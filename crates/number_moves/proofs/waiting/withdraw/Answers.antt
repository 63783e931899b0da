use Rattle.std.proofs.Common.{refl}
use Rattle.number_moves.proofs.Leaving.{flight_becomes}
use Rattle.number_moves.proofs.waiting.withdraw.Goals as goal

-- src/waiting.rt
pub returns : goal.returns
returns c = flight_becomes c.args.numbers.now c.args.state.now _ c.args.t c.withdraw.new.list.items c.requires refl c.withdraw.ensures
