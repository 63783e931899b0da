use Rattle.std.proofs.Common.{refl}
use Rattle.trace_checker.proofs.player_lemmas.Asked.{receive_asked}
use Rattle.trace_checker.proofs.player.entering.receive.Goals as goal

pub returns-then-not-has : goal.returns-then-not-has
returns-then-not-has c b = (λ z. refl, λ a. c.if-not-has.ensures (receive_asked b c.args.world.now c.args.t a))
