use Rattle.std.proofs.Common.{refl}
use Rattle.trace_checker.proofs.player_lemmas.Asked.{finish_asked}
use Rattle.trace_checker.proofs.player.entering.finish.Goals as goal

pub returns-then-not-has-clause-tried : goal.returns-then-not-has-clause-tried
returns-then-not-has-clause-tried c b = (λ z. refl, λ a. c.if-not-has.ensures (finish_asked b c.args.world.now c.args.t a))
