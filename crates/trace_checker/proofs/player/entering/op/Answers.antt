use Rattle.std.proofs.Common.{refl}
use Rattle.run_course.proofs.history_lemmas.Asking.{op_stands}
use Rattle.trace_checker.proofs.player_lemmas.Asked.{op_asked}
use Rattle.trace_checker.proofs.player.entering.op.Goals as goal

pub returns-then-not-has-clause-tried : goal.returns-then-not-has-clause-tried
returns-then-not-has-clause-tried c b = (λ z. refl, λ a. c.if-not-has.ensures (op_asked b c.args.world.now c.args.t a))

pub op-requires-clause-stands : goal.op-requires-clause-stands
op-requires-clause-stands c = op_stands c.args.world.now c.args.t c.if-not-has.ensures
