use Rattle.std.proofs.Common.{ap}
use Rattle.rules_code.specs.Slots.{s_none, trees_in}
use Rattle.rules_code.specs.CodeTrees.{a_perform}
use Rattle.hs_core.proofs.Waits.{moves_none}
use Rattle.hs_core.proofs.emitter.ActEmitter.make_perform.Goals as goal

pub returns : goal.returns
returns c = λ d. moves_none d (a_perform c.args.primitive s_none) (λ ts us. ap (λ z. a_perform c.args.primitive (trees_in ts z)) c.new.ensures) c.in_ok-put.ensures
