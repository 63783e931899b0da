use Rattle.std.proofs.Common.{ap}
use Rattle.rules_code.specs.declared.node.Node.TheVariants as n
use Rattle.rules_code.specs.Slots.{s_side}
use Rattle.hs_core.proofs.Steps.{leaf}
use Rattle.hs_core.proofs.emitter.ActEmitter.side_node.Goals as goal

pub returns : goal.returns
returns c = λ t. leaf c.args.self.now c.add.new.self c.in_ok-id.id (n.Side c.args.form c.args.e) (λ s. s_side c.args.form t) c.in_ok-id.ensures (λ k. ap (s_side c.args.form) k.is)
