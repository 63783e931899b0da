use Rattle.std.proofs.Common.{refl}
use Rattle.rules_code.specs.declared.node.Node.TheVariants as n
use Rattle.rules_code.specs.Slots.{s_literal}
use Rattle.rules_expansion.specs.trees.Trees.{nothing_more}
use Rattle.hs_core.proofs.Steps.{leaf}
use Rattle.hs_core.proofs.emitter.ActEmitter.nil.Goals as goal

pub returns : goal.returns
returns c = leaf c.args.self.now c.add.new.self c.in_ok-id.id n.Unit (λ s. s_literal nothing_more) c.in_ok-id.ensures (λ k. refl)
