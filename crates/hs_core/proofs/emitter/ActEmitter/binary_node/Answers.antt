use Rattle.std.proofs.Common.{ap, ◌∙◌}
use Rattle.rules_code.specs.declared.node.Node.TheVariants as n
use Rattle.rules_code.specs.Slots.{s_binary, tree_at}
use Rattle.hs_core.proofs.Steps.{leaf}
use Rattle.hs_core.proofs.emitter.ActEmitter.binary_node.Goals as goal

pub returns : goal.returns
returns c = λ t w. leaf c.args.self.now c.add.new.self c.in_ok-id.id (n.Binary c.args.form c.args.e c.args.f) (λ s. s_binary c.args.form t w) c.in_ok-id.ensures
    (λ k. ap (λ z. s_binary c.args.form z (tree_at c.args.self.now.emitter.nodes c.args.f)) k.0.is ∙ ap (s_binary c.args.form t) k.1.is)
