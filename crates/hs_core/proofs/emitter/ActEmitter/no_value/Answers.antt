use Rattle.std.proofs.Common.{refl}
use Rattle.rules_code.specs.declared.node.Node.TheVariants as n
use Rattle.rules_code.specs.Slots.{s_empty}
use Rattle.hs_base.specs.declared.tree.forms.EmptyForm.TheVariants as f
use Rattle.hs_core.proofs.Steps.{leaf}
use Rattle.hs_core.proofs.emitter.ActEmitter.no_value.Goals as goal

pub returns : goal.returns
returns c = leaf c.args.self.now c.add.new.self c.in_ok-id.id (n.Empty f.Nothing) (λ s. s_empty f.Nothing) c.in_ok-id.ensures (λ k. refl)
