use Rattle.std.proofs.Common.{refl}
use Rattle.rules_code.specs.declared.node.Node.TheVariants as n
use Rattle.hs_base.specs.declared.exn.Exn.TheVariants as x
use Rattle.rules_code.specs.Slots.{s_literal}
use Rattle.rules_expansion.specs.trees.Trees.{exception}
use Rattle.hs_core.proofs.Steps.{leaf}
use Rattle.hs_core.proofs.emitter.ActEmitter.killed.Goals as goal

pub returns : goal.returns
returns c = leaf c.args.self.now c.add.new.self c.in_ok-id.id (n.Exn x.ThreadKilled) (λ s. s_literal (exception x.ThreadKilled)) c.in_ok-id.ensures (λ k. refl)
