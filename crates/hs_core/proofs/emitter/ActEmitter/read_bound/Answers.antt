use Rattle.std.proofs.Common.{ap}
use Rattle.rules_code.specs.declared.node.Node.TheVariants as n
use Rattle.rules_code.specs.Slots.{s_slot}
use Rattle.rules_expansion.specs.Templates.{named}
use Rattle.rules_code.specs.CodeTrees.{slot_read}
use Rattle.hs_core.proofs.Steps.{leaf}
use Rattle.hs_core.proofs.emitter.ActEmitter.read_bound.Goals as goal

pub returns : goal.returns
returns c = leaf c.args.self.now c.add.new.self c.in_ok-id.id (n.Slot c.slot_bound-slot.result) (λ s. slot_read s (named c.args.given.now c.args.x)) c.in_ok-id.ensures (λ k. ap s_slot c.slot_bound-slot.ensures)
