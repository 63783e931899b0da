use Rattle.rules_expansion.specs.Names.{Written}
use Rattle.rules_code.specs.Slots.{slot_of}
use Rattle.rules_code.specs.CodeTrees.{slot_or_end}
use Rattle.hs_core.proofs.Steps.{restores}
use Rattle.hs_core.proofs.emitter.ActEmitter.restore.Goals as goal

pub returns : goal.returns
returns c =
    λ A. restores c.written_slot-slot.result (λ s. slot_or_end (slot_of s (Written c.args.x.now)) s) A c.written_slot-slot.ensures c.in_ok-id.ensures
