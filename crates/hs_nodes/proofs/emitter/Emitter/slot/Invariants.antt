use Rattle.std.proofs.Common.{◌≡◌, take}
use Rattle.rules_code.specs.Slots.{slot_of}
use Rattle.rules_expansion.specs.Names.{Written}
use Rattle.hs_nodes.specs.Names.{scope_of}
use Rattle.hs_nodes.proofs.emitter.Emitter.slot.Given as goal

abbrev pub invariant-back : goal.invariant-back
invariant-back l = slot_of (scope_of l.items) (Written l.x) ≡ slot_of (scope_of (take l.i l.items)) (Written l.x)
