use Rattle.std.proofs.Common.{◌≡◌, take}
use Rattle.rules_code.specs.Slots.{slot_of}
use Rattle.rules_expansion.specs.Names.{Added}
use Rattle.hs_nodes.specs.Names.{scope_of}
use Rattle.hs_nodes.proofs.emitter.Emitter.added_slot.Given as goal

abbrev pub invariant-back : goal.invariant-back
invariant-back l = slot_of (scope_of l.items) (Added l.h) ≡ slot_of (scope_of (take l.i l.items)) (Added l.h)
