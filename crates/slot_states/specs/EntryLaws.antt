-- What entries that are no Op make of states with slots (own).
use Rattle.std.specs.Prelude.{◌≡◌, ◌<◌, ℕ, Some, slice_get, true, false}
use Rattle.hs_base.specs.declared.mask.Mask.TheVariants.{Unmasked}
use Rattle.hs_base.specs.declared.exn.Exn.{Exn}
use Rattle.hs_base.specs.declared.tree.script.Script.{Script}
use Rattle.hs_rules.specs.declared.entry.Entry.TheVariants.{Local, Receive}
use Rattle.rules_expansion.specs.trees.Programs.{script_of}
use Rattle.rules_typing.specs.TypingScripts.{Accepted}
use Rattle.rules_code.specs.CodeTrees.{code_trees}
use Rattle.rules_waiting.specs.Waiting.{flying_to, first_thrown}
use Rattle.slot_laws.specs.SlotRules.{SlotTerm, locals}
use Rattle.slot_states.specs.SlotStates.{SlotThread, SlotState, moves, receives, Enters, MainGoes}
use Rattle.slot_states.specs.Resting.{is_receptive}

-- In an accepted script, where main hasn't finished: some local rules, at least one, of a thread that hasn't finished and isn't
-- blocked are entered as a Local of as many, and leave its stack moved.
abbrev pub LocalsAreEntered : Type 0
LocalsAreEntered =
    (script : Script) → Accepted script →
    (x : SlotState) (t k : ℕ) (th : SlotThread) (st : SlotTerm) → slice_get x.threads t ≡ Some th → th.finished ≡ false →
    th.blocked ≡ false → 0 < k → locals (code_trees (script_of script)) Unmasked k th.term ≡ Some st → MainGoes x →
    Enters script (Local t k) x (moves t st x)

-- In an accepted script, where main hasn't finished: a Receive of a thread that hasn't finished and is receptive is entered,
-- for the first exception in flight to it.
abbrev pub ReceivesAreEntered : Type 0
ReceivesAreEntered =
    (script : Script) → Accepted script →
    (x : SlotState) (t w : ℕ) (e : Exn) (th : SlotThread) → slice_get x.threads t ≡ Some th → th.finished ≡ false →
    is_receptive th ≡ true → first_thrown (flying_to t x.flight) ≡ Some (w, e) → MainGoes x →
    Enters script (Receive t) x (receives t w e x)
