-- What `getMaskingState`, forks, and throws at other threads make of states with slots (own).
use Rattle.std.specs.Prelude.{◌≡◌, ◌≢◌, ◌++◌, [], ◌∷◌, ℕ, List, Some, slice_get, true, false}
use Rattle.hs_base.specs.declared.mask.Mask.TheVariants.{Unmasked}
use Rattle.hs_base.specs.declared.exn.Exn.{Exn}
use Rattle.hs_base.specs.declared.tree.script.Script.{Script}
use Rattle.hs_rules.specs.declared.entry.Entry.TheVariants.{Op}
use Rattle.rules_meaning.specs.Values as val
use Rattle.rules_meaning.specs.Values.{V, UnitValue, Text, Exception, Restore}
use Rattle.rules_expansion.specs.declared.primitive.Primitive.TheVariants.{GetMaskingState, ThrowTo}
use Rattle.rules_typing.specs.TypingScripts.{Accepted}
use Rattle.rules_code.specs.CodeTrees.{Sa}
use Rattle.hs_rules.specs.Primitives.{masking_text}
use Rattle.slot_laws.specs.SlotRules.{performs, calls, forks, forks_unmask, doing, mask_in, at, mask_from}
use Rattle.slot_states.specs.SlotStates.{SlotThread, SlotState, answer, forks_to, throws_at, Enters, StandsAt, MainGoes}

-- In an accepted script, where main hasn't finished: a thread that asks for its masking state is answered the text of the state
-- inside its frames.
abbrev pub MaskingIsAnswered : Type 0
MaskingIsAnswered =
    (script : Script) → Accepted script →
    (x : SlotState) (t : ℕ) →
    (h : StandsAt x t (performs (calls GetMaskingState []))) → MainGoes x →
    Enters script (Op t) x (answer t (Text (masking_text (mask_from Unmasked h.thread.term.frames))) x)

-- In an accepted script, where main hasn't finished: the Op of a thread at a fork leaves a thread more, which is to do the
-- forked action in its parent's masking state.
abbrev pub ForksAreEntered : Type 0
ForksAreEntered =
    (script : Script) → Accepted script →
    (x : SlotState) (t : ℕ) (tree : Sa) (vs : List V) →
    (h : StandsAt x t (performs (forks tree vs))) → MainGoes x →
    Enters script (Op t) x (forks_to t (at (doing tree vs) (mask_in (mask_from Unmasked h.thread.term.frames) ∷ [])) x)

-- The same of `forkIOWithUnmask`: the unmasked state takes the next slot of the forked action.
abbrev pub UnmaskingForksAreEntered : Type 0
UnmaskingForksAreEntered =
    (script : Script) → Accepted script →
    (x : SlotState) (t : ℕ) (tree : Sa) (vs : List V) →
    (h : StandsAt x t (performs (forks_unmask tree vs))) → MainGoes x →
    Enters script (Op t) x
    (forks_to t (at (doing tree (vs ++ Restore Unmasked ∷ [])) (mask_in (mask_from Unmasked h.thread.term.frames) ∷ [])) x)

-- In an accepted script, where main hasn't finished: a thread that throws at one that has finished is answered, and nothing
-- else happens.
abbrev pub ThrowsAtFinishedAreEntered : Type 0
ThrowsAtFinishedAreEntered =
    (script : Script) → Accepted script →
    (x : SlotState) (t u : ℕ) (e : Exn) (th : SlotThread) →
    StandsAt x t (performs (calls ThrowTo (val.Thread u ∷ Exception e ∷ []))) → slice_get x.threads u ≡ Some th →
    th.finished ≡ true → MainGoes x →
    Enters script (Op t) x (answer t UnitValue x)

-- In an accepted script, where main hasn't finished: a thread that throws at another that hasn't finished is blocked, and its
-- exception is in flight.
abbrev pub ThrowsAtOthersAreEntered : Type 0
ThrowsAtOthersAreEntered =
    (script : Script) → Accepted script →
    (x : SlotState) (t u : ℕ) (e : Exn) (th : SlotThread) →
    StandsAt x t (performs (calls ThrowTo (val.Thread u ∷ Exception e ∷ []))) → u ≢ t → slice_get x.threads u ≡ Some th →
    th.finished ≡ false → MainGoes x →
    Enters script (Op t) x (throws_at t u e x)
