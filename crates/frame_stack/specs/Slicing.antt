-- What a job and a slice of a thread are (own).
use Rattle.std.specs.Prelude.{◌≡◌, ℕ, ◌<◌, List, [], ◌∷◌, ◌++◌, Some}
use Rattle.hs_base.specs.declared.mask.Mask.{Mask}
use Rattle.rules_expansion.specs.trees.Programs.{script_of}
use Rattle.rules_meaning.specs.Values.{V, values_of}
use Rattle.rules_sorts.specs.Sorts.{Sort}
use Rattle.rules_sorts.specs.TypedMeaning.{any_cell}
use Rattle.rules_expansion.specs.declared.primitive.Primitive.{Primitive}
use Rattle.rules_code.specs.declared.code.CodeBody.{CodeBody}
use Rattle.hs_rules.specs.Terms.{Term}
use Rattle.hs_progress.specs.CoreTyping.{Asks}
use Rattle.hs_progress.specs.TypedStates.{AllOfSorts}
use Rattle.slot_laws.specs.SlotRules.{SlotPart, ret, throw, doing, performs, SlotFrame, mask_in, at, locals}
use Rattle.slot_laws.specs.Standing.{Stands}
use Rattle.local_steps.specs.declared.active.Active.{Active}
use Rattle.local_steps.specs.declared.active.Active.TheVariants as a
use Rattle.local_steps.specs.declared.active.Frame.{Frame}
use Rattle.local_steps.specs.Machine.{frames_of, funs_of}
use Rattle.frame_stack.specs.declared.control.Control.{Control}
use Rattle.frame_stack.specs.declared.control.Control.TheVariants as c
use Rattle.frame_stack.specs.declared.fault.SliceFault.{SliceFault}
use Rattle.frame_stack.specs.declared.fault.SliceFault.TheVariants as f
use Rattle.frame_stack.specs.Parts.{part_of}

-- A part in frames stands for a term of the code's script in a masking scope with the state m. Of a part that is an action
-- this says that it is an action of the code with values that fit its scope.
abbrev pub MayGo : CodeBody → Mask → SlotPart → List SlotFrame → Type 0
MayGo b m p fs = (t : Term) × Stands any_cell (script_of b.of.value) (at p (fs ++ mask_in m ∷ [])) t

-- so many local rules lead from a control alone, where the masking state is m, to another in these frames
abbrev pub Moves : CodeBody → Mask → ℕ → Control → Control → List Frame → Type 0
Moves b m k start end pushed = locals (funs_of b) m k (at (part_of b start) []) ≡ Some (at (part_of b end) (frames_of b pushed))

-- a slice goes no further here: at an operation, and at a value or an exception with no frame of its own
abbrev pub Stops : SlotPart → List Frame → Type 0
Stops (doing a vs) fs = ⊥
Stops (ret v) fs = fs ≡ []
Stops (throw e) fs = fs ≡ []
Stops (performs p) fs = Unit {0}

abbrev pub IsDoing : Control → Type 0
IsDoing (c.Doing i vs) = Unit {0}
IsDoing (c.Ret v) = ⊥
IsDoing (c.Throw e) = ⊥
IsDoing (c.Op p) = ⊥

-- a fault of a slice: a cut comes only where the cutter answered the job's ticket last, and 0 cuts nobody
abbrev pub Cuts : ℕ → ℕ → SliceFault → Type 0
Cuts ticket last (f.Cut loaded) = (loaded ≡ ticket) × (last ≡ ticket) × (0 < ticket)
Cuts ticket last f.NoMemory = Unit {0}

-- these values aren't of the types that a primitive takes
abbrev pub Unfit : Primitive → List V → Type 0
Unfit p vs = (ks : List Sort) (k : Sort) → Asks p ks k → AllOfSorts any_cell ks vs → ⊥

-- a primitive has values of its types
abbrev pub Fits : Active → Type 0
Fits (a.Asks p vs) = Unfit p (values_of vs) → ⊥
Fits (a.Doing i vs) = Unit {0}
Fits (a.Ret v) = Unit {0}
Fits (a.Throw e) = Unit {0}
Fits (a.Forks i vs) = Unit {0}
Fits (a.ForksUnmask i vs) = Unit {0}
