-- What a thread on its way over the frames of a stack is (own).
use Rattle.std.specs.Prelude.{◌≡◌, ℕ, ◌≤◌, List, [], ◌++◌, length, drop, Option, Some, None, MatchOption}
use Rattle.hs_base.specs.declared.mask.Mask.{Mask}
use Rattle.rules_expansion.specs.trees.Programs.{script_of}
use Rattle.rules_sorts.specs.TypedMeaning.{any_cell}
use Rattle.rules_code.specs.declared.code.CodeBody.{CodeBody}
use Rattle.hs_rules.specs.Terms.{Term}
use Rattle.slot_laws.specs.Standing.{Stands}
use Rattle.slot_laws.specs.SlotRules.{SlotPart, ret, throw, doing, performs, SlotTerm, at, local, locals}
use Rattle.local_steps.specs.declared.active.Active.{Active}
use Rattle.local_steps.specs.declared.active.Frame.{Frame}
use Rattle.local_steps.specs.Frames.{Framed, mask_inside}
use Rattle.local_steps.specs.Machine.{active_of, frames_of, funs_of}
use Rattle.frame_stack.specs.declared.advancing.Walk.{Walk}
use Rattle.frame_stack.specs.Parts.{Stacked, term_of}

-- The stack stands for a term of the code's script with names, so where it comes to a primitive, that has values of its types.
abbrev pub MayAdvance : CodeBody → Stacked → Type 0
MayAdvance b s = ∥ ((t : Term) × Stands any_cell (script_of b.of.value) (term_of b s) t) ∥₁

-- a value or an exception with no frame of its own
abbrev pub IsBare : SlotPart → List Frame → Type 0
IsBare (doing a vs) fs = ⊥
IsBare (ret v) fs = fs ≡ []
IsBare (throw e) fs = fs ≡ []
IsBare (performs p) fs = ⊥

-- its frames: those of its own, and those of the stack that are left
abbrev pub over_frames : Walk → List Frame → List Frame
over_frames w fs = w.own.list ++ drop w.gone fs

-- the term that it is at
abbrev pub walk_term : CodeBody → Walk → List Frame → SlotTerm
walk_term b w fs = at (active_of b w.part) (frames_of b (over_frames w fs))

-- what its next rule gives, over the frames of a stack that stand in this masking state
abbrev pub walk_step : CodeBody → Mask → Walk → List Frame → Option SlotTerm
walk_step b s w fs = local (funs_of b) s (active_of b w.part) (frames_of b (over_frames w fs))

-- what so many rules give of an active part over such frames
abbrev pub rules_from : CodeBody → Mask → ℕ → Active → List Frame → Option SlotTerm
rules_from b s k p fs = locals (funs_of b) s k (at (active_of b p) (frames_of b fs))

-- its own frames stand in the masking state inside the stack's frames that are left
pub record IsOver (s : Mask) (fs : List Frame) (w : Walk) : Type 0 where
  pub below : w.own.below ≡ mask_inside s (drop w.gone fs)
  pub few : w.gone ≤ length fs

-- what came of so many rules over these frames: a walk that has done them, or nothing, as there are no so many
abbrev pub HasWalked : CodeBody → Framed → ℕ → Active → Option Walk → Type 0
HasWalked b frames k p found =
    MatchOption found (rules_from b frames.below k p frames.list ≡ None)
    (λ w. IsOver frames.below frames.list w × (rules_from b frames.below k p frames.list ≡ Some (walk_term b w frames.list)))
