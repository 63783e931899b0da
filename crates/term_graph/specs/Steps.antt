-- Steps of terms by number (own).
use Rattle.std.specs.Prelude.{◌≡◌, ◌++◌, not, ◌&&◌, ◌||◌, ℕ, Bool, true, false, List, [], Option, Some, None, slice_get, MatchOption}
use Rattle.hs_base.specs.declared.mask.Mask.TheVariants.{Unmasked}
use Rattle.rules_code.specs.declared.code.CodeBody.{CodeBody}
use Rattle.rules_code.specs.CodeTrees.{SlottedFunction}
use Rattle.slot_laws.specs.SlotRules.{SlotPart, ret, throw, doing, performs, SlotFrame, SlotTerm, at, mask_from, first_step, local}
use Rattle.local_steps.specs.declared.active.Frame.{Frame}
use Rattle.local_steps.specs.Frames.{mask_inside}
use Rattle.local_steps.specs.Machine.{active_of, frames_of, funs_of}
use Rattle.term_graph.specs.tables.Numbered.{Numbered, term_in}
use Rattle.term_graph.specs.declared.begun.Begun.{Begun}
use Rattle.term_graph.specs.declared.stepping.Moved.{Moved}
use Rattle.term_graph.specs.declared.stepping.LocalStep.{LocalStep}
use Rattle.term_graph.specs.Eager.{is_eager, is_throw, passes_all, receives_nothing, leaving_is_eager, step_is_eager}

-- the local rule of a term leads to the term of this number, and is eager or not
pub record Steps (g : Numbered) (b : CodeBody) (st : SlotTerm) (s : LocalStep) : Type 0 where
  pub next : SlotTerm
  pub is : term_in g b s.term ≡ Some next
  pub rule : local (funs_of b) Unmasked st.part st.frames ≡ Some next
  pub eager : s.eager ≡ is_eager (funs_of b) st

abbrev pub IsDoing : SlotPart → Type 0
IsDoing (doing a vs) = Unit {0}
IsDoing (ret v) = ⊥
IsDoing (throw e) = ⊥
IsDoing (performs p) = ⊥

-- a part needs a frame for its local rule
abbrev pub NeedsFrame : SlotPart → Type 0
NeedsFrame (doing a vs) = ⊥
NeedsFrame (ret v) = Unit {0}
NeedsFrame (throw e) = Unit {0}
NeedsFrame (performs p) = ⊥

-- A part inside these frames, with few of them taken off: those and the stack that was begun are these frames. An action has taken
-- none off, and a value or an exception some.
pub record Begins (g : Numbered) (b : CodeBody) (p : SlotPart) (fs : List SlotFrame) (begun : Begun) : Type 0 where
  pub part : active_of b begun.part ≡ p
  pub outer : List Frame
  pub there : slice_get g.stacks begun.outer ≡ Some outer
  pub below : begun.frames.below ≡ mask_inside Unmasked outer
  pub frames : frames_of b begun.frames.list ++ frames_of b outer ≡ fs
  pub none : IsDoing p → frames_of b begun.frames.list ≡ []
  pub some : NeedsFrame p → frames_of b begun.frames.list ≡ [] → ⊥

-- What is found to begin with, for a part inside these frames: nothing where it has no local rule.
abbrev pub FindsBegun : Numbered → CodeBody → SlotPart → List SlotFrame → Option Begun → Type 0
FindsBegun g b p fs found = MatchOption found (local (funs_of b) Unmasked p fs ≡ None) (Begins g b p fs)

-- whether a rule is eager, but for the first step of an action
abbrev pub leaves_eagerly : SlotPart → List SlotFrame → Bool
leaves_eagerly (ret v) fs = leaving_is_eager fs
leaves_eagerly (throw e) fs = false
leaves_eagerly (doing a vs) fs = false
leaves_eagerly (performs p) fs = false

abbrev pub eager_at_once : SlotPart → List SlotFrame → Bool
eager_at_once p fs = receives_nothing p fs || leaves_eagerly p fs

-- whether the first step of an action is eager where its thread may receive
abbrev pub adds_eagerly : List SlottedFunction → SlotPart → List SlotFrame → Bool
adds_eagerly funs (ret v) fs = false
adds_eagerly funs (throw e) fs = false
adds_eagerly funs (doing a vs) fs = step_is_eager (first_step funs (mask_from Unmasked fs) a vs)
adds_eagerly funs (performs p) fs = false

-- a part in frames of its own over others is the term of this number, and it adds eagerly or not
pub record Lands (g : Numbered) (b : CodeBody) (p : SlotPart) (own fs : List SlotFrame) (m : Moved) : Type 0 where
  pub is : term_in g b m.term ≡ Some (at p (own ++ fs))
  pub adds : m.adds ≡ (not (is_throw p) && passes_all own)

-- the local rule of a part in frames leads to the term of this number, and so is what an action adds eager or not
pub record Moves (g : Numbered) (b : CodeBody) (p : SlotPart) (fs : List SlotFrame) (m : Moved) : Type 0 where
  pub next : SlotTerm
  pub is : term_in g b m.term ≡ Some next
  pub rule : local (funs_of b) Unmasked p fs ≡ Some next
  pub adds : IsDoing p → m.adds ≡ adds_eagerly (funs_of b) p fs
