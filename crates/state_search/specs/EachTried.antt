-- What holds while the entries of one state are tried (own).
use Rattle.std.specs.Prelude.{◌≡◌, ◌<◌, ℕ, Bool, true, false, List, Some, None, slice_get}
use Rattle.hs_base.specs.declared.clock_choice.ClockChoice.{ClockChoice}
use Rattle.hs_rules.specs.declared.entry.Entry.{Entry}
use Rattle.hs_rules.specs.Endings.{IsTick}
use Rattle.rules_code.specs.declared.code.CodeBody.{CodeBody}
use Rattle.rules_code.specs.CodeTrees.{SlottedFunction}
use Rattle.outcome_listing.specs.declared.bounds.Bounds.{Bounds}
use Rattle.slot_states.specs.SlotStates.{SlotState}
use Rattle.slot_states.specs.entering.Entering.{next}
use Rattle.local_steps.specs.Machine.{funs_of}
use Rattle.search_laws.specs.Shown.{Shown}
use Rattle.search_laws.specs.Going.{MayTake}
use Rattle.search_laws.specs.Found.{IsFollowed}
use Rattle.state_search.specs.declared.found.Found.{Found}
use Rattle.state_search.specs.Meaning.{states_of, edges_of}
use Rattle.state_search.specs.Working.{Going, Extends}

-- an entry that may be taken in any state, so no Tick
pub record MayAlways (e : Entry) : Type 0 where
  pub may : (clock : ClockChoice) (funs : List SlottedFunction) (x : SlotState) → MayTake clock funs x e
  pub plain : ¬ IsTick e

-- whether one of the entries below a place has a next state
abbrev pub IsLegalBelow : CodeBody → List Entry → ℕ → Shown → Bool → Type 0
IsLegalBelow b entries n c true = (e : Entry) × (z : SlotState) × ¬ IsTick e × (next (funs_of b) c.slots e ≡ Some z)
IsLegalBelow b entries n c false = (k : ℕ) (e : Entry) → k < n → slice_get entries k ≡ Some e → next (funs_of b) c.slots e ≡ None

-- The entries below a place were tried in the state of this number, and each has its edge where it has a next state, or there is a
-- gap.
pub record HasTried (bounds : Bounds) (b : CodeBody) (old f : Found) (i : ℕ) (entries : List Entry) (n : ℕ) (legal : Bool) : Type 0 where
  pub going : Going bounds b i f
  pub extends : Extends b old f
  pub followed : (c : Shown) → slice_get (states_of b old) i ≡ Some c → (k : ℕ) (e : Entry) → k < n → slice_get entries k ≡ Some e → f.gap ≡ None → IsFollowed (funs_of b) (edges_of f) i c e
  pub legals : (c : Shown) → slice_get (states_of b old) i ≡ Some c → IsLegalBelow b entries n c legal
