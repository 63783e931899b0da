-- What holds of a walk while it goes on (own).
use Rattle.std.specs.Prelude.{◌≡◌, ◌≤◌, ◌<◌, ℕ, Bool, true, false, List, Some}
use Rattle.hs_base.specs.declared.clock_choice.ClockChoice.{ClockChoice}
use Rattle.hs_base.specs.declared.clock_choice.ClockChoice.TheVariants.{Real, Virtual}
use Rattle.hs_base.specs.declared.tree.script.Script.{Script}
use Rattle.hs_rules.specs.declared.entry.Entry.{Entry}
use Rattle.hs_rules.specs.declared.entry.Entry.TheVariants as entry
use Rattle.hs_rules.specs.declared.entry.LimitKind.{LimitKind}
use Rattle.rules_expansion.specs.trees.Programs.{script_of}
use Rattle.rules_waiting.specs.Waiting.{earliest}
use Rattle.rules_code.specs.declared.code.CodeBody.{CodeBody}
use Rattle.rules_code.specs.CodeTrees.{SlottedFunction}
use Rattle.hs_laws.specs.ClockLaw.{EndsInTick}
use Rattle.outcome_laws.specs.Outcomes.{HasOutcome}
use Rattle.outcome_listing.specs.declared.bounds.Bounds.{Bounds}
use Rattle.outcome_listing.specs.declared.explored.Final.{Final}
use Rattle.outcome_listing.specs.Finals.{final_of}
use Rattle.slot_states.specs.SlotStates.{SlotState}
use Rattle.number_states.specs.Stocks.{Stock, text_at}
use Rattle.number_tables.specs.Tables.{IsNumberOf}
use Rattle.number_states.specs.States.{AreIn, Becomes}
use Rattle.number_states.specs.Keys.{state_key}
use Rattle.search_laws.specs.Shown.{forget}
use Rattle.search_laws.specs.Going.{IsStill}
use Rattle.state_search.specs.Meaning.{shown}
use Rattle.state_search.specs.Searching.{IsCodeOf}
use Rattle.number_states.specs.declared.state.NumberState.{NumberState}
use Rattle.conc_outcomes.specs.declared.walks.walk.Walk.{Walk}
use Rattle.conc_outcomes.specs.walks.Walking.{LeadsTo, IsWitness, IsUnread, ExceedsLast}

-- A walk is at the state that its history leaves, whatever accepted script the code is of.
pub record IsAt (bounds : Bounds) (b : CodeBody) (g : Stock) (w : Walk) : Type 0 where
  pub there : AreIn g w.state
  pub leads : (script : Script) → IsCodeOf b script → LeadsTo bounds.clock bounds.limits (script_of script) w.history.list (shown g b w.state)
  pub ticked : w.ticked ≡ false → ¬ EndsInTick w.history.list
  pub unread : w.unread ≡ true → (script : Script) → IsCodeOf b script → IsUnread bounds.clock (script_of script) w.history.list

-- Where a Tick may stand: in real timing where somebody sleeps, not before the first due, not behind another Tick, and later than the
-- clock; in virtual timing where no other entry has a next state, and to the first due. Other entries may anywhere.
abbrev pub TickMay : ClockChoice → List SlottedFunction → SlotState → Bool → ℕ → Type 0
TickMay Real funs x ticked at = (due : ℕ) × (earliest x.sleepers ≡ Some due) × (due ≤ at) × (x.clock < at) × (ticked ≡ false)
TickMay Virtual funs x ticked at = IsStill funs x × (earliest x.sleepers ≡ Some at)

abbrev pub EntryMay : ClockChoice → List SlottedFunction → SlotState → Bool → Entry → Type 0
EntryMay clock funs x ticked (entry.Tick at) = TickMay clock funs x ticked at
EntryMay clock funs x ticked (entry.Local t k) = Unit {0}
EntryMay clock funs x ticked (entry.Op t) = Unit {0}
EntryMay clock funs x ticked (entry.Receive t) = Unit {0}
EntryMay clock funs x ticked (entry.Wake t) = Unit {0}
EntryMay clock funs x ticked (entry.Finish t) = Unit {0}
EntryMay clock funs x ticked entry.Stranded = Unit {0}

-- ---- what it is evidence for

-- its history comes to this end, with what its state printed
abbrev pub EndsIn : CodeBody → Stock → Walk → Final → Type 0
EndsIn b g w end = (script : Script) → IsCodeOf b script → HasOutcome (script_of script) w.history.list (record { end = final_of end; output = text_at g w.state.output; errors = text_at g w.state.errors })

abbrev pub IsWithin : Bounds → CodeBody → Walk → Type 0
IsWithin bounds b w = (script : Script) → IsCodeOf b script → IsWitness bounds.clock bounds.limits (script_of script) w.history.list

-- in real timing no entry of its history reads the clock
abbrev pub HasReadNothing : Bounds → CodeBody → Walk → Type 0
HasReadNothing bounds b w = (script : Script) → IsCodeOf b script → IsUnread bounds.clock (script_of script) w.history.list

abbrev pub Exceeds : Bounds → CodeBody → Walk → LimitKind → Type 0
Exceeds bounds b w kind = (script : Script) → IsCodeOf b script → ExceedsLast kind bounds.clock bounds.limits (script_of script) w.history.list

-- but for what the timing forgets a state shows the same as one whose key none of these has
abbrev pub IsAnother : ClockChoice → Stock → List NumberState → NumberState → Type 0
IsAnother clock g states x = (y : NumberState) × Becomes (λ b. forget clock) g x g y × ((n : ℕ) → IsNumberOf state_key states n y → ⊥)

-- two states show the same but for what the timing forgets
abbrev pub AreAlike : ClockChoice → CodeBody → Stock → NumberState → NumberState → Type 0
AreAlike clock b g x y = (forget clock (shown g b x).slots ≡ forget clock (shown g b y).slots) × (text_at g x.output ≡ text_at g y.output) × (text_at g x.errors ≡ text_at g y.errors)
