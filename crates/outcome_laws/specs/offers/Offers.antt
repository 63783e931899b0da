-- What a state with slots offers (own): which entries may be legal in the state of the rules that it stands for.
use Rattle.std.specs.Prelude.{◌≡◌, ◌≢◌, ◌≤◌, ◌⊎◌, ℕ, zero, suc, Bool, true, false, List, [], ◌∷◌, length, Some, slice_get}
use Rattle.rules_waiting.specs.Waiting.{Sleeper, flying_to}
use Rattle.hs_rules.specs.declared.entry.Entry.{Entry}
use Rattle.hs_rules.specs.declared.entry.Entry.TheVariants as entry
use Rattle.slot_laws.specs.SlotRules.{SlotPart, ret, throw, doing, performs}
use Rattle.slot_states.specs.SlotStates.{SlotThread, SlotState}
use Rattle.slot_states.specs.Resting.{is_receptive, WaitsOpen, AllRest}

-- thread t sleeps until then
abbrev pub SleepsUntil : ℕ → ℕ → List Sleeper → Type 0
SleepsUntil t due [] = ⊥
SleepsUntil t due (s ∷ ss) = ((s.thread ≡ t) × (s.due ≡ due)) ⊎ SleepsUntil t due ss

-- whether a part in so many frames moves by a local rule
abbrev pub has_local_rule : SlotPart → ℕ → Bool
has_local_rule (ret v) zero = false
has_local_rule (ret v) (suc n) = true
has_local_rule (throw e) zero = false
has_local_rule (throw e) (suc n) = true
has_local_rule (doing a vs) n = true
has_local_rule (performs p) n = false

-- whether a part stands at an operation
abbrev pub stands_at_operation : SlotPart → Bool
stands_at_operation (ret v) = false
stands_at_operation (throw e) = false
stands_at_operation (doing a vs) = false
stands_at_operation (performs p) = true

-- whether a part in so many frames is all of its term, and a value or an exception
abbrev pub is_result : SlotPart → ℕ → Bool
is_result (ret v) zero = true
is_result (ret v) (suc n) = false
is_result (throw e) zero = true
is_result (throw e) (suc n) = false
is_result (doing a vs) n = false
is_result (performs p) n = false

-- thread t is there and hasn't finished
pub record Unfinished (x : SlotState) (t : ℕ) : Type 0 where
  pub thread : SlotThread
  pub is : slice_get x.threads t ≡ Some thread
  pub unfinished : thread.finished ≡ false

-- An entry is offered: by a thread that isn't blocked and by its part and frames, to one that can receive an exception in
-- flight to it, to any sleeper that is due, by the clock; and a Stranded where all are at rest, nobody sleeps and somebody
-- waits at a cell and can be interrupted.
abbrev pub Offers : SlotState → Entry → Type 0
Offers x (entry.Local t k) = (th : Unfinished x t) × (th.thread.blocked ≡ false) × (has_local_rule th.thread.term.part (length th.thread.term.frames) ≡ true)
Offers x (entry.Op t) = (th : Unfinished x t) × (th.thread.blocked ≡ false) × (stands_at_operation th.thread.term.part ≡ true)
Offers x (entry.Receive t) = (th : Unfinished x t) × (is_receptive th.thread ≡ true) × (flying_to t x.flight ≢ [])
Offers x (entry.Wake t) = (due : ℕ) × SleepsUntil t due x.sleepers × (due ≤ x.clock)
Offers x (entry.Finish t) = (th : Unfinished x t) × (th.thread.blocked ≡ false) × (is_result th.thread.term.part (length th.thread.term.frames) ≡ true)
Offers x (entry.Tick at) = x.clock ≤ at
Offers x entry.Stranded = AllRest x × (x.sleepers ≡ []) × ((t : ℕ) × WaitsOpen x t)
