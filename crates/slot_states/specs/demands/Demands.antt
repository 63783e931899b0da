-- What each entry asks of a state with slots (own): what is so of each such state that stands for one in which the entry is
-- legal. `slot_states` says of each kind of entry that this is enough.
use Rattle.std.specs.Prelude.{◌≡◌, ◌≤◌, ◌<◌, ◌⊎◌, ℕ, true, false, List, [], Some, slice_get}
use Rattle.hs_base.specs.declared.mask.Mask.TheVariants.{Unmasked}
use Rattle.hs_base.specs.declared.exn.Exn.{Exn}
use Rattle.hs_rules.specs.declared.entry.Entry.{Entry}
use Rattle.hs_rules.specs.declared.entry.Entry.TheVariants as entry
use Rattle.rules_expansion.specs.trees.Programs.{Fn}
use Rattle.rules_meaning.specs.Values.{V}
use Rattle.rules_code.specs.CodeTrees.{code_trees}
use Rattle.rules_waiting.specs.Waiting.{flying_to, first_thrown}
use Rattle.exn_flight.specs.Asleep.{due_of}
use Rattle.slot_laws.specs.SlotRules.{SlotOp, ret, throw, performs, SlotTerm, locals}
use Rattle.slot_states.specs.SlotStates.{SlotThread, SlotState, StandsAt, StandsBare}
use Rattle.slot_states.specs.Resting.{is_receptive, WaitsOpen, AllRest}

abbrev pub Asks : List Fn → Entry → SlotState → Type 0
-- the thread is there, hasn't finished and isn't blocked, and so many local rules, at least one, apply to it in turn
Asks ds (entry.Local t k) x =
    (th : SlotThread) × (slice_get x.threads t ≡ Some th) × (th.finished ≡ false) × (th.blocked ≡ false) × (0 < k)
    × ((st : SlotTerm) × (locals (code_trees ds) Unmasked k th.term ≡ Some st))
-- the thread is there, hasn't finished, isn't blocked and stands at an operation
Asks ds (entry.Op t) x = (p : SlotOp) × StandsAt x t (performs p)
-- the thread is there, hasn't finished and is receptive, and an exception is in flight to it
Asks ds (entry.Receive t) x =
    (th : SlotThread) × (slice_get x.threads t ≡ Some th) × (th.finished ≡ false) × (is_receptive th ≡ true)
    × ((w : ℕ) × (e : Exn) × (first_thrown (flying_to t x.flight) ≡ Some (w, e)))
-- the thread sleeps, and its time has come
Asks ds (entry.Wake t) x = (due : ℕ) × (due_of t x.sleepers ≡ Some due) × (due ≤ x.clock)
-- the thread is there, hasn't finished, isn't blocked, and all of its term is a value or an exception
Asks ds (entry.Finish t) x = ((v : V) × StandsBare x t (ret v)) ⊎ ((e : Exn) × StandsBare x t (throw e))
-- the clock doesn't go back
Asks ds (entry.Tick at) x = x.clock ≤ at
-- all rest, nobody sleeps, and somebody waits at a cell and isn't masked uninterruptibly
Asks ds entry.Stranded x = AllRest x × (x.sleepers ≡ []) × ((t : ℕ) × WaitsOpen x t)
