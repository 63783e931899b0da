-- How local rules move one thread of the table (own).
use Rattle.std.specs.Prelude.{◌≡◌, ℕ, true, List, ◌++◌, Option, Some, None, slice_get}
use Rattle.hs_base.specs.declared.mask.Mask.TheVariants.{Unmasked}
use Rattle.hs_base.specs.declared.exn.Exn.TheVariants.{BlockedIndefinitely}
use Rattle.rules_code.specs.declared.code.CodeBody.{CodeBody}
use Rattle.slot_laws.specs.SlotRules.{SlotTerm, throw, local, locals}
use Rattle.slot_states.specs.SlotStates.{resumed}
use Rattle.local_steps.specs.Machine.{funs_of, frames_of}
use Rattle.frame_stack.specs.declared.sliced.Slice.{Slice}
use Rattle.frame_stack.specs.Parts.{Stacked, part_of, term_of}
use Rattle.thread_table.specs.declared.thread.Thread.{Thread}
use Rattle.thread_table.specs.Table.{changed, slots_of, with_stack, IsAt}
use Rattle.thread_table.specs.Listing.{waits_open, WaitsAtCell}

-- what so many rules give of a stack
abbrev pub rules_of : CodeBody → ℕ → Stacked → Option SlotTerm
rules_of b k s = locals (funs_of b) Unmasked k (term_of b s)

-- this is the next stack by one rule, whatever the code
abbrev pub IsNextStack : Stacked → Stacked → Type 0
IsNextStack old new = (b : CodeBody) → local (funs_of b) Unmasked (part_of b old.control) (frames_of b old.frames) ≡ Some (term_of b new)

-- thread t has another stack, of which this holds with the one that it had; all other threads are as they were
abbrev pub HasMoved : ℕ → (Stacked → Stacked → Type 0) → List Thread → List Thread → Type 0
HasMoved t P old new = (k : Stacked) × (new ≡ changed t (with_stack k) old) × ((th : Thread) → slice_get old t ≡ Some th → P th.stack k)

-- nothing has changed, as the thread t has no so many rules
abbrev pub IsStuck : ℕ → CodeBody → ℕ → List Thread → List Thread → Type 0
IsStuck t b k old new = (new ≡ old) × ((th : Thread) → slice_get old t ≡ Some th → rules_of b k th.stack ≡ None)

-- the slice was taken: its thread stands where it ends, over the frames that it had, and its rules lead there
abbrev pub IsTaken : Slice → List Thread → List Thread → Type 0
IsTaken slice old new =
    (k : Stacked) × (new ≡ changed slice.tid (with_stack k) old) × (k.control ≡ slice.end)
    × ((th : Thread) → slice_get old slice.tid ≡ Some th
    → (k.frames ≡ slice.pushed.list ++ th.stack.frames) × ∥ rules_of slice.of.value slice.steps th.stack ≡ Some (term_of slice.of.value k) ∥₁)

-- thread t, which waited at the cell m and could be stranded, throws, and is blocked no more
abbrev pub IsStranded : ℕ → ℕ → List Thread → List Thread → Type 0
IsStranded t m old new =
    (waits_open (slice_get old t) ≡ true) × IsAt t (λ th. WaitsAtCell m th.stack.control) old
    × ((b : CodeBody) → slots_of b new ≡ resumed t (throw BlockedIndefinitely) (slots_of b old))
