-- What a world is after an entry was tried (own).
use Rattle.std.specs.Prelude.{◌≡◌, ℕ, Bool, true, false, Some, slice_get}
use Rattle.hs_rules.specs.declared.entry.Entry.{Entry}
use Rattle.rules_expansion.specs.trees.Programs.{script_of}
use Rattle.rules_code.specs.declared.code.CodeBody.{CodeBody}
use Rattle.slot_states.specs.demands.Demands.{Asks}
use Rattle.thread_table.specs.declared.thread.Thread.{Thread}
use Rattle.thread_table.specs.declared.threads.Threads.{Threads}
use Rattle.world_entries.specs.declared.world.World.{World}
use Rattle.world_entries.specs.Worlds.{state_of, MakesOf, SameState}
use Rattle.run_course.specs.declared.history.acts.NextEntry.TheVariants as act
use Rattle.run_course.specs.declared.history.acts.Next.{Next}
use Rattle.run_course.specs.declared.history.acts.Next.TheVariants as next

-- With actions of this code: the entry was entered, or the world is the same and has not what the entry asks.
abbrev pub TriedOf : CodeBody → Entry → World → World → Bool → Type 0
TriedOf b e old new true = MakesOf b e old new
TriedOf b e old new false = SameState old new × ¬ Asks (script_of b.of.value) e (state_of b old)

-- the same, whatever code they are of
abbrev pub Tried : Entry → World → World → Bool → Type 0
Tried e old new done = (b : CodeBody) → TriedOf b e old new done

-- thread t is there, hasn't finished, and isn't blocked
abbrev pub IsFree : ℕ → Threads → Type 0
IsFree t s = (th : Thread) × (slice_get s.list.items t ≡ Some th) × (th.finished ≡ false) × (th.blocked ≡ false)

-- whether what can be done next is to strand
abbrev pub is_strand : Next → Bool
is_strand (next.Act act.Strand) = true
is_strand _ = false
