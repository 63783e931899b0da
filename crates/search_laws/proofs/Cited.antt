-- The laws below on which these rest.
use Rattle.std.proofs.Common.{◌≡◌, List, Some, None, cond, refl, sym, ap, ◌∙◌, slice_get}
use Rattle.std.specs.Prelude.{◌↔◌}
use Rattle.hs_base.specs.declared.tree.script.Script.{Script}
use Rattle.hs_rules.specs.declared.entry.Entry.{Entry}
use Rattle.hs_rules.specs.declared.entry.Entry.TheVariants as entry
use Rattle.rules_expansion.specs.trees.Programs.{script_of}
use Rattle.rules_meaning.specs.CoreMeaning.{code_of}
use Rattle.rules_typing.specs.TypingScripts.{Accepted}
use Rattle.rules_code.specs.CodeTrees.{SlottedFunction, code_trees}
use Rattle.hs_rules.specs.State.{State}
use Rattle.hs_rules.specs.Entries.{Leads}
use Rattle.hs_rules.specs.Runs.{IsRun}
use Rattle.outcome_laws.specs.timing.WithoutTime as named
use Rattle.hs_base.specs.declared.mask.Mask.TheVariants.{Unmasked}
use Rattle.slot_laws.specs.SlotRules.{locals, on_term}
use Rattle.slot_states.specs.SlotStates.{SlotState, Represents}
use Rattle.slot_states.specs.Printing.{output_by, errors_by}
use Rattle.slot_states.specs.entering.Entering.{next, local_entry, moved}
use Rattle.search_laws.specs.time.WithoutTime.{untimed, ReadsClock}
use Rattle.slot_states.proofs.entering_lemmas.Passing.{thread_leaves}
pub use Rattle.slot_states.proofs.entering_lemmas.Entered.{next_entered as entered}
use Rattle.slot_states.proofs.entering_lemmas.Legal.{legal_next}
pub use Rattle.search_laws.proofs.time_lemmas.Waking.{next_forth as forth, next_back as back, or_ticks as ticked}
use Rattle.search_laws.proofs.time_lemmas.Standing.{reads_alike}
pub use Rattle.search_laws.proofs.rests_lemmas.Stepping.{moves_step as steps}
use Rattle.search_laws.specs.rests.Rests.{EagerMove}

pub legal : (script : Script) → Accepted script → (es : List Entry) (s u : State) → IsRun (script_of script) es s → (x : SlotState) → Represents (script_of script) x s → (e : Entry) → Leads (code_of (script_of script)) s e u → (y : SlotState) × (next (code_trees (script_of script)) x e ≡ Some y) × Represents (script_of script) y u
legal script accepted es s u run x r e = legal_next script accepted es s run x r u e

pub reads : (x : SlotState) (e : Entry) → ReadsClock (untimed x) e ↔ ReadsClock x e
reads x (entry.Tick at) = (λ h. h, λ h. h)
reads x _ = (λ h. h, λ h. h)

pub reads_named : (script : Script) (x : SlotState) (s : State) → Represents (script_of script) x s → (e : Entry) → ReadsClock x e ↔ named.ReadsClock s e
reads_named script x s r e = reads_alike (script_of script) x s r e

pub same_output : (x : SlotState) (e : Entry) → output_by (untimed x) e ≡ output_by x e
same_output x (entry.Tick at) = refl
same_output x _ = refl

pub same_errors : (x : SlotState) (e : Entry) → errors_by (untimed x) e ≡ errors_by x e
same_errors x (entry.Tick at) = refl
same_errors x _ = refl

pub move_enters : (funs : List SlottedFunction) (x y : SlotState) (m : EagerMove funs x y) → next funs x (entry.Local m.number 1) ≡ Some y
move_enters funs x y m =
    thread_leaves (slice_get x.threads 0) _ m.main.main (Some y) m.main.is m.main.unfinished
    (thread_leaves (slice_get x.threads m.number) (λ th. local_entry funs m.number 1 th x) m.thread (Some y) m.is m.unfinished
    (ap (λ b. cond b None (moved m.number (locals funs Unmasked 1 m.thread.term) x)) m.free
    ∙ (ap (λ o. moved m.number (on_term o (λ u. Some u)) x) m.leads ∙ ap Some (sym m.moved))))
