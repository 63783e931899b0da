-- What a world stands for before and after an entry, and what is known of a live one.
use Rattle.std.proofs.Common.{◌≡◌, ℕ, List, Option, Some, None, slice_get, refl, sym, ap, ◌∙◌, subst}
use Rattle.std.proofs.Math.Logic.{∥∥₁_elim}
use Rattle.hs_rules.specs.declared.entry.Entry.{Entry}
use Rattle.rules_typing.specs.TypingScripts.{Accepted}
use Rattle.rules_code.specs.declared.code.CodeBody.{CodeBody}
use Rattle.slot_laws.specs.SlotRules.{performs}
use Rattle.slot_states.specs.SlotStates.{SlotState, Enters, StandsAt, MainGoes}
use Rattle.frame_stack.specs.declared.control.Operation.{Operation}
use Rattle.frame_stack.specs.declared.control.Control.{Control}
use Rattle.frame_stack.specs.declared.control.Control.TheVariants as c
use Rattle.frame_stack.specs.Parts.{IsOp, part_of, op_of}
use Rattle.thread_table.specs.declared.thread.Thread.{Thread}
use Rattle.thread_table.specs.Table.{slot_of, IsAt}
use Rattle.thread_table.proofs.Table.{slots_is}
use Rattle.world_entries.specs.declared.world.World.{World}
use Rattle.world_entries.specs.Worlds.{state_of, Makes, Stands, Goes}

-- where the new world is what an entry makes of the old one, the entry makes it
pub made : (e : Entry) (old new : World) (y : CodeBody → SlotState) → ((b : CodeBody) → state_of b new ≡ y b) → ((b : CodeBody) → Accepted b.of.value → Enters b.of.value e (state_of b old) (y b)) → Makes e old new
made e old new y same law b accepted stands = subst (Enters b.of.value e (state_of b old)) (sym (same b)) (law b accepted)

-- ---- threads
abbrev pub stands_at : (w : World) (t : ℕ) (o : Operation) → Stands w t o → (b : CodeBody) → StandsAt (state_of b w) t (performs (op_of b o))
stands_at w t o s b = record {
  thread = slot_of b s.thread;
  is = slots_is b w.threads.list.items t s.thread s.is;
  part = ap (part_of b) s.control;
  unfinished = s.unfinished;
  free = s.free;
}

pub main_goes : (w : World) → Goes w → (b : CodeBody) → MainGoes (state_of b w)
main_goes w g b = record { main = slot_of b g.main; is = slots_is b w.threads.list.items 0 g.main g.is; unfinished = g.unfinished }

pub stands_op : (w : World) (t : ℕ) (o : Operation) → Stands w t o → IsAt t (λ (th : Thread). IsOp th.stack.control) w.threads.list.items
stands_op w t o s = record { thread = s.thread; is = s.is; holds = subst IsOp (sym s.control) tt }

-- a thread that is there and stands at an operation, where that is known without being shown
module _ (ths : List Thread) (t : ℕ) where
  shown_op : (th : Thread) → slice_get ths t ≡ Some th → ∥ IsAt t (λ (x : Thread). IsOp x.stack.control) ths ∥₁ → (k : Control) → th.stack.control ≡ k → IsAt t (λ (x : Thread). IsOp x.stack.control) ths
  shown_op th e h (c.Op q) i = record { thread = th; is = e; holds = subst IsOp (sym i) tt }
  shown_op th e h (c.Doing a vs) i = absurd (∥∥₁_elim h (λ x y. absurd x) (λ a'. let same : a'.thread ≡ th = let z : Some a'.thread ≡ Some th = sym a'.is ∙ e in cc z in subst IsOp (ap (λ (x : Thread). x.stack.control) same ∙ i) a'.holds))
  shown_op th e h (c.Ret v) i = absurd (∥∥₁_elim h (λ x y. absurd x) (λ a'. let same : a'.thread ≡ th = let z : Some a'.thread ≡ Some th = sym a'.is ∙ e in cc z in subst IsOp (ap (λ (x : Thread). x.stack.control) same ∙ i) a'.holds))
  shown_op th e h (c.Throw x) i = absurd (∥∥₁_elim h (λ x y. absurd x) (λ a'. let same : a'.thread ≡ th = let z : Some a'.thread ≡ Some th = sym a'.is ∙ e in cc z in subst IsOp (ap (λ (x : Thread). x.stack.control) same ∙ i) a'.holds))

  shown_by : (o : Option Thread) → slice_get ths t ≡ o → ∥ IsAt t (λ (x : Thread). IsOp x.stack.control) ths ∥₁ → IsAt t (λ (x : Thread). IsOp x.stack.control) ths
  shown_by None e h = absurd (∥∥₁_elim h (λ x y. absurd x) (λ a. let z : ◌≡◌ {A = Option Thread} None (Some a.thread) = sym e ∙ a.is in cc z))
  shown_by (Some th) e h = shown_op th e h th.stack.control refl

  pub op_shown : ∥ IsAt t (λ (x : Thread). IsOp x.stack.control) ths ∥₁ → IsAt t (λ (x : Thread). IsOp x.stack.control) ths
  op_shown h = shown_by (slice_get ths t) refl h
