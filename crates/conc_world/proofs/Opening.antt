-- Where no ending holds: what stays so of a record that changes unseen, and what a slice leaves.
use Rattle.std.specs.Prelude.{Result, Ok, Err, OnOk, OnErr, slice_get}
use Rattle.std.specs.Option.{option_map}
use Rattle.std.proofs.Common.{◌≡◌, ◌<◌, inl, inr, false, List, [], ◌∷◌, ◌++◌, Option, Some, None, arith, refl, sym, ap, ◌∙◌, subst, append-nil}
use Rattle.std.proofs.Math.Logic.{∥∥₁_elim, ∥∥₁_map}
use Rattle.std.proofs.Props.{props}
use Rattle.hs_base.specs.declared.no_memory.NoMemory.{NoMemory}
use Rattle.rules_code.specs.declared.code.CodeBody.{CodeBody}
use Rattle.hs_rules.specs.declared.entry.Entry.{Entry}
use Rattle.hs_rules.specs.declared.entry.Entry.TheVariants as entry
use Rattle.hs_rules.specs.declared.entry.LimitKind.TheVariants as limit
use Rattle.hs_rules.specs.Histories.{steps_of}
use Rattle.hs_rules.specs.Endings.{RunEnding}
use Rattle.hs_laws.specs.HistoryEndings.{HasEnding}
use Rattle.slot_states.specs.SlotStates.{SlotState, SlotThread}
use Rattle.frame_stack.specs.declared.sliced.Slice.{Slice}
use Rattle.thread_table.specs.declared.thread.Thread.{Thread}
use Rattle.thread_table.specs.Table.{slot_of, slots_of}
use Rattle.thread_table.proofs.Table.{slots_at, slots_is}
use Rattle.world_entries.specs.declared.world.World.{World}
use Rattle.world_entries.specs.Worlds.{Goes, SameState}
use Rattle.run_course.specs.declared.history.record.Record.{Record}
use Rattle.run_course.specs.history.Records.{script, Same, EndsAs}
use Rattle.run_course.proofs.clocked_lemmas.Going.{same_script}
use Rattle.run_course.specs.declared.ends.RunEnd.{RunEnd}
use Rattle.run_course.specs.declared.ends.RunEnd.TheVariants as end
use Rattle.run_course.specs.Endings.{IsConcluded, IsOpen}
use Rattle.run_course.specs.Settled.{Accepted}

-- ---- a world that stands for the same state
mapped_from : (f : Thread → SlotThread) (o : Option Thread) (y : SlotThread) → option_map f o ≡ Some y → (x : Thread) × (o ≡ Some x) × (f x ≡ y)
mapped_from f None y e = absurd (cc e)
mapped_from f (Some x) y e = (x, refl, cc e)

goes_same : (b : CodeBody) (old new : World) → SameState old new → Goes old → Goes new
goes_same b old new same g =
    let slots : slots_of b new.threads.list.items ≡ slots_of b old.threads.list.items = ap (λ (x : SlotState). x.threads) (same b) in
    let at = sym (slots_at b new.threads.list.items 0) ∙ ap (λ xs. slice_get xs 0) slots ∙ slots_is b old.threads.list.items 0 g.main g.is in
    let k = mapped_from (slot_of b) (slice_get new.threads.list.items 0) (slot_of b g.main) at in
    record { main = k.0; is = k.1; unfinished = ap (λ (x : SlotThread). x.finished) k.2 ∙ g.unfinished }

ends_same : (old new : Record) → Same old new → (ending : RunEnding) → EndsAs ending new → EndsAs ending old
ends_same old new h ending k =
    subst (λ n. ∥ HasEnding ending (script old) old.history.list n ∥₁) h.plan.0
    (subst (λ es. ∥ HasEnding ending (script old) es new.fuel ∥₁) h.history
    (subst (λ ds. ∥ HasEnding ending ds new.history.list new.fuel ∥₁) (same_script old new h.plan.2) k))

pub same_open : (old new : Record) → Same old new → IsOpen old → IsOpen new
same_open old new h o =
    let steps = ap steps_of h.history in
    let fuel = h.plan.0 in
    let less = o.fuel in
    record {
      goes = goes_same old.of.value old.world new.world h.world o.goes;
      fuel = omega (arith, steps, fuel, less);
      none = λ ending k. o.none ending (ends_same old new h ending k);
    }

-- ---- what is known without being shown
pub fuel_left : (ended : Option RunEnd) (r : Record) → ended ≡ None → ∥ (ended ≡ None → IsOpen r) ∥₁ → steps_of r.history.list < r.fuel
fuel_left ended r none known = ∥∥₁_elim known (hlevel props) (λ f. (f none).fuel)

main_shown : (ths : List Thread) (o : Option Thread) → slice_get ths 0 ≡ o → ∥ ((th : Thread) × (slice_get ths 0 ≡ Some th) × (th.finished ≡ false)) ∥₁ → (th : Thread) × (slice_get ths 0 ≡ Some th) × (th.finished ≡ false)
main_shown ths None e h = absurd (∥∥₁_elim h (λ x y. absurd x) (λ k. let z : None ≡ Some k.0 = sym e ∙ k.1 in cc z))
main_shown ths (Some th) e h =
    let unfinished : th.finished ≡ false = ∥∥₁_elim h (hlevel props) (λ k. let z : Some th ≡ Some k.0 = sym e ∙ k.1 in let same : th ≡ k.0 = cc z in ap (λ (x : Thread). x.finished) same ∙ k.2) in
    (th, e, unfinished)

pub goes_shown : (ended : Option RunEnd) (r : Record) → ended ≡ None → ∥ (ended ≡ None → IsOpen r) ∥₁ → Goes r.world
goes_shown ended r none known =
    let ths : List Thread = r.world.threads.list.items in
    let k = main_shown ths (slice_get ths 0) refl (∥∥₁_map known (λ f. let go = (f none).goes in (go.main, go.is, go.unfinished))) in
    record { main = k.0; is = k.1; unfinished = k.2 }

-- ---- what a slice that was accepted leaves, or one that memory ran out for
module _ (s : Slice) (ended : Option RunEnd) (old new : Record) where
  accepted_code : Accepted s ended old new → new.of ≡ old.of
  accepted_code (inl h) = h.0.plan.2
  accepted_code (inr h) = h.0.plan.2

  accepted_open : Accepted s ended old new → ended ≡ None → IsOpen new
  accepted_open (inl h) none = subst (λ e. IsConcluded e new) none h.1
  accepted_open (inr h) none = let z : None ≡ Some (end.Limit limit.Frames (entry.Local s.tid s.steps)) = sym none ∙ h.1 in absurd (cc z)

  accepted_history : Accepted s ended old new → (more : List Entry) × (new.history.list ≡ old.history.list ++ more)
  accepted_history (inl h) = (entry.Local s.tid s.steps ∷ [], h.0.history)
  accepted_history (inr h) = ([], h.0.history ∙ sym (append-nil old.history.list))

  pub same_code : (result : Result Unit NoMemory) → OnOk result (Accepted s ended old new) → OnErr result (Same old new × (ended ≡ None)) → new.of ≡ old.of
  same_code (Ok u) ok err = accepted_code ok
  same_code (Err x) ok err = err.0.plan.2

  pub open_after : (result : Result Unit NoMemory) → OnOk result (Accepted s ended old new) → OnErr result (Same old new × (ended ≡ None)) → IsOpen old → ended ≡ None → IsOpen new
  open_after (Ok u) ok err was none = accepted_open ok none
  open_after (Err x) ok err was none = same_open old new err.0 was

  pub history_after : (result : Result Unit NoMemory) → OnOk result (Accepted s ended old new) → OnErr result (Same old new × (ended ≡ None)) → (more : List Entry) × (new.history.list ≡ old.history.list ++ more)
  history_after (Ok u) ok err = accepted_history ok
  history_after (Err x) ok err = ([], err.0.history ∙ sym (append-nil old.history.list))
