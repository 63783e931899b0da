-- How main has ended is shown by its thread with slots.
use Rattle.std.proofs.Common.{◌≡◌, ℕ, List, Bool, true, false, cond, Option, Some, None, refl, ◌∙◌, slice_get}
use Rattle.hs_base.specs.declared.exn.Exn.{Exn}
use Rattle.hs_base.specs.declared.tree.script.Script.{Script}
use Rattle.hs_rules.specs.declared.entry.Entry.{Entry}
use Rattle.rules_expansion.specs.trees.Trees.{T}
use Rattle.rules_expansion.specs.trees.Programs.{Fn, script_of}
use Rattle.rules_meaning.specs.Values.{V}
use Rattle.rules_sorts.specs.Sorts.{Sort}
use Rattle.hs_rules.specs.Terms as named
use Rattle.hs_rules.specs.State.{Thread, State}
use Rattle.hs_rules.specs.Runs.{IsRun}
use Rattle.hs_rules.specs.Endings.{is_ret, result_of, ended_by, IsDone, IsUncaught}
use Rattle.hs_laws.specs.Standing.{IsResult}
use Rattle.hs_laws.proofs.Expanded.{standing_of}
use Rattle.hs_progress.specs.TypedStates.{has}
use Rattle.slot_laws.specs.SlotRules.{SlotPart, ret, throw}
use Rattle.slot_laws.specs.Standing.{PartStands, ret_stands, throw_stands, do_stands, op_stands}
use Rattle.slot_states.specs.SlotStates.{SlotThread, SlotState, Represents}
use Rattle.slot_states.proofs.Reading.{slotted_of}

-- ---- a part that stands for a value or for an exception
module _ (cells : ℕ → T → Type 0) (ds : List Fn) where
  value_part : {p : SlotPart} {q : named.Part} {k : Sort} → PartStands cells ds p q k → is_ret q ≡ true → (v : V) × (p ≡ ret v)
  value_part (ret_stands {v} h) e = (v, refl)
  value_part _ e = absurd (cc e)

  exception_part : {p : SlotPart} {q : named.Part} {k : Sort} → PartStands cells ds p q k → IsResult q → is_ret q ≡ false → (x : Exn) × (p ≡ throw x)
  exception_part (ret_stands h) r e = absurd (cc e)
  exception_part (throw_stands {e = x}) r e = (x, refl)
  exception_part (do_stands h) r e = absurd r
  exception_part (op_stands h) r e = absurd r

-- ---- the thread that has finished
finished_by : (th : Thread) (value b : Bool) → th.finished ≡ b → ended_by (cond b (Some th.term.part) None) value → (th.finished ≡ true) × (is_ret th.term.part ≡ value)
finished_by th value true f h = (f, h)
finished_by th value false f h = absurd h

ended_thread : (o : Option Thread) (value : Bool) → ended_by (result_of o) value → (th : Thread) × (o ≡ Some th) × (th.finished ≡ true) × (is_ret th.term.part ≡ value)
ended_thread None value h = absurd h
ended_thread (Some th) value h = let k = finished_by th value th.finished refl h in (th, refl, k.0, k.1)

module _ (script : Script) (es : List Entry) (s : State) (run : IsRun (script_of script) es s) (x : SlotState) (r : Represents (script_of script) x s) where
  abbrev ds : List Fn
  ds = script_of script

  pub done_shown : IsDone s → (th : SlotThread) × (slice_get x.threads 0 ≡ Some th) × (th.finished ≡ true) × ((v : V) × (th.term.part ≡ ret v))
  done_shown d =
      let k = ended_thread (slice_get s.threads 0) true d in
      let h = slotted_of ds x s r 0 k.0 k.1 in
      (h.0, h.1, h.2 ∙ k.2, value_part (has r.stacks.store) ds h.4.0 k.3)

  pub uncaught_shown : IsUncaught s → (th : SlotThread) × (slice_get x.threads 0 ≡ Some th) × (th.finished ≡ true) × ((e : Exn) × (th.term.part ≡ throw e))
  uncaught_shown d =
      let k = ended_thread (slice_get s.threads 0) false d in
      let h = slotted_of ds x s r 0 k.0 k.1 in
      let bare = (standing_of ds es s run).finished 0 k.0 k.1 k.2 in
      (h.0, h.1, h.2 ∙ k.2, exception_part (has r.stacks.store) ds h.4.0 bare.0 k.3)
