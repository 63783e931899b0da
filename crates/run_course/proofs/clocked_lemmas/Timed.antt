-- Which acts perform an operation that reads the clock or waits for it.
use Rattle.std.proofs.Props.{props}
use Rattle.std.proofs.Common.{◌≡◌, ℕ, List, Bool, true, Option, Some, None, refl, sym, ◌∙◌, subst, slice_get}
use Rattle.std.proofs.Math.Logic.{∥∥₁_elim, ∥∥₁_map}
use Rattle.rules_expansion.specs.trees.Trees.{T}
use Rattle.rules_expansion.specs.trees.Programs.{Fn}
use Rattle.rules_sorts.specs.Sorts.{Sort}
use Rattle.rules_code.specs.declared.code.CodeBody.{CodeBody}
use Rattle.hs_rules.specs.Terms as named
use Rattle.hs_rules.specs.Terms.{Calls}
use Rattle.hs_rules.specs.State.{State}
use Rattle.hs_laws.specs.BracketPhases.{OpPart, At}
use Rattle.hs_laws.specs.ClockLaw.{AsksClock}
use Rattle.hs_progress.specs.TypedStates.{has}
use Rattle.slot_laws.specs.SlotRules.{SlotPart, performs, calls}
use Rattle.slot_laws.specs.Standing.{PartStands, ret_stands, throw_stands, do_stands, op_stands, calls_stands, forks_stands, forks_unmask_stands}
use Rattle.slot_states.proofs.Reading.{Named, named_of}
use Rattle.frame_stack.specs.declared.control.Operation.TheVariants as operation
use Rattle.frame_stack.specs.declared.control.Control.{Control}
use Rattle.frame_stack.specs.declared.control.Control.TheVariants as control
use Rattle.frame_stack.specs.Parts.{part_of}
use Rattle.thread_table.specs.declared.thread.Thread.{Thread}
use Rattle.thread_table.specs.Table.{slot_of}
use Rattle.thread_table.proofs.Table.{slots_is}
use Rattle.world_entries.specs.Worlds.{state_of, Live}
use Rattle.run_course.specs.declared.history.acts.NextEntry.{NextEntry}
use Rattle.run_course.specs.declared.history.acts.NextEntry.TheVariants as act
use Rattle.run_course.specs.declared.history.record.Record.{Record}
use Rattle.run_course.specs.history.Records.{script, Can}
use Rattle.run_course.proofs.history_lemmas.GoingOn.{one_state}
use Rattle.run_course.specs.clocked.Clocks.{is_timed, Asks}

-- ---- parts

-- a part with slots at such an operation
abbrev AsksSlots : SlotPart → Type 0
AsksSlots (performs (calls w vs)) = AsksClock (Calls w vs)
AsksSlots _ = ⊥

module _ (cells : ℕ → T → Type 0) (ds : List Fn) where
  slots_ask : {p : SlotPart} {q : named.Part} {k : Sort} → PartStands cells ds p q k → AsksSlots p → OpPart AsksClock q
  slots_ask (ret_stands h) a = a
  slots_ask throw_stands a = a
  slots_ask (do_stands h) a = a
  slots_ask (op_stands (calls_stands m h)) a = a
  slots_ask (op_stands (forks_stands h)) a = a
  slots_ask (op_stands (forks_unmask_stands h)) a = a

  asks_slots : {p : SlotPart} {q : named.Part} {k : Sort} → PartStands cells ds p q k → OpPart AsksClock q → AsksSlots p
  asks_slots (ret_stands h) a = a
  asks_slots throw_stands a = a
  asks_slots (do_stands h) a = a
  asks_slots (op_stands (calls_stands m h)) a = a
  asks_slots (op_stands (forks_stands h)) a = a
  asks_slots (op_stands (forks_unmask_stands h)) a = a

-- ---- controls
timed_asks : (b : CodeBody) (k : Control) → is_timed k ≡ true → AsksSlots (part_of b k)
timed_asks b (control.Op (operation.ThreadDelay n)) e = tt
timed_asks b (control.Op operation.ClockMicros) e = tt
timed_asks b _ e = absurd (cc e)

asks_timed : (b : CodeBody) (k : Control) → AsksSlots (part_of b k) → is_timed k ≡ true
asks_timed b (control.Op (operation.ThreadDelay n)) a = refl
asks_timed b (control.Op operation.ClockMicros) a = refl
asks_timed b _ a = absurd a

-- ---- acts
module _ (r : Record) (t : ℕ) (th : Thread) (is : slice_get r.world.threads.list.items t ≡ Some th) where
  abbrev LiveNow : Type 0
  LiveNow = Live r.of.value r.history.list r.world

  -- the thread of the rules that it stands for
  stood_for : (live : LiveNow) → Named (script r) (state_of r.of.value r.world) live.state live.represents t (slot_of r.of.value th)
  stood_for live = named_of (script r) (state_of r.of.value r.world) live.state live.represents t (slot_of r.of.value th) (slots_is r.of.value r.world.threads.list.items t th is)

  pub timed_op_asks : is_timed th.stack.control ≡ true → Asks (act.Op t) r
  timed_op_asks e =
      ∥∥₁_map r.after (λ live.
      let n = stood_for live in
      let a = slots_ask (has live.represents.stacks.store) (script r) n.stands.0 (timed_asks r.of.value th.stack.control e) in
      (live.state, live.run, subst (At AsksClock) (sym n.is) a))

  pub asking_op_is_timed : Asks (act.Op t) r → is_timed th.stack.control ≡ true
  asking_op_is_timed h =
      ∥∥₁_elim r.after (hlevel props) (λ live. ∥∥₁_elim h (hlevel props) (λ k.
      let n = stood_for live in
      let same : k.0 ≡ live.state = one_state (script r) r.history.list k.0 live.state k.1 live.run in
      let here : At AsksClock (slice_get live.state.threads t) = subst (λ (s : State). At AsksClock (slice_get s.threads t)) same k.2 in
      asks_timed r.of.value th.stack.control (asks_slots (has live.represents.stacks.store) (script r) n.stands.0 (subst (At AsksClock) n.is here))))

-- ---- what an act asks, as it is read
module _ (r : Record) (a : NextEntry) (t : ℕ) (e : a ≡ act.Op t) where
  pub asks_so : (th : Thread) → slice_get r.world.threads.list.items t ≡ Some th → (b : Bool) → b ≡ is_timed th.stack.control → (b ≡ true → Asks a r) × (Asks a r → b ≡ true)
  asks_so th is b q = (
    λ h. subst (λ z. Asks z r) (sym e) (timed_op_asks r t th is (sym q ∙ h)),
    λ h. q ∙ asking_op_is_timed r t th is (subst (λ z. Asks z r) e h),
  )

  -- the thread of an act that is possible is there
  pub op_is_there : Can a r.world → slice_get r.world.threads.list.items t ≡ None → ⊥
  op_is_there can none =
      let own : Can (act.Op t) r.world = subst (λ z. Can z r.world) e can in
      let z : ◌≡◌ {A = Option Thread} None (Some own.thread) = sym none ∙ own.is in
      cc z
