-- What is legal has what it asks, and a deadlock rests.
use Rattle.std.proofs.Common.{◌≡◌, ◌≢◌, ◌≤◌, ℕ, suc, List, [], ◌∷◌, length, Bool, true, false, cond, ◌⊎◌, inl, inr, ⊎_elim, Option, Some, None, refl, sym, ap, ◌∙◌, subst, arith, slice_get}
use Rattle.hs_base.specs.declared.mask.Mask.TheVariants.{Unmasked}
use Rattle.hs_base.specs.declared.exn.Exn.{Exn}
use Rattle.hs_base.specs.declared.tree.script.Script.{Script}
use Rattle.hs_rules.specs.declared.entry.Entry.{Entry}
use Rattle.hs_rules.specs.declared.entry.Entry.TheVariants as entry
use Rattle.rules_expansion.specs.trees.Trees.{T}
use Rattle.rules_expansion.specs.trees.Programs.{Fn, script_of}
use Rattle.rules_meaning.specs.Values.{V}
use Rattle.rules_meaning.specs.CoreMeaning.{code_of}
use Rattle.rules_sorts.specs.Sorts.{Sort}
use Rattle.rules_typing.specs.TypingScripts.{Accepted}
use Rattle.rules_code.specs.CodeTrees.{code_trees}
use Rattle.rules_waiting.specs.Waiting.{Flying, flight_of, flying_to, first_thrown, first_awake}
use Rattle.exn_flight.specs.Asleep.{due_of}
use Rattle.hs_rules.specs.Terms as named
use Rattle.hs_rules.specs.Terms.{Operation, Ret, Throw, Do, Performs, Term, mask_at}
use Rattle.hs_rules.specs.LocalRules as rules
use Rattle.hs_rules.specs.State.{Thread, State}
use Rattle.hs_rules.specs.Entries as entries
use Rattle.hs_rules.specs.Entries.{is_unmasked, on_thread, stranded, IsLegal}
use Rattle.hs_laws.specs.cases.Cases as row
use Rattle.hs_laws.specs.cases.Cases.{Unfinished}
use Rattle.hs_laws.proofs.cases_lemmas.Entering.{case_of, open_so, interruptible}
use Rattle.hs_rules.specs.Runs.{IsRun}
use Rattle.hs_rules.specs.Endings.{IsDeadlock}
use Rattle.hs_laws.specs.Standing.{IsResult, NoneWorks}
use Rattle.hs_laws.proofs.Lists.{StandsIn}
use Rattle.hs_laws.proofs.Expanded.{standing_of}
use Rattle.hs_progress.specs.TypedStates.{has}
use Rattle.hs_progress.proofs.Heads.{heads_kept}
use Rattle.hs_progress.proofs.Quiet.{quiet_exactly, stranded_exactly}
use Rattle.slot_laws.specs.SlotRules.{SlotPart, SlotFrame, ret, throw, SlotTerm, at, locals}
use Rattle.slot_laws.specs.Standing.{PartStands, ret_stands, throw_stands, do_stands, op_stands, BothStand}
use Rattle.slot_laws.proofs.Simulation.{same_rules}
use Rattle.slot_states.specs.SlotStates.{SlotThread, SlotState, Represents, StandsBare, MainGoes}
use Rattle.slot_states.specs.Resting.{WaitsOpen, AllRest}
use Rattle.slot_states.proofs.Asleep.{due_until}
use Rattle.slot_states.proofs.AtRest.{same_receptive}
use Rattle.slot_states.proofs.Reading.{operation_is, same_masks, same_throw, as_many, named_of, slotted_of, blocked_at, main_runs}
use Rattle.slot_states.proofs.Settled.{no_result, none_asleep}
use Rattle.slot_states.proofs.StrandedAlike.{waits_named, waits_slotted, open_stands, stands_open}
use Rattle.slot_states.specs.demands.Demands.{Asks}

-- ---- the main thread of an entry
main_is : (o : Option Thread) (k : Thread → Option State) (u : State) → on_thread o k ≡ Some u → (th : Thread) × (o ≡ Some th) × (th.finished ≡ false)
main_is None k u e = absurd (cc e)
main_is (Some th) k u e = (th, refl, elim th.finished as (λ b. cond b None (k th) ≡ Some u → b ≡ false) [ true ↦ λ q. absurd (cc q) | false ↦ λ q. refl ] e)

some_in : (ts : List ℕ) → ts ≢ [] → (t : ℕ) × StandsIn t ts
some_in [] n = absurd (n refl)
some_in (t ∷ ts) n = (t, inl refl)

none_in : (t : ℕ) (ts : List ℕ) → ts ≡ [] → StandsIn t ts → ⊥
none_in t [] e h = h
none_in t (u ∷ us) e h = cc e

-- ---- the term with slots that stands for it
no_length : (fs : List SlotFrame) (n : ℕ) → n ≡ 0 → length fs ≡ n → fs ≡ []
no_length [] n z e = refl
no_length (f ∷ fs) n z e = absurd (omega (arith, z, e))

whole_term : (st : SlotTerm) (p : SlotPart) → st.part ≡ p → st.frames ≡ [] → st ≡ at p []
whole_term st p e f = ap (λ q. at q st.frames) e ∙ ap (at p) f

module _ (cells : ℕ → T → Type 0) (ds : List Fn) where
  other_side : (o : Option SlotTerm) (r : Option Term) (v : Term) → r ≡ Some v → BothStand cells ds o r → (st : SlotTerm) × (o ≡ Some st)
  other_side None None v q h = absurd (cc q)
  other_side None (Some u) v q h = absurd h
  other_side (Some st) r v q h = (st, refl)

  result_part : {p : SlotPart} {q : named.Part} {k : Sort} → PartStands cells ds p q k → IsResult q → ((v : V) × (p ≡ ret v)) ⊎ ((x : Exn) × (p ≡ throw x))
  result_part (ret_stands {v} h) r = inl (v, refl)
  result_part (throw_stands {e = x}) r = inr (x, refl)
  result_part (do_stands h) r = absurd r
  result_part (op_stands h) r = absurd r

-- ---- entries
module _ (script : Script) (accepted : Accepted script) (es : List Entry) (s : State) (run : IsRun (script_of script) es s) (x : SlotState) (r : Represents (script_of script) x s) where
  abbrev ds : List Fn
  ds = script_of script

  abbrev cells : ℕ → T → Type 0
  cells = has r.stacks.store

  -- where nothing works and nobody sleeps all rest
  all_rest : NoneWorks s → x.sleepers ≡ [] → AllRest x
  all_rest w awake = record {
    blocked = λ t th is f. (let n = named_of ds x s r t th is in n.blocked ∙ w.blocked t n.thread n.is (sym n.finished ∙ f));
    unheard = λ t th is f c.
        (let n = named_of ds x s r t th is in
        let same = same_receptive s t th n.thread n.blocked (same_throw cells ds n.stands.0) (same_masks cells ds n.stands.1) in
        ap (flying_to t) r.agrees.flight ∙ w.unheard t n.thread n.is (sym n.finished ∙ f) (sym same ∙ c));
    asleep = ap (first_awake x.clock) awake;
  }

  -- who stands at a result isn't blocked
  result_free : (t : ℕ) (th : Thread) (h : SlotThread) → slice_get x.threads t ≡ Some h → PartStands cells ds h.term.part th.term.part (r.stacks.store.sorts t) → IsResult th.term.part → (b : Bool) → h.blocked ≡ b → h.blocked ≡ false
  result_free t th h is p k false b = b
  result_free t th h is p k true b = absurd (no_result cells ds p (blocked_at ds x s r (standing_of ds es s run) t h is b).part k)

  bare : (t : ℕ) (h : SlotThread) (p : SlotPart) → slice_get x.threads t ≡ Some h → h.finished ≡ false → h.blocked ≡ false → h.term.frames ≡ [] → h.term.part ≡ p → StandsBare x t p
  bare t h p is f b e q = record { thread = h; is = is; term = whole_term h.term p q e; unfinished = f; free = b }

  -- a thread of the rules that can receive
  hears : (t : ℕ) (th : Thread) (f : Flying) (fs : List Flying) → Unfinished t th s → entries.is_receptive t th.term s ≡ true → flying_to t (flight_of s.blocked) ≡ f ∷ fs → Asks ds (entry.Receive t) x
  hears t th f fs g c e =
      let h = slotted_of ds x s r t th g.0 in
      let same = same_receptive s t h.0 th h.3 (same_throw cells ds h.4.0) (same_masks cells ds h.4.1) in
      (h.0, h.1, h.2 ∙ g.1, same ∙ c, (f.thrower, f.exn, ap (λ fs. first_thrown (flying_to t fs)) r.agrees.flight ∙ ap first_thrown e))

  -- one that ends
  ends : {q : named.Part} (t : ℕ) (th : Thread) → Unfinished t th s → th.term.frames ≡ [] → th.term.part ≡ q → IsResult q → Asks ds (entry.Finish t) x
  ends t th g e q i =
      let h = slotted_of ds x s r t th g.0 in
      let k = subst IsResult (sym q) i in
      let free = result_free t th h.0 h.1 h.4.0 k h.0.blocked refl in
      let none = no_length h.0.term.frames (length th.term.frames) (ap length e) (as_many cells ds h.4.1) in
      ⊎_elim
      (λ v. inl (v.0, bare t h.0 (ret v.0) h.1 (h.2 ∙ g.1) free none v.1))
      (λ v. inr (v.0, bare t h.0 (throw v.0) h.1 (h.2 ∙ g.1) free none v.1))
      (result_part cells ds h.4.0 k)

  asks_by : {e : Entry} {u : State} → row.Enters (code_of ds) s e u → IsLegal (code_of ds) s e → Asks ds e x
  asks_by (row.local {t} {k} {th} {x = y} m g b l) i =
      let h = slotted_of ds x s r t th g.0 in
      let both = same_rules cells script accepted (heads_kept script accepted) (suc k) h.0.term th.term (record { sort = r.stacks.store.sorts t; part = h.4.0; frames = h.4.1 }) in
      (h.0, h.1, h.2 ∙ g.1, h.3 ∙ b, omega arith, other_side cells ds (locals (code_trees ds) Unmasked (suc k) h.0.term) (rules.locals (code_of ds) (suc k) th.term) y l both)
  asks_by (row.operation {t} {th} {p} m g b q c) i =
      let h = slotted_of ds x s r t th g.0 in
      let o = operation_is cells ds (subst (λ z. PartStands cells ds h.0.term.part z (r.stacks.store.sorts t)) q h.4.0) in
      (o.0, record { thread = h.0; is = h.1; part = o.1; unfinished = h.2 ∙ g.1; free = h.3 ∙ b })
  asks_by (row.receives_while_it_runs {t} {th} {f} {fs} m g n b k q) i = hears t th f fs g (open_so (code_of ds) t th s false false n b (ap is_unmasked k)) q
  asks_by (row.receives_while_it_waits {t} {th} {f} {fs} m g n b k q) i = hears t th f fs g (open_so (code_of ds) t th s true true n b (interruptible (mask_at th.term.frames) k)) q
  asks_by (row.wakes {t} {due} m q le) i = (due, ap (due_of t) r.agrees.sleepers ∙ due_until t due s.blocked (standing_of ds es s run).once q, subst (λ n. due ≤ n) (sym r.agrees.clock) le)
  asks_by (row.finishes_by_a_value {t} {th} m g f q) i = ends t th g f q tt
  asks_by (row.main_finishes_by_an_exception {th} g f q) i = ends 0 th g f q tt
  asks_by (row.finishes_silently {t} {th} m g f q k) i = ends (suc t) th g f q tt
  asks_by (row.finishes_with_a_line {t} {th} m g f q k) i = ends (suc t) th g f q tt
  asks_by (row.ticks {at} m le) i = subst (λ n. n ≤ at) (sym r.agrees.clock) le
  asks_by (row.strands m e a) i =
      let m = (stranded_exactly script accepted es s run).0 i in
      let awake = none_asleep ds x s r m.awake in
      let v = some_in (stranded s) m.some in
      (all_rest m.waits awake, awake, (v.0, waits_slotted ds x s r (standing_of ds es s run) v.0 (stands_open s v.0 v.1)))

  main_there : (th : Thread) → slice_get s.threads 0 ≡ Some th → th.finished ≡ false → MainGoes x
  main_there th is f = let h = slotted_of ds x s r 0 th is in record { main = h.0; is = h.1; unfinished = h.2 ∙ f }

  pub asked : (e : Entry) → IsLegal (code_of ds) s e → MainGoes x × Asks ds e x
  asked e l =
      let m = main_is (slice_get s.threads 0) (λ th. entries.entered (code_of ds) s e) l.0 l.1.0 in
      (main_there m.0 m.1 m.2, asks_by (case_of (code_of ds) s e l.0 l.1.0) l)

  -- ---- a deadlock
  pub rests : MainGoes x → IsDeadlock (code_of ds) s → AllRest x × (x.sleepers ≡ []) × ((t : ℕ) → WaitsOpen x t → ⊥)
  rests main d =
      let w = (quiet_exactly script accepted es s run (main_runs ds x s r main)).0 d.0 in
      let awake = none_asleep ds x s r d.1 in (
        all_rest (record { blocked = w.blocked; unheard = w.unheard; asleep = w.asleep }) awake,
        awake,
        λ t o. none_in t (stranded s) (w.unstranded d.1) (open_stands s t (waits_named ds x s r (standing_of ds es s run) t o)),
      )
