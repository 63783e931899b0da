-- Every entry keeps a state typed, and a thread of a typed state that runs has a legal entry.
use Rattle.std.proofs.Common.{◌≡◌, ◌≢◌, ◌==◌, ⊎_elim, ℕ, zero, suc, ◌≤◌, List, [], ◌∷◌, length, slice_get, true, false, Option, Some, None, refl, sym, ap, ◌∙◌, subst, arith, Bool}
use Rattle.hs_base.specs.declared.tree.script.Script.{Script}
use Rattle.hs_rules.specs.declared.entry.Entry.{Entry}
use Rattle.hs_rules.specs.declared.entry.Entry.TheVariants as entry
use Rattle.rules_expansion.specs.trees.Trees.{unit}
use Rattle.rules_expansion.specs.trees.Programs.{Fn, script_of}
use Rattle.rules_meaning.specs.Values.{UnitValue}
use Rattle.rules_expansion.specs.Core.{Core}
use Rattle.rules_meaning.specs.CoreMeaning.{Code, code_of}
use Rattle.rules_sorts.specs.Sorts.{a_value}
use Rattle.rules_typing.specs.TypingScripts.{Accepted}
use Rattle.hs_rules.specs.Terms.{Operation, Part, Ret, Throw, Do, Performs, Frame, Term, mask_at}
use Rattle.hs_rules.specs.LocalRules.{local, on_term}
use Rattle.rules_waiting.specs.Waiting.{Sleeping, Flying, is_blocked, flight_of, flying_to, first_thrown}
use Rattle.hs_rules.specs.State.{Thread, State, move, resume, answer, resume_all, first}
use Rattle.hs_rules.specs.Primitives.{operated}
use Rattle.hs_rules.specs.Entries.{closed, next, IsTimely, IsLegal, is_silent}
use Rattle.hs_rules.specs.Runs.{Run, IsRun}
use Rattle.hs_laws.specs.cases.Cases as row
use Rattle.hs_laws.proofs.cases_lemmas.Entering.{case_of, entered_is}
use Rattle.hs_laws.proofs.cases_lemmas.Performing as performing
use Rattle.hs_base.specs.declared.exn.Exn.{Exn}
use Rattle.hs_laws.proofs.cases_lemmas.Performing.{performed_is}
use Rattle.hs_laws.proofs.Changes.{receiving, closing}
use Rattle.hs_base.specs.declared.exn.Exn.TheVariants.{BlockedIndefinitely}
use Rattle.hs_laws.specs.BracketLaw.{mine}
use Rattle.hs_laws.specs.Standing.{IsBare}
use Rattle.hs_laws.proofs.Lists.{cond_false, equal_or, Found, first_found, OnReason, reason_found, throws, throws_at, those, throw_is_first, throwers_are, some_item}
use Rattle.hs_laws.proofs.States.{Holds, Waits, ended, ended_holds, bare_owes_nothing, run_kept, first_holds}
use Rattle.hs_laws.proofs.Expanded.{fine_actions, fine_main, run_from_main, run_holds}
use Rattle.hs_progress.specs.TypedStates.{HeadsKept, stored, Runs, PartTyped, throw_typed, do_typed, no_frames, TermTyped, ThreadTyped, Store, has, with_sort, Sound, TypedState, Follows, Stays}
use Rattle.hs_progress.specs.GoingOn.{MainRuns, IsRunning, own_entry, Stops, StepsOrStops}
use Rattle.hs_progress.proofs.Heads.{heads_kept, main_runs}
use Rattle.hs_progress.proofs.Moves.{local_goes, KeepsTyped, locals_go}
use Rattle.hs_progress.proofs.Sounds.{SoundAt, pack, set_sound, moved_sound, resume_sound, part_op, fit_at, unit_answer, thrown_reason, throwers_sound, all_throw_sound}
use Rattle.hs_progress.proofs.Operations.{Ok, operated_ok}

module _ (script : Script) (accepted : Accepted script) (heads : HeadsKept (script_of script)) where
  abbrev ds : List Fn
  ds = script_of script

  abbrev code : Code
  code = code_of (script_of script)

  abbrev All : ℕ → Type 0
  All u = Unit {0}

  module _ (s : State) (g : Holds s) (st : Store) (d : Sound ds st s.threads s.cells) where
    typed_at : (t : ℕ) (th : Thread) → slice_get s.threads t ≡ Some th → ThreadTyped (has st) ds (st.sorts t) (Some th)
    typed_at t th is = subst (ThreadTyped (has st) ds (st.sorts t)) is (d.threads t)

    term_at : (t : ℕ) (th : Thread) → slice_get s.threads t ≡ Some th → TermTyped (has st) ds th.term
    term_at t th is = let h = typed_at t th is in record { sort = st.sorts t; part = h.0; frames = h.1 }

    -- ---- an entry leaves a state that is typed by a store that follows
    move_typed : (t : ℕ) (th : Thread) (x : Term) → slice_get s.threads t ≡ Some th → TermTyped (has st) ds x → Follows ds st (λ u. u ≢ t) (move t x s)
    move_typed t th x is h = record {
      store = with_sort t h.sort st;
      sound = moved_sound ds st s t th x is d h;
      cells = λ m v q. q;
      count = omega arith;
      sorts = λ u lt q. ⊎_elim (λ y. absurd (q y.1)) (λ y. cond_false (u == t) h.sort (st.sorts u) y.0) (equal_or u t);
    }

    local_typed : {t k : ℕ} {u : State} → row.Enters code s (entry.Local t k) u → Follows ds st (λ v. v ≢ t) u
    local_typed (row.local {t} {k} {th} {x} m i b l) = move_typed t th x i.0 (subst (KeepsTyped (has st) script accepted heads) l (locals_go (has st) script accepted heads (suc k) th.term (term_at t th i.0)))

    -- ---- Op: an operation of a thread that isn't blocked goes on
    op_goes : (t : ℕ) (th : Thread) (op : Operation) → slice_get s.threads t ≡ Some th → th.term.part ≡ Performs op → th.finished ≡ false → is_blocked t s.blocked ≡ false → Ok ds st (operated t (mask_at th.term.frames) op s)
    op_goes t th op is p f b =
        let k = typed_at t th is in
        operated_ok ds st s t (mask_at th.term.frames) d (part_op ds st (subst (λ q. PartTyped (has st) ds q (st.sorts t)) p k.0))
        (record { th = th; is = is; part = p; unfinished = f; running = b; holds = g }) refl

    op_typed : {t : ℕ} {u : State} → row.Enters code s (entry.Op t) u → Follows ds st All u
    op_typed (row.operation {t} {th} {p} m i b q c) = subst (Ok ds st) (performed_is c) (op_goes t th p i.0 q i.1 b)

    receive_typed : (t : ℕ) (f : Flying) (fs : List Flying) → flying_to t (flight_of s.blocked) ≡ f ∷ fs → Follows ds st All (resume t (Throw f.exn) (answer f.thrower UnitValue s))
    receive_typed t f fs e =
        let w = subst (λ gs. Found (Waits s.threads) (throws t) (first_thrown gs)) e (subst (Found (Waits s.threads) (throws t)) (sym (throw_is_first t s.blocked)) (first_found (Waits s.threads) (throws t) s.blocked g.waits)) in
        let h1 : SoundAt ds st (answer f.thrower UnitValue s) =
        resume_sound ds st s f.thrower (Ret UnitValue) d
        (fit_at ds st f.thrower w.0 (Ret UnitValue) (slice_get s.threads f.thrower) w.1.0 (d.threads f.thrower) (λ k a. unit_answer ds st k (thrown_reason ds st t w.0 f.exn k w.2 a))) in
        pack ds st All (resume t (Throw f.exn) (answer f.thrower UnitValue s))
        (resume_sound ds st (answer f.thrower UnitValue s) t (Throw f.exn) h1 throw_typed)

    wake_typed : {t : ℕ} {u : State} → row.Enters code s (entry.Wake t) u → Follows ds st All u
    wake_typed (row.wakes {t} {due} m q l) =
        let w : Waits s.threads t (Sleeping due) = subst (OnReason (Waits s.threads t)) q (reason_found (Waits s.threads) t s.blocked g.waits) in
        pack ds st All (answer t UnitValue s)
        (resume_sound ds st s t (Ret UnitValue) d (fit_at ds st t (Sleeping due) (Ret UnitValue) (slice_get s.threads t) w.0 (d.threads t) (λ k a. unit_answer ds st k a)))

    close_typed : (t : ℕ) (th : Thread) (line : List ℕ) → slice_get s.threads t ≡ Some th → IsBare th → mine t s.marks ≡ [] → Follows ds st All (closed t th line s)
    close_typed t th line is bare none =
        subst (λ us. Follows ds st All (resume_all us (Ret UnitValue) (ended s t th line))) (sym (throwers_are t s.blocked))
        (pack ds st All (resume_all (those (λ u. throws_at t) s.blocked) (Ret UnitValue) (ended s t th line))
        (throwers_sound ds st t (ended s t th line) (ended_holds s t th line g is bare none)
        (set_sound ds st s.threads s.cells t th (record { term = th.term; finished = true }) is d (typed_at t th is))))

    tick_typed : {at : ℕ} {u : State} → row.Enters code s (entry.Tick at) u → Follows ds st All u
    tick_typed (row.ticks {at} m l) = pack ds st All (record s { clock = at }) d

    strand_typed : {u : State} → row.Enters code s entry.Stranded u → Follows ds st All u
    strand_typed (row.strands {t} {ts} m q a) = pack ds st All (resume_all (t ∷ ts) (Throw BlockedIndefinitely) s) (all_throw_sound ds st (t ∷ ts) BlockedIndefinitely s d)

    pub next_typed : (e : Entry) (u : State) → next code s e ≡ Some u → Follows ds st (Stays e) u
    next_typed (entry.Local t k) u n = local_typed (case_of code s (entry.Local t k) u n)
    next_typed (entry.Op t) u n = op_typed (case_of code s (entry.Op t) u n)
    next_typed (entry.Receive t) u n = let r = receiving (case_of code s (entry.Receive t) u n) in subst (Follows ds st All) r.leaves (receive_typed t r.first r.others r.flying)
    next_typed (entry.Wake t) u n = wake_typed (case_of code s (entry.Wake t) u n)
    next_typed (entry.Finish t) u n = let r = closing (case_of code s (entry.Finish t) u n) in subst (Follows ds st All) r.leaves (close_typed t r.thread r.line r.is r.bare (bare_owes_nothing s t r.thread g r.is r.bare))
    next_typed (entry.Tick at) u n = tick_typed (case_of code s (entry.Tick at) u n)
    next_typed entry.Stranded u n = strand_typed (case_of code s entry.Stranded u n)

    -- ---- a thread that runs goes on
    some_of : (o : Option State) → Ok ds st o → (u : State) × (o ≡ Some u)
    some_of None h = absurd h
    some_of (Some u) h = (u, refl)

    -- what a thread performs goes on
    pub performs_goes : (t : ℕ) (th : Thread) → IsRunning s t th → (op : Operation) → th.term.part ≡ Performs op → (u : State) × (operated t (mask_at th.term.frames) op s ≡ Some u)
    performs_goes t th r op p = some_of (operated t (mask_at th.term.frames) op s) (op_goes t th op r.there p r.unfinished r.awake)

    module _ (m : MainRuns s) (t : ℕ) (th : Thread) (r : IsRunning s t th) where
      main : row.MainRuns s
      main = (m.main, (m.there, m.unfinished))

      by_case : {e : Entry} {u : State} → IsTimely code s e → row.Enters code s e u → IsLegal code s e
      by_case {u} timely c = (u, (entered_is c, timely))

      local_legal : (o : Option Term) → o ≡ local code th.term.part th.term.frames → StepsOrStops (has st) ds th.term.part th.term.frames o → (Stops th.term.part th.term.frames → ⊥) → IsLegal code s (entry.Local t 1)
      local_legal None e h n = absurd (n h)
      local_legal (Some x) e h n = by_case tt (row.local {k = 0} main (r.there, r.unfinished) r.awake (ap (λ o. on_term o (λ u. Some u)) (sym e)))

      goes_local : (Stops th.term.part th.term.frames → ⊥) → IsLegal code s (entry.Local t 1)
      goes_local n = let k = term_at t th r.there in local_legal (local code th.term.part th.term.frames) refl (local_goes (has st) script accepted heads k.part k.frames) n

      -- it ends by an exception that nothing catches
      uncaught : (t : ℕ) (e : Exn) → row.Unfinished t th s → th.term.frames ≡ [] → th.term.part ≡ Throw e → (b : Bool) → is_silent e ≡ b → IsLegal code s (entry.Finish t)
      uncaught zero e i q p b f = by_case tt (row.main_finishes_by_an_exception i q p)
      uncaught (suc t) e i q p true f = by_case tt (row.finishes_silently main i q p f)
      uncaught (suc t) e i q p false f = by_case tt (row.finishes_with_a_line main i q p f)

      some_frames : (f : Frame) (fs : List Frame) → f ∷ fs ≡ [] → ⊥
      some_frames f fs e = cc e

      goes : (p : Part) (fs : List Frame) → th.term.part ≡ p → th.term.frames ≡ fs → IsLegal code s (own_entry t p fs)
      goes (Performs op) fs p q = let u = performs_goes t th r op p in by_case tt (row.operation main (r.there, r.unfinished) r.awake p (performing.case_of t (mask_at th.term.frames) op s u.0 u.1))
      goes (Do a env) fs p q = goes_local (λ h. subst (λ z. Stops z th.term.frames) p h)
      goes (Ret v) [] p q = by_case tt (row.finishes_by_a_value main (r.there, r.unfinished) q p)
      goes (Ret v) (f ∷ fs) p q = goes_local (λ h. let e : th.term.frames ≡ [] = subst (λ z. Stops z th.term.frames) p h in some_frames f fs (sym q ∙ e))
      goes (Throw e) [] p q = uncaught t e (r.there, r.unfinished) q p (is_silent e) refl
      goes (Throw e) (f ∷ fs) p q = goes_local (λ h. let e : th.term.frames ≡ [] = subst (λ z. Stops z th.term.frames) p h in some_frames f fs (sym q ∙ e))

      pub own_legal : IsLegal code s (own_entry t th.term.part th.term.frames)
      own_legal = goes th.term.part th.term.frames refl refl

  -- ---- runs

  run_typed : (es : List Entry) (s u : State) → Run code s es u → Holds s → TypedState ds s → TypedState ds u
  run_typed [] s u r g d = subst (TypedState ds) r d
  run_typed (e ∷ es) s u r g d =
      let k : Holds r.0 = run_kept code (fine_actions ds) (e ∷ []) s r.0 (r.0, r.1, refl) g in
      let f : Follows ds d.store (Stays e) r.0 = next_typed s g d.store d.sound e r.0 r.1.0 in
      run_typed es r.0 u r.2 k (record { store = f.store; sound = f.sound })

  -- no thread is lost
  run_lasts : (es : List Entry) (s u : State) → Run code s es u → Holds s → TypedState ds s → length s.threads ≤ length u.threads
  run_lasts [] s u r g d = subst (λ z. length s.threads ≤ length z.threads) r (omega arith)
  run_lasts (e ∷ es) s u r g d =
      let k : Holds r.0 = run_kept code (fine_actions ds) (e ∷ []) s r.0 (r.0, r.1, refl) g in
      let f : Follows ds d.store (Stays e) r.0 = next_typed s g d.store d.sound e r.0 r.1.0 in
      let rest : length r.0.threads ≤ length u.threads = run_lasts es r.0 u r.2 k (record { store = f.store; sound = f.sound }) in
      let old : d.store.count ≡ length s.threads = d.sound.counted in
      let new : f.store.count ≡ length r.0.threads = f.sound.counted in
      let more : d.store.count ≤ f.store.count = f.count in
      omega (arith, rest, old, new, more)

  first_typed : (main : Core) → Runs (stored [] 1) ds main [] (a_value unit) → TypedState ds (first main)
  first_typed main r = record { store = record { cells = []; count = 1; sorts = λ t. a_value unit }; sound = record { threads = threads; contents = λ m. tt; counted = refl } }
    where
      threads : (t : ℕ) → ThreadTyped (stored [] 1) ds (a_value unit) (slice_get (first main).threads t)
      threads zero = (do_typed r, no_frames)
      threads (suc t) = tt

-- the state of a run of an accepted script is typed, and the main thread is there
begins_typed : (script : Script) → Accepted script → (es : List Entry) (u : State) → IsRun (script_of script) es u → (main : Core) × Run (code_of (script_of script)) (first main) es u × Holds (first main) × TypedState (script_of script) (first main)
begins_typed script accepted es u r =
    let k = run_from_main (script_of script) es u r in
    let m = main_runs script accepted in
    let same : m.0 ≡ k.0 = let q : ◌≡◌ {A = Option Core} (Some m.0) (Some k.0) = sym m.1 ∙ k.1 in cc q in (
      k.0,
      k.2,
      first_holds k.0 (fine_main (script_of script) k.0 k.1),
      first_typed script accepted (heads_kept script accepted) k.0 (subst (λ a. Runs (stored [] 1) (script_of script) a [] (a_value unit)) same (m.2 (stored [] 1))),
    )

pub runs_are_typed : (script : Script) → Accepted script → (es : List Entry) (u : State) → IsRun (script_of script) es u → TypedState (script_of script) u
runs_are_typed script accepted es u r = let b = begins_typed script accepted es u r in run_typed script accepted (heads_kept script accepted) es (first b.0) u b.1 b.2 b.3

pub main_is_there : (script : Script) → Accepted script → (es : List Entry) (u : State) → IsRun (script_of script) es u → (th : Thread) × (slice_get u.threads 0 ≡ Some th)
main_is_there script accepted es u r =
    let b = begins_typed script accepted es u r in
    let long : 1 ≤ length u.threads = run_lasts script accepted (heads_kept script accepted) es (first b.0) u b.1 b.2 b.3 in
    some_item u.threads 0 (omega (arith, long))

pub types_follow : (script : Script) → Accepted script → (es : List Entry) (u v : State) (e : Entry) → IsRun (script_of script) es u → next (code_of (script_of script)) u e ≡ Some v → (d : TypedState (script_of script) u) → Follows (script_of script) d.store (Stays e) v
types_follow script accepted es u v e r n d =
    next_typed script accepted (heads_kept script accepted) u (run_holds (script_of script) es u r) d.store d.sound e v n

pub runs_go_on : (script : Script) → Accepted script → (es : List Entry) (u : State) → IsRun (script_of script) es u → MainRuns u → (t : ℕ) (th : Thread) → IsRunning u t th → IsLegal (code_of (script_of script)) u (own_entry t th.term.part th.term.frames)
runs_go_on script accepted es u r m t th k =
    let d = runs_are_typed script accepted es u r in
    own_legal script accepted (heads_kept script accepted) u (run_holds (script_of script) es u r) d.store d.sound m t th k

pub operations_go_on : (script : Script) → Accepted script → (es : List Entry) (u : State) → IsRun (script_of script) es u → (t : ℕ) (th : Thread) → IsRunning u t th → (op : Operation) → th.term.part ≡ Performs op
    → (v : State) × (operated t (mask_at th.term.frames) op u ≡ Some v)
operations_go_on script accepted es u r t th k op p =
    let d = runs_are_typed script accepted es u r in
    performs_goes script accepted (heads_kept script accepted) u (run_holds (script_of script) es u r) d.store d.sound t th k op p
