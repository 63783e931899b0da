-- Where there is no work all threads wait, and where nothing but a Tick is legal nobody is to be stranded.
use Rattle.std.proofs.Common.{◌≡◌, ℕ, ◌<◌, List, [], ◌∷◌, slice_get, nat_le, Bool, true, false, Option, Some, None, refl, sym, ap, ◌∙◌, ⊎_elim}
use Rattle.std.specs.Prelude.{◌↔◌}
use Rattle.std.proofs.lemmas.Bool.Decides.{leb_tells}
use Rattle.hs_base.specs.declared.exn.Exn.TheVariants.{BlockedIndefinitely}
use Rattle.hs_base.specs.declared.tree.script.Script.{Script}
use Rattle.hs_rules.specs.declared.entry.Entry.{Entry}
use Rattle.hs_rules.specs.declared.entry.Entry.TheVariants as entry
use Rattle.rules_expansion.specs.trees.Programs.{script_of}
use Rattle.rules_meaning.specs.Values.{UnitValue}
use Rattle.rules_meaning.specs.CoreMeaning.{Code, code_of}
use Rattle.rules_typing.specs.TypingScripts.{Accepted}
use Rattle.hs_rules.specs.Terms.{Part, Ret, Throw, Do, Performs, Frame}
use Rattle.rules_waiting.specs.Waiting.{Sleeping, Flying, is_blocked, reason_of, flight_of, flying_to, sleepers_of}
use Rattle.hs_rules.specs.State.{Thread, State, resume, answer, resume_all}
use Rattle.hs_rules.specs.Entries.{is_receptive, received, receive_entry, woken, stranded, next, IsWork, IsIdle, IsTimely, IsLegal}
use Rattle.hs_rules.specs.Entries as entries
use Rattle.hs_rules.specs.Runs.{IsRun}
use Rattle.hs_rules.specs.Endings.{IsDone, IsUncaught, IsTick, IsQuiet, IsDeadlock, AllWait}
use Rattle.hs_laws.specs.BracketPhases.{Owing}
use Rattle.hs_laws.specs.Standing.{NoneWorks}
use Rattle.hs_laws.proofs.Lists.{cond_true}
use Rattle.hs_laws.proofs.NothingLegal.{idle, may_strand, quiet}
use Rattle.hs_laws.proofs.HowItEnds.{main_ends}
use Rattle.hs_laws.proofs.Expanded.{owing_of}
use Rattle.hs_progress.specs.GoingOn.{MainRuns, IsRunning, own_entry, MayStrand}
use Rattle.hs_progress.proofs.Entries.{main_is_there, runs_go_on}
use Rattle.hs_laws.specs.cases.Cases as row
use Rattle.hs_laws.proofs.cases_lemmas.Entering.{case_of, all_are}
use Rattle.hs_laws.proofs.cases_lemmas.Options.{on_running}

isnt_state : (u : State) → None ≡ Some u → ⊥
isnt_state u e = let z : ◌≡◌ {A = Option State} None (Some u) = e in cc z

own_is_work : (t : ℕ) (p : Part) (fs : List Frame) → IsWork (own_entry t p fs)
own_is_work t (Performs op) fs = tt
own_is_work t (Do a env) fs = tt
own_is_work t (Ret v) [] = tt
own_is_work t (Ret v) (f ∷ fs) = tt
own_is_work t (Throw e) [] = tt
own_is_work t (Throw e) (f ∷ fs) = tt

work_isnt_tick : (e : Entry) → IsWork e → ¬ IsTick e
work_isnt_tick (entry.Tick at) w h = w
work_isnt_tick _ w h = h

work_is_timely : (code : Code) (s : State) (e : Entry) → IsWork e → IsTimely code s e
work_is_timely code s entry.Stranded w = absurd w
work_is_timely code s _ w = tt

-- where nothing but a Tick is legal there is no work
quiet_is_idle : (code : Code) (s : State) → IsQuiet code s → IsIdle code s
quiet_is_idle code s q e w = by (next code s e) refl
  where
    by : (o : Option State) → next code s e ≡ o → o ≡ None
    by None n = refl
    by (Some u) n = absurd (q e (work_isnt_tick e w) (u, (n, work_is_timely code s e w)))

-- ---- there is no work

module _ (code : Code) (s : State) (m : MainRuns s) (i : IsIdle code s) where
  not_now : (e : Entry) (u : State) → IsWork e → entries.entered code s e ≡ Some u → ⊥
  not_now e u w l = isnt_state u (sym (i e w) ∙ (on_running (slice_get s.threads 0) m.main (λ th. entries.entered code s e) m.there m.unfinished ∙ l))

  unheard : (t : ℕ) (th : Thread) → slice_get s.threads t ≡ Some th → th.finished ≡ false → is_receptive t th.term s ≡ true → (fs : List Flying) → flying_to t (flight_of s.blocked) ≡ fs → flying_to t (flight_of s.blocked) ≡ []
  unheard t th is f o [] e = e
  unheard t th is f o (w ∷ ws) e =
      absurd (not_now (entry.Receive t) (resume t (Throw w.exn) (answer w.thrower UnitValue s)) tt
      (on_running (slice_get s.threads t) th (λ th. receive_entry t th s) is f ∙ (cond_true (is_receptive t th.term s) (received t (flying_to t (flight_of s.blocked)) s) None o ∙ ap (λ fs. received t fs s) e)))

  asleep : (t due : ℕ) → reason_of t s.blocked ≡ Some (Sleeping due) → s.clock < due
  asleep t due e =
      ⊎_elim
      (λ h. absurd (not_now (entry.Wake t) (answer t UnitValue s) tt (ap (λ o. woken t o s) e ∙ cond_true (nat_le due s.clock) (Some (answer t UnitValue s)) None h.0)))
      (λ h. h.1)
      (leb_tells due s.clock)

  none_works : ((t : ℕ) (th : Thread) → IsRunning s t th → IsLegal code s (own_entry t th.term.part th.term.frames)) → NoneWorks s
  none_works goes = record {
    blocked = λ t th is f. by t th is f (is_blocked t s.blocked) refl;
    unheard = λ t th is f o. unheard t th is f o (flying_to t (flight_of s.blocked)) refl;
    asleep = asleep;
  }
    where
      by : (t : ℕ) (th : Thread) → slice_get s.threads t ≡ Some th → th.finished ≡ false → (b : Bool) → is_blocked t s.blocked ≡ b → is_blocked t s.blocked ≡ true
      by t th is f true e = e
      by t th is f false e =
          let l = goes t th (record { there = is; unfinished = f; awake = e }) in
          absurd (isnt_state l.0 (sym (i (own_entry t th.term.part th.term.frames) (own_is_work t th.term.part th.term.frames)) ∙ l.1.0))

-- ---- nothing but a Tick is legal

module _ (code : Code) (s : State) (m : MainRuns s) (o : Owing s) (w : NoneWorks s) where
  unstranded : IsQuiet code s → sleepers_of s.blocked ≡ [] → (ts : List ℕ) → stranded s ≡ ts → stranded s ≡ []
  unstranded q a [] e = e
  unstranded q a (t ∷ ts) e = absurd (q entry.Stranded (λ h. h) (resume_all (stranded s) (Throw BlockedIndefinitely) s, may_strand code s w o m.main m.there m.unfinished a t ts e))

  all_wait : IsQuiet code s → AllWait s
  all_wait q = record { blocked = w.blocked; unheard = w.unheard; asleep = w.asleep; unstranded = λ a. unstranded q a (stranded s) refl }

-- ---- a Stranded is legal

may_by : {code : Code} {s u : State} → (MainRuns s → IsIdle code s → NoneWorks s) → IsIdle code s → row.Enters code s entry.Stranded u → MayStrand s
may_by waits i (row.strands {t} {ts} m e a) =
    let k : MainRuns _ = record { main = m.0; there = m.1.0; unfinished = m.1.1 } in
    record { main = k; waits = waits k i; awake = e; some = λ n. let z : [] ≡ t ∷ ts = sym n ∙ all_are a in cc z }

may : (code : Code) (s : State) → (MainRuns s → IsIdle code s → NoneWorks s) → IsLegal code s entry.Stranded → MayStrand s
may code s waits l = may_by waits l.1.1 (case_of code s entry.Stranded l.0 l.1.0)

strands : (code : Code) (s : State) → Owing s → (m : MayStrand s) → (ts : List ℕ) → stranded s ≡ ts → IsLegal code s entry.Stranded
strands code s o m [] e = absurd (m.some e)
strands code s o m (t ∷ ts) e = (resume_all (stranded s) (Throw BlockedIndefinitely) s, may_strand code s m.waits o m.main.main m.main.there m.main.unfinished m.awake t ts e)

-- ---- of the runs of an accepted script

module _ (script : Script) (accepted : Accepted script) (es : List Entry) (u : State) (r : IsRun (script_of script) es u) where
  idle_waits : MainRuns u → IsIdle (code_of (script_of script)) u → NoneWorks u
  idle_waits m i = none_works (code_of (script_of script)) u m i (λ t th k. runs_go_on script accepted es u r m t th k)

  pub idle_exactly : MainRuns u → IsIdle (code_of (script_of script)) u ↔ NoneWorks u
  idle_exactly m = (idle_waits m, λ w. idle (code_of (script_of script)) u w (owing_of (script_of script) es u r))

  pub quiet_exactly : MainRuns u → IsQuiet (code_of (script_of script)) u ↔ AllWait u
  quiet_exactly m = (
    λ q. all_wait (code_of (script_of script)) u m (owing_of (script_of script) es u r) (idle_waits m (quiet_is_idle (code_of (script_of script)) u q)) q,
    λ w. quiet (code_of (script_of script)) u w (owing_of (script_of script) es u r),
  )

  pub deadlock_exactly : MainRuns u → IsDeadlock (code_of (script_of script)) u ↔ (AllWait u × (sleepers_of u.blocked ≡ []))
  deadlock_exactly m = (λ d. ((quiet_exactly m).0 d.0, d.1), λ w. ((quiet_exactly m).1 w.0, w.1))

  pub stranded_exactly : IsLegal (code_of (script_of script)) u entry.Stranded ↔ MayStrand u
  stranded_exactly = (may (code_of (script_of script)) u idle_waits, λ m. strands (code_of (script_of script)) u (owing_of (script_of script) es u r) m (stranded u) refl)

  -- until main has finished, by a value or by an exception, it runs
  pub main_runs_on : ¬ IsDone u → ¬ IsUncaught u → MainRuns u
  main_runs_on d x = by k.0.finished refl
    where
      k : (th : Thread) × (slice_get u.threads 0 ≡ Some th)
      k = main_is_there script accepted es u r

      by : (b : Bool) → k.0.finished ≡ b → MainRuns u
      by true e = absurd (⊎_elim (λ y. d y) (λ y. x y) (main_ends u k.0 k.1 e))
      by false e = record { main = k.0; there = k.1; unfinished = e }
