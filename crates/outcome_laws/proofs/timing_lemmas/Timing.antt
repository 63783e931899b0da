-- Time decides nothing but what is read off the clock.
use Rattle.std.proofs.Common.{◌≡◌, ◌↔◌, ℕ, nat_le, Bool, true, false, cond, List, [], ◌∷◌, ◌++◌, ◌==◌, Option, Some, None, slice_get, refl, sym, ap, ◌∙◌, subst}
use Rattle.plain_laws.proofs.Numbers.{le_back, le_itself}
use Rattle.hs_rules.specs.declared.entry.Entry.{Entry}
use Rattle.hs_rules.specs.declared.entry.Entry.TheVariants as entry
use Rattle.rules_meaning.specs.Values.{V, UnitValue}
use Rattle.rules_meaning.specs.CoreMeaning.{Code}
use Rattle.rules_waiting.specs.Waiting.{Reason, Taking, Reading, Putting, Throwing, Sleeping, Sleeper, Waiting, reason_of, with_sleeper, sleepers_of}
use Rattle.hs_rules.specs.Terms.{Ret}
use Rattle.hs_rules.specs.State.{Thread, State, answer}
use Rattle.hs_rules.specs.Entries.{woken, strand_entry, next, IsWork, IsIdle, IsTimely, Leads, IsLegal}
use Rattle.hs_rules.specs.Entries as entries
use Rattle.hs_rules.specs.Endings.{IsTick, IsDeadlock}
use Rattle.hs_rules.specs.Runs.{Run}
use Rattle.outcome_laws.specs.timing.WithoutTime.{timeless, ReadsClock, LeadsTimeless, TimelessRun, NeverReadsClock, without_ticks, tick_until_due, with_its_tick, WithTheirTicks}
use Rattle.hs_laws.proofs.RunParts.{run_join}
use Rattle.outcome_laws.proofs.timing_lemmas.Passing.{same_item, passed, thread_there, on_running}
use Rattle.outcome_laws.proofs.timing_lemmas.Alike.{Alike, timeless_option, reason_still, asleep_still, awake_still, timeless_twice, resume_alike}
use Rattle.outcome_laws.proofs.timing_lemmas.Entering.{IsWake, next_too}

-- ---- states that are there

none_or : (x : Option State) → ((u : State) → x ≡ Some u → ⊥) → x ≡ None
none_or None h = refl
none_or (Some u) h = absurd (h u refl)

not_both : (x : Option State) (u : State) → x ≡ None → x ≡ Some u → ⊥
not_both x u e f = let z : ◌≡◌ {A = Option State} None (Some u) = sym e ∙ f in cc z

-- ---- who sleeps

none_sleeps_by : (r : Reason V) (b : Bool) (due k : ℕ) (ss : List Sleeper) (o : Option (Reason V)) → (ss ≡ [] → o ≡ Some (Sleeping due) → ⊥) → with_sleeper k r ss ≡ [] → cond b (Some r) o ≡ Some (Sleeping due) → ⊥
none_sleeps_by (Taking m) false due k ss o f e g = f e g
none_sleeps_by (Reading m) false due k ss o f e g = f e g
none_sleeps_by (Putting m v) false due k ss o f e g = f e g
none_sleeps_by (Throwing u x) false due k ss o f e g = f e g
none_sleeps_by (Sleeping d) b due k ss o f e g = cc e
none_sleeps_by _ true due k ss o f e g = cc g

pub none_sleeps : (t due : ℕ) (ws : List (Waiting V)) → sleepers_of ws ≡ [] → reason_of t ws ≡ Some (Sleeping due) → ⊥
none_sleeps t due [] e g = cc g
none_sleeps t due (w ∷ ws) e g = none_sleeps_by w.reason (w.thread == t) due w.thread (sleepers_of ws) (reason_of t ws) (none_sleeps t due ws) e g

-- a thread that wakes sleeps
pub wakes_by : (t : ℕ) (o : Option (Reason V)) (s u : State) → woken t o s ≡ Some u → (due : ℕ) × (o ≡ Some (Sleeping due)) × (nat_le due s.clock ≡ true) × (answer t UnitValue s ≡ u)
wakes_by t (Some (Sleeping due)) s u h = let g = passed (nat_le due s.clock) (Some (answer t UnitValue s)) u h in (due, refl, g.0, same_item g.1)
wakes_by t _ s u h = absurd (cc h)

-- what sleeps without time sleeps
sleeps_too : (o : Option (Reason V)) (due : ℕ) → timeless_option o ≡ Some (Sleeping due) → (d : ℕ) × (o ≡ Some (Sleeping d))
sleeps_too (Some (Sleeping d)) due h = (d, refl)
sleeps_too _ due h = absurd (cc h)

answer_alike : (t : ℕ) (s r : State) → Alike s r → Alike (answer t UnitValue s) (answer t UnitValue r)
answer_alike t s r h = resume_alike s r h t (Ret UnitValue)

module _ (code : Code) where
  -- ---- Wake

  wake_is : (t due : ℕ) (s : State) (main : Thread) → slice_get s.threads 0 ≡ Some main → main.finished ≡ false → reason_of t s.blocked ≡ Some (Sleeping due) → nat_le due s.clock ≡ true → next code s (entry.Wake t) ≡ Some (answer t UnitValue s)
  wake_is t due s main m f r d =
      on_running (slice_get s.threads 0) main (λ th. entries.entered code s (entry.Wake t)) m f
      ∙ (ap (λ o. woken t o s) r ∙ ap (λ b. cond b (Some (answer t UnitValue s)) None) d)

  wake_forth : (t : ℕ) (s u : State) → next code s (entry.Wake t) ≡ Some u → (w : State) × (next code (timeless s) (entry.Wake t) ≡ Some w) × (timeless w ≡ timeless u)
  wake_forth t s u h =
      let g = thread_there (slice_get s.threads 0) (λ th. entries.entered code s (entry.Wake t)) u h in
      let k = wakes_by t (reason_of t s.blocked) s u g.3 in (
        answer t UnitValue (timeless s),
        wake_is t 0 (timeless s) g.0 g.1 g.2 (reason_still t s.blocked ∙ ap timeless_option k.1) refl,
        answer_alike t (timeless s) s (timeless_twice s) ∙ ap timeless k.3,
      )

  tick_is : (at : ℕ) (s : State) (main : Thread) → slice_get s.threads 0 ≡ Some main → main.finished ≡ false → nat_le s.clock at ≡ true → next code s (entry.Tick at) ≡ Some (record s { clock = at })
  tick_is at s main m f d =
      on_running (slice_get s.threads 0) main (λ th. entries.entered code s (entry.Tick at)) m f
      ∙ ap (λ b. cond b (Some (record s { clock = at })) None) d

  module _ (t due : ℕ) (s : State) (main : Thread) (m : slice_get s.threads 0 ≡ Some main) (f : main.finished ≡ false) (r : reason_of t s.blocked ≡ Some (Sleeping due)) where
    abbrev later : State
    later = record s { clock = due }

    wakes_at : (b : Bool) → nat_le due s.clock ≡ b → (u : State) × Run code s (cond b (entry.Wake t ∷ []) (entry.Tick due ∷ entry.Wake t ∷ [])) u × Alike u (answer t UnitValue (timeless s))
    wakes_at true d = (
      answer t UnitValue s,
      (answer t UnitValue s, (wake_is t due s main m f r d, tt), refl),
      answer_alike t s (timeless s) (sym (timeless_twice s)),
    )
    wakes_at false d = (
      answer t UnitValue later,
      (later, (tick_is due s main m f (le_back due s.clock d), tt), (answer t UnitValue later, (wake_is t due later main m f r (le_itself due), tt), refl)),
      answer_alike t later (timeless s) (sym (timeless_twice s)),
    )

    wakes_on_time : (u : State) × Run code s (tick_until_due s.clock (reason_of t s.blocked) (entry.Wake t ∷ [])) u × Alike u (answer t UnitValue (timeless s))
    wakes_on_time = subst (λ o. (u : State) × Run code s (tick_until_due s.clock o (entry.Wake t ∷ [])) u × Alike u (answer t UnitValue (timeless s))) (sym r) (wakes_at (nat_le due s.clock) refl)

  wake_back : (t : ℕ) (s w : State) → next code (timeless s) (entry.Wake t) ≡ Some w → (u : State) × Run code s (with_its_tick s (entry.Wake t)) u × Alike u w
  wake_back t s w h =
      let g = thread_there (slice_get s.threads 0) (λ th. entries.entered code (timeless s) (entry.Wake t)) w h in
      let k = wakes_by t (reason_of t (timeless s).blocked) (timeless s) w g.3 in
      let d = sleeps_too (reason_of t s.blocked) k.0 (sym (reason_still t s.blocked) ∙ k.1) in
      let a = wakes_on_time t d.0 s g.0 g.1 g.2 d.1 in
      (a.0, a.1, a.2 ∙ ap timeless k.3)

  -- where nobody sleeps nobody wakes
  none_wakes : (t : ℕ) (s : State) → sleepers_of s.blocked ≡ [] → next code s (entry.Wake t) ≡ None
  none_wakes t s e =
      none_or (next code s (entry.Wake t)) (λ u h.
      let g = thread_there (slice_get s.threads 0) (λ th. entries.entered code s (entry.Wake t)) u h in
      let k = wakes_by t (reason_of t s.blocked) s u g.3 in
      none_sleeps t k.0 s.blocked e k.1)

  -- ---- in the one and in the other

  forth : (s u : State) (e : Entry) → ¬ IsTick e → next code s e ≡ Some u → (w : State) × (next code (timeless s) e ≡ Some w) × (¬ ReadsClock s e → Alike w u)
  forth s u (entry.Wake t) a h = let k = wake_forth t s u h in (k.0, k.1, λ c. k.2)
  forth s u e a h = let k = next_too code s (timeless s) (sym (timeless_twice s)) u e a (λ n. n) h in (k.0, k.1, λ c. sym (k.2 c))

  back : (s w : State) (e : Entry) → ¬ IsTick e → ¬ IsWake e → next code (timeless s) e ≡ Some w → (u : State) × (next code s e ≡ Some u) × (¬ ReadsClock s e → Alike u w)
  back s w e a b h = let k = next_too code (timeless s) s (timeless_twice s) w e a b h in (k.0, k.1, λ c. sym (k.2 c))

  asleep_back : (s w : State) (e : Entry) → ¬ IsTick e → sleepers_of s.blocked ≡ [] → next code (timeless s) e ≡ Some w → (u : State) × (next code s e ≡ Some u)
  asleep_back s w (entry.Wake t) a z h = absurd (not_both (next code (timeless s) (entry.Wake t)) w (none_wakes t (timeless s) (asleep_still s.blocked z)) h)
  asleep_back s w e a z h = let k = back s w e a (λ n. n) h in (k.0, k.1)

  -- ---- where there is no work

  work_is_no_tick : (e : Entry) → IsWork e → ¬ IsTick e
  work_is_no_tick (entry.Tick at) w n = w
  work_is_no_tick _ w n = n

  idle_back : (s : State) → IsIdle code (timeless s) → IsIdle code s
  idle_back s h e w = none_or (next code s e) (λ u g. let k = forth s u e (work_is_no_tick e w) g in not_both (next code (timeless s) e) k.0 (h e w) k.1)

  pub idle_forth : (s : State) → sleepers_of s.blocked ≡ [] → IsIdle code s → IsIdle code (timeless s)
  idle_forth s a h e w = none_or (next code (timeless s) e) (λ u g. let k = asleep_back s u e (work_is_no_tick e w) a g in not_both (next code s e) k.0 (h e w) k.1)

  pub idle_either : (s : State) → sleepers_of s.blocked ≡ [] → IsIdle code s ↔ IsIdle code (timeless s)
  idle_either s a = (idle_forth s a, idle_back s)

  asleep_by : (ss : List Sleeper) (s u : State) → strand_entry ss s ≡ Some u → ss ≡ []
  asleep_by [] s u h = refl
  asleep_by (x ∷ ss) s u h = absurd (cc h)

  -- who are stranded are so where nobody sleeps
  strands_asleep : (s u : State) → next code s entry.Stranded ≡ Some u → sleepers_of s.blocked ≡ []
  strands_asleep s u h =
      let g = thread_there (slice_get s.threads 0) (λ th. entries.entered code s entry.Stranded) u h in
      asleep_by (sleepers_of s.blocked) s u g.3

  timely_forth : (s u : State) (e : Entry) → next code s e ≡ Some u → IsTimely code s e → IsTimely code (timeless s) e
  timely_forth s u entry.Stranded h i = idle_forth s (strands_asleep s u h) i
  timely_forth s u _ h i = tt

  timely_back : (s : State) (e : Entry) → IsTimely code (timeless s) e → IsTimely code s e
  timely_back s entry.Stranded i = idle_back s i
  timely_back s _ i = tt

  -- ---- one entry

  pub entry_forth : (s u : State) (e : Entry) → ¬ IsTick e → ¬ ReadsClock s e → Leads code s e u → LeadsTimeless code (timeless s) e (timeless u)
  entry_forth s u e a c h = let k = forth s u e a h.0 in (k.0, (k.1, timely_forth s u e h.0 h.1), k.2 c, a, c)

  -- an entry that needs no Tick before it
  alone_back : (s w : State) (e : Entry) → ¬ IsTick e → ¬ IsWake e → ¬ ReadsClock s e → Leads code (timeless s) e w → (u : State) × Run code s (e ∷ []) u × Alike u w
  alone_back s w e a b c h = let k = back s w e a b h.0 in (k.0, (k.0, (k.1, timely_back s e h.1), refl), k.2 c)

  entry_at : (s w : State) (e : Entry) → ¬ IsTick e → ¬ ReadsClock s e → Leads code (timeless s) e w → (u : State) × Run code s (with_its_tick s e) u × Alike u w
  entry_at s w (entry.Wake t) a c h = wake_back t s w h.0
  entry_at s w e a c h = alone_back s w e a (λ n. n) c h

  pub entry_back : (s w : State) (e : Entry) → LeadsTimeless code (timeless s) e w → (u : State) × Run code s (with_its_tick s e) u × (timeless u ≡ w)
  entry_back s w e h = let k = entry_at s h.0 e h.3 h.4 h.1 in (k.0, k.1, k.2 ∙ h.2)

  pub tick_alike : (s u : State) (at : ℕ) → Leads code s (entry.Tick at) u → timeless u ≡ timeless s
  tick_alike s u at h =
      let g = thread_there (slice_get s.threads 0) (λ th. entries.entered code s (entry.Tick at)) u h.0 in
      let k = passed (nat_le s.clock at) (Some (record s { clock = at })) u g.3 in
      sym (ap timeless (same_item k.1))

  -- ---- what is legal

  pub legal_forth : (s : State) (e : Entry) → ¬ IsTick e → IsLegal code s e → IsLegal code (timeless s) e
  legal_forth s e a h = let w = forth s h.0 e a h.1.0 in (w.0, (w.1, timely_forth s h.0 e h.1.0 h.1.1))

  legal_back : (s : State) (e : Entry) → ¬ IsTick e → sleepers_of s.blocked ≡ [] → IsLegal code (timeless s) e → IsLegal code s e
  legal_back s e a z h = let w = asleep_back s h.0 e a z h.1.0 in (w.0, (w.1, timely_back s e h.1.1))

  -- ---- endings

  deadlock_forth : (s : State) → IsDeadlock code s → IsDeadlock code (timeless s)
  deadlock_forth s h = (λ e n l. h.0 e n (legal_back s e n h.1 l), asleep_still s.blocked h.1)

  deadlock_back : (s : State) → IsDeadlock code (timeless s) → IsDeadlock code s
  deadlock_back s h = (λ e n l. h.0 e n (legal_forth s e n l), awake_still s.blocked h.1)

  pub deadlock_either : (s : State) → IsDeadlock code s ↔ IsDeadlock code (timeless s)
  deadlock_either s = (deadlock_forth s, deadlock_back s)

  -- ---- runs

  pub never_on : (s m : State) (e : Entry) → LeadsTimeless code s e m → NeverReadsClock code s → NeverReadsClock code m
  never_on s m e g n es u d r = n (e ∷ es) u d (m, g, r)

  -- an entry of a run that never part_reads_clock the clock
  timeless_entry : (s m : State) (e : Entry) → ¬ IsTick e → NeverReadsClock code (timeless s) → Leads code s e m → LeadsTimeless code (timeless s) e (timeless m)
  timeless_entry s m e a n h = entry_forth s m e a (n [] (timeless s) e refl (legal_forth s e a (m, h))) h

  pub run_forth : (s u : State) (es : List Entry) → NeverReadsClock code (timeless s) → Run code s es u → TimelessRun code (timeless s) (without_ticks es) (timeless u)
  run_forth s u [] n h = ap timeless h
  run_forth s u (entry.Tick at ∷ es) n h =
      let e = tick_alike s h.0 at h.1 in
      subst (λ r. TimelessRun code r (without_ticks es) (timeless u)) e (run_forth h.0 u es (subst (NeverReadsClock code) (sym e) n) h.2)
  run_forth s u (e ∷ es) n h = let g = timeless_entry s h.0 e (λ z. z) n h.1 in (timeless h.0, g, run_forth h.0 u es (never_on (timeless s) (timeless h.0) e g n) h.2)

  due_ticks : (t : ℕ) (b : Bool) (due : ℕ) (fs : List Entry) → without_ticks (cond b (entry.Wake t ∷ []) (entry.Tick due ∷ entry.Wake t ∷ []) ++ fs) ≡ entry.Wake t ∷ without_ticks fs
  due_ticks t true due fs = refl
  due_ticks t false due fs = refl

  wake_ticks : (t now : ℕ) (o : Option (Reason V)) (fs : List Entry) → without_ticks (tick_until_due now o (entry.Wake t ∷ []) ++ fs) ≡ entry.Wake t ∷ without_ticks fs
  wake_ticks t now (Some (Sleeping due)) fs = due_ticks t (nat_le due now) due fs
  wake_ticks t now _ fs = refl

  pub time_ticks : (s : State) (e : Entry) (fs : List Entry) → ¬ IsTick e → without_ticks (with_its_tick s e ++ fs) ≡ e ∷ without_ticks fs
  time_ticks s (entry.Wake t) fs a = wake_ticks t s.clock (reason_of t s.blocked) fs
  time_ticks s (entry.Tick at) fs a = absurd (a tt)
  time_ticks s _ fs a = refl

  pub run_back : (s w : State) (es : List Entry) → TimelessRun code (timeless s) es w → (fs : List Entry) × (u : State) × Run code s fs u × (timeless u ≡ w) × (without_ticks fs ≡ es) × WithTheirTicks code s es fs u
  run_back s w [] h = ([], s, refl, h, refl, (refl, refl))
  run_back s w (e ∷ es) h =
      let g = h.1 in
      let k = entry_back s h.0 e g in
      let r = run_back k.0 w es (subst (λ q. TimelessRun code q es w) (sym k.2) h.2) in
      (with_its_tick s e ++ r.0, r.1, run_join code (with_its_tick s e) r.0 s k.0 r.1 k.1 r.2, r.3, time_ticks s e r.0 g.3 ∙ ap (λ ds. e ∷ ds) r.4, (k.0, r.0, refl, k.1, r.5))
