-- What is legal stays legal when the clock goes on, and where the first sleeper is due it may wake.
use Rattle.std.proofs.Common.{◌≡◌, ◌≢◌, ℕ, ◌≤◌, List, [], ◌∷◌, ◌++◌, length, slice_get, false, Some, refl, sym, ap, ◌∙◌, subst, arith, ◌⊎◌, inl, inr, ⊎_elim, append_assoc, Option, None}
use Rattle.std.specs.Prelude.{Contains}
use Rattle.std.proofs.lemmas.Option.{same_Some}
use Rattle.hs_rules.specs.declared.entry.Entry.{Entry}
use Rattle.hs_rules.specs.declared.entry.Entry.TheVariants as entry
use Rattle.rules_expansion.specs.trees.Programs.{Fn}
use Rattle.rules_meaning.specs.Values.{V, UnitValue}
use Rattle.rules_meaning.specs.CoreMeaning.{Code, code_of}
use Rattle.rules_waiting.specs.Waiting.{Reason, Taking, Reading, Putting, Throwing, Sleeping, Waiting, Sleeper, reason_of, line_of, with_sleeper, sleepers_of, sleeper_before, sleeper_added, sorted_sleepers, earliest, flight_of, is_blocked}
use Rattle.hs_rules.specs.State.{Thread, State, resume, answer, move, block, spawn}
use Rattle.hs_rules.specs.Entries.{next, IsWork, IsLegal}
use Rattle.hs_laws.specs.cases.Cases as row
use Rattle.hs_laws.specs.cases.Cases.{MainRuns}
use Rattle.hs_laws.proofs.cases_lemmas.Entering.{case_of, entered_is}
use Rattle.hs_rules.specs.Endings.{IsTick, IsQuiet}
use Rattle.hs_rules.specs.Runs.{Run, IsRun, after}
use Rattle.hs_laws.specs.Standing.{Once}
use Rattle.hs_laws.specs.ClockLaw.{IsFrom, TickStands, IsPunctual, ClockKept}
use Rattle.hs_laws.proofs.Lists.{cond_cases, Each, once_reason, each_any}
use Rattle.hs_laws.proofs.SameCases.{with_rest, put_in, Likeness, ByOne, at_any, goes_too}
use Rattle.hs_laws.proofs.RunParts.{is_after, run_before, run_more}
use Rattle.hs_laws.proofs.Expanded.{standing_of}

-- ---- the first sleeper that is due

abbrev pub AllAsleep : (Sleeper → Type 0) → List Sleeper → Type 0
AllAsleep P [] = Unit {0}
AllAsleep P (s ∷ ss) = P s × AllAsleep P ss

added_asleep : (P : Sleeper → Type 0) (s : Sleeper) (ss : List Sleeper) → P s → AllAsleep P ss → AllAsleep P (sleeper_added s ss)
added_asleep P s [] p h = (p, tt)
added_asleep P s (r ∷ rs) p h = cond_cases (AllAsleep P) (sleeper_before r s) (r ∷ sleeper_added s rs) (s ∷ r ∷ rs) (λ b. (h.0, added_asleep P s rs p h.1)) (λ b. (p, h))

pub sorted_asleep : (P : Sleeper → Type 0) (ss : List Sleeper) → AllAsleep P ss → AllAsleep P (sorted_sleepers ss)
sorted_asleep P [] h = tt
sorted_asleep P (s ∷ ss) h = added_asleep P s (sorted_sleepers ss) h.0 (sorted_asleep P ss h.1)

-- a sleeper waits so among these
abbrev pub WaitsAsleep : List (Waiting V) → Sleeper → Type 0
WaitsAsleep ws x = reason_of x.thread ws ≡ Some (Sleeping x.due)

pub all_asleep : (ws vs : List (Waiting V)) → Each (λ t r. reason_of t vs ≡ Some r) ws → AllAsleep (WaitsAsleep vs) (sleepers_of ws)
all_asleep [] vs h = tt
all_asleep (w ∷ ws) vs h = by w.reason h.0 (all_asleep ws vs h.1)
  where
    by : (r : Reason V) → reason_of w.thread vs ≡ Some r → AllAsleep (WaitsAsleep vs) (sleepers_of ws) → AllAsleep (WaitsAsleep vs) (with_sleeper w.thread r (sleepers_of ws))
    by (Taking m) e k = k
    by (Reading m) e k = k
    by (Putting m a) e k = k
    by (Throwing u x) e k = k
    by (Sleeping due) e k = (e, k)

-- where nobody is due first nobody sleeps
pub none_earliest : (ss : List Sleeper) → earliest ss ≡ None → ss ≡ []
none_earliest [] e = refl
none_earliest (s ∷ ss) e = absurd (cc e)

-- a reason to sleep says until when
pub same_due : (d due : ℕ) → ◌≡◌ {A = Option (Reason V)} (Some (Sleeping d)) (Some (Sleeping due)) → d ≡ due
same_due d due h = cc h

earliest_is : (P : Sleeper → Type 0) (ss : List Sleeper) (due : ℕ) → AllAsleep P ss → earliest ss ≡ Some due → (x : Sleeper) × P x × (x.due ≡ due)
earliest_is P [] due h e = absurd (cc e)
earliest_is P (s ∷ ss) due h e = (s, h.0, same_Some s.due due e)

-- the first that may wake sleeps among the blocked threads
pub first_asleep : (ws : List (Waiting V)) (due : ℕ) → Once ws → earliest (sorted_sleepers (sleepers_of ws)) ≡ Some due → (t : ℕ) × (reason_of t ws ≡ Some (Sleeping due))
first_asleep ws due o e =
    let k = earliest_is (WaitsAsleep ws) (sorted_sleepers (sleepers_of ws)) due (sorted_asleep (WaitsAsleep ws) (sleepers_of ws) (all_asleep ws ws (once_reason ws o))) e in
    (k.0.thread, k.1 ∙ ap (λ d. Some (Sleeping d)) k.2)

some_first : (ss : List Sleeper) → ss ≢ [] → (due : ℕ) × (earliest (sorted_sleepers ss) ≡ Some due)
some_first [] n = absurd (n refl)
some_first (s ∷ ss) n = by (sorted_sleepers ss)
  where
    by : (rs : List Sleeper) → (due : ℕ) × (earliest (sleeper_added s rs) ≡ Some due)
    by [] = (s.due, refl)
    by (r ∷ rs) = cond_cases (λ z. (due : ℕ) × (earliest z ≡ Some due)) (sleeper_before r s) (r ∷ sleeper_added s rs) (s ∷ r ∷ rs) (λ b. (r.due, refl)) (λ b. (s.due, refl))

-- ---- the clock goes on

abbrev pub at_time : ℕ → State → State
at_time n s = record s { clock = n }

-- another time keeps the case of every entry of a thread
later_alike : (n : ℕ) → Likeness (λ s r. r ≡ at_time n s) (λ t. Unit {0}) (λ op. Unit {0}) (λ op. ⊥)
later_alike n = record {
  same = λ s r h. h ∙ ap (with_rest s) (sym h);
  lines = λ s r h c. ap (λ (q : State). line_of c q.blocked) (sym h);
  flights = λ s r h. ap (λ (q : State). flight_of q.blocked) (sym h);
  blocked = λ s r t m h. ap (λ (q : State). is_blocked t q.blocked) (sym h);
  waits = λ s r h. each_any s.blocked;
  there = λ s r t th m h e. ap (λ (q : State). slice_get q.threads t) h ∙ e;
  long = λ s r h. ap (λ (q : State). length q.threads) (sym h);
  main = λ s r h m. (m.0, (ap (λ (q : State). slice_get q.threads 0) h ∙ m.1.0, m.1.1));
  rest = λ x s r h. ap (with_rest x) h;
  resumes = λ s r t p m h. ap (resume t p) h;
  moves = λ s r t x m h. ap (move t x) h;
  blocks = λ s r t w m h. ap (block t w) h;
  spawns = λ s r x h. ap (spawn x) h;
  puts = λ s r t y m h. ap (put_in t y) h;
  sleeps = λ s r t i z m h. absurd z;
  reads = λ s r z h. absurd z;
  throws = λ s r u e th g h q. (th, ap (λ (x : State). slice_get x.threads u) h ∙ q, refl);
}

wakes_later : {code : Code} (n t : ℕ) {s u : State} → s.clock ≤ n → row.Enters code s (entry.Wake t) u → row.Enters code (at_time n s) (entry.Wake t) (answer t UnitValue (at_time n s))
wakes_later n t le (row.wakes {due} m h d) = let k : due ≤ n = omega (arith, le, d) in row.wakes m h k

module _ (s : State) (n : ℕ) (later : s.clock ≤ n) where
  own_later : (code : Code) (e : Entry) → ByOne (λ t. Unit {0}) e → IsLegal code s e → (u : State) × (next code (at_time n s) e ≡ Some u)
  own_later code e y l = let k = goes_too (later_alike n) code e s (at_time n s) l.0 y (at_any (λ op. Unit {0}) (λ op. tt) s e) refl l.1.0 in (k.0, k.1)

  -- work that is legal stays legal when the clock goes on
  pub legal_later : (code : Code) (e : Entry) → IsWork e → IsLegal code s e → IsLegal code (at_time n s) e
  legal_later code (entry.Wake t) w l = (answer t UnitValue (at_time n s), (entered_is (wakes_later n t later (case_of code s (entry.Wake t) l.0 l.1.0)), tt))
  legal_later code (entry.Tick at) w l = absurd w
  legal_later code entry.Stranded w l = absurd w
  legal_later code e w l = let k = own_later code e tt l in (k.0, (k.1, tt))

-- ---- no Tick follows a punctual one

-- after a Tick that moved the clock to the first due, its sleeper may wake
wake_legal : (code : Code) (s : State) (n t due : ℕ) (main : Thread) → slice_get s.threads 0 ≡ Some main → main.finished ≡ false → reason_of t s.blocked ≡ Some (Sleeping due) → due ≤ n → IsLegal code (at_time n s) (entry.Wake t)
wake_legal code s n t due main is f e le = (answer t UnitValue (at_time n s), (entered_is {code = code} (row.wakes (main, (is, f)) e le), tt))

work_or : (e : Entry) → ¬ IsTick e → IsWork e ⊎ (e ≡ entry.Stranded)
work_or (entry.Tick at) n = absurd (n tt)
work_or entry.Stranded n = inr refl
work_or _ n = inl tt

strand_asleep : {code : Code} {s u : State} → row.Enters code s entry.Stranded u → sleepers_of s.blocked ≡ []
strand_asleep (row.strands m e a) = e

tick_is : {code : Code} {s u : State} {at : ℕ} → row.Enters code s (entry.Tick at) u → (u ≡ at_time at s) × (s.clock ≤ at) × MainRuns s
tick_is (row.ticks m h) = (refl, h, m)

module _ (code : Code) (front : List Entry) (s : State) (a b : ℕ) (once : Once s.blocked) (main : Thread) (is : slice_get s.threads 0 ≡ Some main) (runs : main.finished ≡ false) (later : s.clock ≤ a) (second : TickStands code (front ++ entry.Tick a ∷ []) (at_time a s) b) where
  -- nothing else is legal between them
  none_legal : (e : Entry) → ¬ IsTick e → ¬ IsLegal code (at_time a s) e
  none_legal e n l = (second.beside e n l).1 (front, a, refl)

  sleeps : sleepers_of s.blocked ≢ []
  sleeps = ⊎_elim (λ x. x) (λ x. absurd (none_legal (entry.Op x.thread) (λ z. z) x.legal)) second.wanted

  was_quiet : IsQuiet code s
  was_quiet e n l =
      ⊎_elim
      (λ w. none_legal e n (legal_later s a later code e w l))
      (λ q.
      sleeps (strand_asleep (case_of code s entry.Stranded l.0 (subst (λ f. next code s f ≡ Some l.0) q l.1.0))))
      (work_or e n)

  not_punctual : IsPunctual code s a → ⊥
  not_punctual p =
      let d = some_first (sleepers_of s.blocked) sleeps in
      let le : d.0 ≤ a = subst (IsFrom a) d.1 (p was_quiet) in
      let t = first_asleep s.blocked d.0 once d.1 in
      none_legal (entry.Wake t.0) (λ z. z) (wake_legal code s a t.0 d.0 main is runs t.1 le)

-- a Tick that another one follows is one of the early ones
pub followed_is_early : (ds : List Fn) (es : List Entry) (u : State) (n : ℕ) → IsRun ds es u → (h : ClockKept ds es n) → (front back : List Entry) (a b : ℕ) → es ≡ front ++ entry.Tick a ∷ entry.Tick b ∷ back → Contains h.places (length front)
followed_is_early ds es u n r h front back a b split =
    let before = prefix_one ds es u r front (entry.Tick a ∷ entry.Tick b ∷ back) split in
    let s : State = before.0 in
    let first = before.2 in
    let t = tick_is (case_of (code_of ds) s (entry.Tick a) first.0 first.1.0) in
    let m = t.2 in
    let split2 : es ≡ (front ++ entry.Tick a ∷ []) ++ entry.Tick b ∷ back = split ∙ sym (append_assoc front (entry.Tick a ∷ []) (entry.Tick b ∷ back)) in
    let after2 : after ds (front ++ entry.Tick a ∷ []) ≡ Some (at_time a s) = is_after ds (front ++ entry.Tick a ∷ []) (at_time a s) (subst (IsRun ds (front ++ entry.Tick a ∷ [])) t.0 (run_more ds front (entry.Tick a) s first.0 before.1 first.1)) in
    ⊎_elim
    (λ p. absurd (not_punctual (code_of ds) front s a b (standing_of ds front s before.1).once m.0 m.1.0 m.1.1 t.1 (h.stands (front ++ entry.Tick a ∷ []) back b (at_time a s) split2 after2) p))
    (λ c. c)
    (h.punctual front (entry.Tick b ∷ back) a s split (is_after ds front s before.1))
  where
    prefix_one : (ds : List Fn) (es : List Entry) (u : State) → IsRun ds es u → (front back : List Entry) → es ≡ front ++ back → (s : State) × IsRun ds front s × Run (code_of ds) s back u
    prefix_one ds es u r front back split = run_before ds front back u (subst (λ z. IsRun ds z u) split r)

-- over a punctual clock no Tick follows a Tick
pub ticks_apart : (ds : List Fn) (es : List Entry) (u : State) → IsRun ds es u → ClockKept ds es 0 → (front back : List Entry) (a b : ℕ) → es ≢ front ++ entry.Tick a ∷ entry.Tick b ∷ back
ticks_apart ds es u r h front back a b split = let c = followed_is_early ds es u 0 r h front back a b split in omega (arith, c.1, h.few)
