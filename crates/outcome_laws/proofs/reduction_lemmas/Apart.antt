-- What other threads do comes to the same whether a thread stands so or so, as long as it waits for nothing.
use Rattle.std.proofs.Common.{◌≡◌, ◌≢◌, ◌≤◌, ℕ, List, [], ◌∷◌, length, slice_get, slice_set, false, Option, Some, None, refl, sym, ap, ◌∙◌, subst, ◌⊎◌, inl, inr, ⊎_elim}
use Rattle.std.proofs.lemmas.Option.{same_Some}
use Rattle.hs_rules.specs.declared.entry.Entry.{Entry}
use Rattle.hs_rules.specs.declared.entry.Entry.TheVariants as entry
use Rattle.rules_meaning.specs.Values.{V, UnitValue}
use Rattle.rules_meaning.specs.CoreMeaning.{Code}
use Rattle.hs_rules.specs.Terms.{Part, Ret, Term, term}
use Rattle.rules_waiting.specs.Waiting.{Reason, Sleeping, leaves, is_blocked, reason_of, line_of, flight_of}
use Rattle.hs_rules.specs.State.{Thread, State, with_term, move, frames_of, resume, answer, block, thread_with, spawn}
use Rattle.hs_rules.specs.Primitives.{due_in, clock_value}
use Rattle.hs_rules.specs.Entries.{next}
use Rattle.hs_laws.specs.cases.Cases as row
use Rattle.hs_laws.proofs.cases_lemmas.Entering.{case_of, entered_is}
use Rattle.hs_laws.proofs.Lists.{equal_or, item_same, item_other, item_append, Each, OnReason, reason_found, not_blocked_left, not_blocked_more}
use Rattle.hs_laws.proofs.Growing.{set_length}
use Rattle.hs_laws.proofs.SameCases.{with_rest, put_in, Likeness, AtOp, at_any, goes_too}
use Rattle.outcome_laws.specs.reduction.NoThrowTo.{NoThrowToOperation, NoThrowToPart, NoThrowToThread, NoThrowToState}
use Rattle.outcome_laws.proofs.reduction_lemmas.Lists.{set_apart, set_append, others_wait}

-- thread t is this one, and waits for nothing
pub record Stands (t : ℕ) (th : Thread) (s : State) : Type 0 where
  pub is : slice_get s.threads t ≡ Some th
  pub free : is_blocked t s.blocked ≡ false

-- an entry of another thread, or a Tick
abbrev pub IsApart : ℕ → Entry → Type 0
IsApart t (entry.Local v k) = v ≢ t
IsApart t (entry.Op v) = v ≢ t
IsApart t (entry.Receive v) = v ≢ t
IsApart t (entry.Wake v) = Unit {0}
IsApart t (entry.Finish v) = v ≢ t
IsApart t (entry.Tick at) = Unit {0}
IsApart t entry.Stranded = ⊥

abbrev pub SameFlag : Option Thread → Option Thread → Type 0
SameFlag None None = Unit {0}
SameFlag (Some a) (Some b) = b.finished ≡ a.finished
SameFlag None (Some b) = ⊥
SameFlag (Some a) None = ⊥

pub same_flag : (o : Option Thread) → SameFlag o o
same_flag None = tt
same_flag (Some a) = refl

pub flags : (t : ℕ) (th y : Thread) → y.finished ≡ th.finished → (s : State) (u : ℕ) → Stands t th s → SameFlag (slice_get s.threads u) (slice_get (slice_set s.threads t y) u)
flags t th y same s u h =
    ⊎_elim
    (λ e. subst (λ v. SameFlag (slice_get s.threads v) (slice_get (slice_set s.threads t y) v)) (sym e.1)
    (subst (λ o. SameFlag o (slice_get (slice_set s.threads t y) t)) (sym h.is) (subst (SameFlag (Some th)) (sym (item_same s.threads t th y h.is)) same)))
    (λ e. subst (SameFlag (slice_get s.threads u)) (sym (item_other s.threads t u y e.1)) (same_flag (slice_get s.threads u)))
    (equal_or u t)

-- a thread that is there, in the one and in the other
flag_there : (o q : Option Thread) → SameFlag o q → (z : Thread) → o ≡ Some z → (x : Thread) × (q ≡ Some x) × (x.finished ≡ z.finished)
flag_there None q f z e = absurd (cc e)
flag_there (Some a) None f z e = absurd f
flag_there (Some a) (Some b) f z e = (b, refl, f ∙ ap (λ (x : Thread). x.finished) (same_Some a z e))

module _ (t : ℕ) (th y : Thread) (same : (y.finished ≡ th.finished) ⊎ (0 ≢ t)) where
  -- the second state is the first but for that thread
  abbrev pub Differ : State → State → Type 0
  Differ s r = (r ≡ put_in t y s) × Stands t th s

  -- a change of states comes to the same
  abbrev pub Away : (State → State) → State → Type 0
  Away f s = Differ (f s) (f (put_in t y s))

  carried : (f : State → State) (s r : State) → Differ s r → Away f s → Differ (f s) (f r)
  carried f s r d a = (ap f d.0 ∙ a.0, a.1)

  -- where the flags differ this has to hold
  abbrev pub Fair : Type 0 → Type 0
  Fair A = (y.finished ≡ th.finished) ⊎ A

  -- ---- one thread moves

  with_apart : (ths : List Thread) (v : ℕ) (k : Option Thread → Term) (o q : Option Thread) → v ≢ t → q ≡ o → with_term v q (k q) (slice_set ths t y) ≡ slice_set (with_term v o (k o) ths) t y
  with_apart ths v k o q n e = ap (λ z. with_term v z (k z) (slice_set ths t y)) e ∙ by o
    where
      by : (o : Option Thread) → with_term v o (k o) (slice_set ths t y) ≡ slice_set (with_term v o (k o) ths) t y
      by None = refl
      by (Some z) = set_apart ths t v y (record { term = k (Some z); finished = z.finished }) n

  still : (ths : List Thread) (v : ℕ) (o : Option Thread) (x : Term) → v ≢ t → slice_get (with_term v o x ths) t ≡ slice_get ths t
  still ths v None x n = refl
  still ths v (Some z) x n = item_other ths v t (record { term = x; finished = z.finished }) (λ e. n (sym e))

  pub resumed : (v : ℕ) (p : Part) (s : State) → v ≢ t → Stands t th s → Away (resume v p) s
  resumed v p s n h = (
    ap (λ ths. record s { threads = ths; blocked = leaves v s.blocked })
        (with_apart s.threads v (λ z. term p (frames_of z)) (slice_get s.threads v) (slice_get (slice_set s.threads t y) v) n (item_other s.threads t v y n)),
    record { is = still s.threads v (slice_get s.threads v) (term p (frames_of (slice_get s.threads v))) n ∙ h.is; free = not_blocked_left v t s.blocked h.free },
  )

  moved_by : (v : ℕ) (x : Term) (s : State) → v ≢ t → Stands t th s → Away (move v x) s
  moved_by v x s n h = (
    ap (λ ths. record s { threads = ths }) (with_apart s.threads v (λ z. x) (slice_get s.threads v) (slice_get (slice_set s.threads t y) v) n (item_other s.threads t v y n)),
    record { is = still s.threads v (slice_get s.threads v) x n ∙ h.is; free = h.free },
  )

  blocked_by : (v : ℕ) (r : Reason V) (s : State) → v ≢ t → Stands t th s → Away (block v r) s
  blocked_by v r s n h = (refl, record { is = h.is; free = not_blocked_more t s.blocked (record { thread = v; reason = r }) h.free n })

  spawned : (x : Term) (s : State) → Stands t th s → Away (spawn x) s
  spawned x s h = (
    ap (λ ths. record s { threads = ths }) (sym (set_append s.threads (thread_with x ∷ []) t th y h.is)),
    record { is = item_append s.threads (thread_with x ∷ []) t th h.is; free = h.free },
  )

  put_by : (v : ℕ) (z : Thread) (s : State) → v ≢ t → Stands t th s → Away (put_in v z) s
  put_by v z s n h = (ap (λ ths. record s { threads = ths }) (set_apart s.threads t v y z n), record { is = item_other s.threads v t z (λ e. n (sym e)) ∙ h.is; free = h.free })

  -- ---- what is looked at

  abbrev pub Other : ℕ → Reason V → Type 0
  Other u r = u ≢ t

  pub all_other : (s : State) → Stands t th s → Each Other s.blocked
  all_other s h = others_wait t s.blocked h.free

  main_flag : (s : State) → Stands t th s → SameFlag (slice_get s.threads 0) (slice_get (slice_set s.threads t y) 0)
  main_flag s h =
      ⊎_elim (λ f. flags t th y f s 0 h) (λ n. subst (SameFlag (slice_get s.threads 0)) (sym (item_other s.threads t 0 y n)) (same_flag (slice_get s.threads 0))) same

  main_too : (s r : State) → Differ s r → row.MainRuns s → row.MainRuns r
  main_too s r d m =
      let k = flag_there (slice_get s.threads 0) (slice_get r.threads 0) (subst (λ (q : State). SameFlag (slice_get s.threads 0) (slice_get q.threads 0)) (sym d.0) (main_flag s d.1)) m.0 m.1.0 in
      (k.0, (k.1, k.2 ∙ m.1.1))

  target_too : (s r : State) (u : ℕ) (z : Thread) → Fair ⊥ → Differ s r → slice_get s.threads u ≡ Some z → (x : Thread) × (slice_get r.threads u ≡ Some x) × (x.finished ≡ z.finished)
  target_too s r u z (inl f) d q = flag_there (slice_get s.threads u) (slice_get r.threads u) (subst (λ (x : State). SameFlag (slice_get s.threads u) (slice_get x.threads u)) (sym d.0) (flags t th y f s u d.1)) z q
  target_too s r u z (inr f) d q = absurd f

  apart : Likeness Differ (λ v. v ≢ t) (λ op. Fair (NoThrowToOperation op)) (λ op. Unit {0})
  apart = record {
    same = λ s r d. d.0 ∙ ap (with_rest s) (sym d.0);
    lines = λ s r d c. ap (λ (q : State). line_of c q.blocked) (sym d.0);
    flights = λ s r d. ap (λ (q : State). flight_of q.blocked) (sym d.0);
    blocked = λ s r v n d. ap (λ (q : State). is_blocked v q.blocked) (sym d.0);
    waits = λ s r d. all_other s d.1;
    there = λ s r v z n d q. ap (λ (x : State). slice_get x.threads v) d.0 ∙ (item_other s.threads t v y n ∙ q);
    long = λ s r d. sym (set_length s.threads t y) ∙ ap (λ (q : State). length q.threads) (sym d.0);
    main = main_too;
    rest = λ x s r d. (ap (with_rest x) d.0, record { is = d.1.is; free = d.1.free });
    resumes = λ s r v p n d. carried (resume v p) s r d (resumed v p s n d.1);
    moves = λ s r v x n d. carried (move v x) s r d (moved_by v x s n d.1);
    blocks = λ s r v w n d. carried (block v w) s r d (blocked_by v w s n d.1);
    spawns = λ s r x d. carried (spawn x) s r d (spawned x s d.1);
    puts = λ s r v z n d. carried (put_in v z) s r d (put_by v z s n d.1);
    sleeps = λ s r v k z n d. carried (λ (q : State). block v (Sleeping (due_in k q)) q) s r d (blocked_by v (Sleeping (due_in k s)) s n d.1);
    reads = λ s r z d. ap clock_value (sym d.0);
    throws = λ s r u e z g d q. target_too s r u z g d q;
  }

  -- ---- an entry of another thread

  fair_at : (s : State) (e : Entry) → Fair (NoThrowToState s) → AtOp s e (λ op. Fair (NoThrowToOperation op))
  fair_at s (entry.Op v) (inl f) = λ z op is p. inl f
  fair_at s (entry.Op v) (inr q) = λ z op is p. inr (let k : NoThrowToThread (Some z) = subst NoThrowToThread is (q.threads v) in subst NoThrowToPart p k.0)
  fair_at s _ f = tt

  wakes_too : (code : Code) (v : ℕ) {s u : State} (r : State) → Differ s r → row.Enters code s (entry.Wake v) u → (w : State) × row.Enters code r (entry.Wake v) w × Differ u w
  wakes_too code v {s = o} r d (row.wakes {due} m q l) = (
    answer v UnitValue r,
    row.wakes (main_too o r d m) (ap (λ (x : State). reason_of v x.blocked) d.0 ∙ q) (subst (λ (x : State). due ≤ x.clock) (sym d.0) l),
    carried (answer v UnitValue) o r d (resumed v (Ret UnitValue) o (subst (OnReason (Other v)) q (reason_found Other v o.blocked (all_other o d.1))) d.1),
  )

  ticks_too : (code : Code) (at : ℕ) {s u : State} (r : State) → Differ s r → row.Enters code s (entry.Tick at) u → (w : State) × row.Enters code r (entry.Tick at) w × Differ u w
  ticks_too code at {s = o} r d (row.ticks m l) = (
    record r { clock = at },
    row.ticks (main_too o r d m) (subst (λ (x : State). x.clock ≤ at) (sym d.0) l),
    (ap (λ (x : State). record x { clock = at }) d.0, record { is = d.1.is; free = d.1.free }),
  )

  abbrev pub GoesToo : Code → State → Entry → State → Type 0
  GoesToo code s e m = (next code (put_in t y s) e ≡ Some (put_in t y m)) × Stands t th m

  to_same : (code : Code) (s : State) (e : Entry) (m w : State) → next code (put_in t y s) e ≡ Some w → Differ m w → GoesToo code s e m
  to_same code s e m w l d = (l ∙ ap Some d.0, d.1)

  pub apart_next : (code : Code) (s : State) (e : Entry) (m : State) → IsApart t e → Fair (NoThrowToState s) → Stands t th s → next code s e ≡ Some m → GoesToo code s e m
  apart_next code s (entry.Wake v) m n fair h l = let k = wakes_too code v (put_in t y s) (refl, h) (case_of code s (entry.Wake v) m l) in to_same code s (entry.Wake v) m k.0 (entered_is k.1) k.2
  apart_next code s (entry.Tick at) m n fair h l = let k = ticks_too code at (put_in t y s) (refl, h) (case_of code s (entry.Tick at) m l) in to_same code s (entry.Tick at) m k.0 (entered_is k.1) k.2
  apart_next code s entry.Stranded m n fair h l = absurd n
  apart_next code s e m n fair h l = let k = goes_too apart code e s (put_in t y s) m n (fair_at s e fair) (refl, h) l in to_same code s e m k.0 k.1 (k.2 (at_any (λ op. Unit {0}) (λ op. tt) s e))
