-- What an entry changes, as a chain of named updates. What holds of each first one and is kept by those that follow holds of
-- the state that the entry leaves: so a law of all entries speaks of each update once, and of no primitive.
use Rattle.std.proofs.Common.{◌≡◌, ◌≢◌, ℕ, suc, ◌≤◌, pos, List, [], ◌∷◌, ◌++◌, length, slice_get, slice_set, Bool, true, false, Option, Some, None, refl, sym, ◌∙◌, subst, ◌⊎◌, inl, inr}
use Rattle.std.proofs.lemmas.Option.{same_Some}
use Rattle.hs_base.specs.declared.mask.Mask.{Mask}
use Rattle.hs_base.specs.declared.mask.Mask.TheVariants.{Unmasked, Uninterruptible}
use Rattle.hs_base.specs.declared.exn.Exn.TheVariants.{Timeout, BlockedIndefinitely}
use Rattle.hs_rules.specs.declared.entry.Entry.{Entry}
use Rattle.hs_rules.specs.declared.entry.Entry.TheVariants as entry
use Rattle.rules_expansion.specs.Names.{Name}
use Rattle.rules_expansion.specs.Core.{Core}
use Rattle.rules_expansion.specs.declared.primitive.Primitive.TheVariants.{PutStr, PutStrLn, HPutStrLn, NewMVar, NewEmptyMVar, NewTimeout, Acquired, Release}
use Rattle.rules_meaning.specs.Values as val
use Rattle.rules_meaning.specs.Values.{V, Env, UnitValue, Text, Exception, Restore, Inst, with_name}
use Rattle.rules_meaning.specs.CoreMeaning.{Code}
use Rattle.rules_waiting.specs.OneCell.{first_put, first_take}
use Rattle.rules_waiting.specs.Waiting.{Reason, Taking, Reading, Putting, Throwing, Sleeping, Waiting, Flying, is_blocked, reason_of, line_of, flight_of, flying_to}
use Rattle.hs_rules.specs.Terms.{Operation, Calls, Forks, ForksUnmask, Part, Ret, Throw, Do, Performs, MaskIn, Term, term, mask_at}
use Rattle.hs_rules.specs.LocalRules.{locals}
use Rattle.hs_rules.specs.State.{AcquiredBy, ReleasedBy, Thread, State, move, resume, answer, resume_all, block, spawn}
use Rattle.hs_rules.specs.Primitives.{due_in, clock_value, masking_text, line_feed}
use Rattle.hs_rules.specs.Entries.{is_throw, is_silent, uncaught_line, closed, stranded, next}
use Rattle.hs_laws.specs.cases.Cases as row
use Rattle.hs_laws.specs.cases.Cases.{holding, with_cell, printed, told, read_there, Unfinished}
use Rattle.hs_laws.proofs.cases_lemmas.Entering.{case_of, all_are, quietly}
use Rattle.hs_laws.specs.BracketPhases.{Blocks, OpPart, At}
use Rattle.hs_laws.specs.Standing.{IsResult, IsBare}
use Rattle.hs_laws.proofs.Lists.{cond_true, cond_false, puts, takes, throws_at, reads_at, those, put_is_first, take_is_first, readers_are, throwers_are, only_thread, first_of_kind, Each, each_changed, Found, first_found}

-- ---- one that waits among these
abbrev pub Among : ℕ → Reason V → List (Waiting V) → Type 0
Among t r [] = ⊥
Among t r (w ∷ ws) = (w ≡ record { thread = t; reason = r }) ⊎ Among t r ws

pub each_among : (P : ℕ → Reason V → Type 0) (t : ℕ) (r : Reason V) (ws : List (Waiting V)) → Each P ws → Among t r ws → P t r
each_among P t r [] h a = absurd a
each_among P t r (w ∷ ws) h (inl e) = subst (λ v. P v.thread v.reason) e h.0
each_among P t r (w ∷ ws) h (inr a) = each_among P t r ws h.1 a

all_among : (ws : List (Waiting V)) → Each (λ t r. Among t r ws) ws
all_among [] = tt
all_among (w ∷ ws) = (inl refl, each_changed (λ t r. Among t r ws) (λ t r. Among t r (w ∷ ws)) ws (λ t r a. inr a) (all_among ws))

-- who is found first waits among them
pub put_among : (c : ℕ) (ws : List (Waiting V)) (w : ℕ × V) → first_put (line_of c ws) ≡ Some w → (r : Reason V) × Among w.0 r ws
put_among c ws w e =
    let f : Found (λ t r. Among t r ws) (puts c) (Some w) = subst (Found (λ t r. Among t r ws) (puts c)) (sym (put_is_first c ws) ∙ e) (first_found (λ t r. Among t r ws) (puts c) ws (all_among ws)) in
    (f.0, f.1)

pub take_among : (c : ℕ) (ws : List (Waiting V)) (w : ℕ) → first_take (line_of c ws) ≡ Some w → (r : Reason V) × Among w r ws
take_among c ws w e = by (first_of_kind (takes c) ws) (first_found (λ t r. Among t r ws) (takes c) ws (all_among ws)) (sym (take_is_first c ws) ∙ e)
  where
    by : (o : Option (ℕ × Unit {0})) → Found (λ t r. Among t r ws) (takes c) o → only_thread o ≡ Some w → (r : Reason V) × Among w r ws
    by None f q = absurd (cc q)
    by (Some v) f q = (f.0, subst (λ u. Among u f.0 ws) (same_Some v.0 w q) f.1)

-- ---- what the updates need

-- thread t stands at this operation, and isn't blocked
pub record Stands (s : State) (t : ℕ) (op : Operation) : Type 0 where
  pub th : Thread
  pub is : slice_get s.threads t ≡ Some th
  pub part : th.term.part ≡ Performs op
  pub unfinished : th.finished ≡ false
  pub running : is_blocked t s.blocked ≡ false

pub stands_blocks : {s : State} {t : ℕ} {op : Operation} (r : Reason V) → Stands s t op → Blocks r op → At (Blocks r) (slice_get s.threads t)
stands_blocks r h b = subst (At (Blocks r)) (sym h.is) (subst (OpPart (Blocks r)) (sym h.part) b)

-- nobody throws at itself
abbrev pub Apart : ℕ → Reason V → Type 0
Apart t (Taking m) = Unit {0}
Apart t (Reading m) = Unit {0}
Apart t (Putting m v) = Unit {0}
Apart t (Throwing u e) = t ≢ u
Apart t (Sleeping due) = Unit {0}

-- an operation that makes a cell
abbrev pub Makes : Operation → Type 0
Makes (Calls NewMVar vs) = Unit {0}
Makes (Calls NewEmptyMVar vs) = Unit {0}
Makes op = ⊥

-- an operation that prints nothing, makes and marks nothing
abbrev pub Calm : Operation → Type 0
Calm (Calls PutStr vs) = ⊥
Calm (Calls PutStrLn vs) = ⊥
Calm (Calls HPutStrLn vs) = ⊥
Calm (Calls NewMVar vs) = ⊥
Calm (Calls NewEmptyMVar vs) = ⊥
Calm (Calls NewTimeout vs) = ⊥
Calm (Calls Acquired vs) = ⊥
Calm (Calls Release vs) = ⊥
Calm (Calls w vs) = Unit {0}
Calm (Forks a env) = ⊥
Calm (ForksUnmask r a env) = ⊥

-- thread t may receive here
abbrev pub Open : State → ℕ → Thread → Type 0
Open s t th = ((is_blocked t s.blocked ≡ true) × (mask_at th.term.frames ≢ Uninterruptible)) ⊎ ((is_blocked t s.blocked ≡ false) × (mask_at th.term.frames ≡ Unmasked))

-- thread t ends by this part, with this line on error output
abbrev pub EndsBy : ℕ → Part → List ℕ → Type 0
EndsBy t (Ret v) line = line ≡ []
EndsBy t (Throw e) line = line ≡ uncaught_line t e
EndsBy t (Do a env) line = ⊥
EndsBy t (Performs op) line = ⊥

pub ends_result : (t : ℕ) (line : List ℕ) (p : Part) → EndsBy t p line → IsResult p
ends_result t line (Ret v) b = tt
ends_result t line (Throw e) b = tt
ends_result t line (Do a env) b = absurd b
ends_result t line (Performs op) b = absurd b

-- ---- the updates
pub data Changes (code : Code) (s : State) : Entry → State → Type 0 where
  -- an entry's first
  moves : {t k : ℕ} {th : Thread} {x : Term} → Unfinished t th s → is_blocked t s.blocked ≡ false → locals code (suc k) th.term ≡ Some x → Changes code s (entry.Local t (suc k)) (move t x s)
  blocks : {t : ℕ} {op : Operation} (r : Reason V) → Stands s t op → Calm op → Blocks r op → Apart t r → Changes code s (entry.Op t) (block t r s)
  ends : {t : ℕ} {op : Operation} (p : Part) → Stands s t op → Calm op → IsResult p → Changes code s (entry.Op t) (resume t p s)
  prints : {t : ℕ} {x : List ℕ} → Stands s t (Calls PutStr (Text x ∷ [])) → Changes code s (entry.Op t) (answer t UnitValue (printed x s))
  prints_a_line : {t : ℕ} {x : List ℕ} → Stands s t (Calls PutStrLn (Text x ∷ [])) → Changes code s (entry.Op t) (answer t UnitValue (printed line_feed (printed x s)))
  tells_a_line : {t : ℕ} {x : List ℕ} → Stands s t (Calls HPutStrLn (Text x ∷ [])) → Changes code s (entry.Op t) (answer t UnitValue (told line_feed (told x s)))
  makes : {t : ℕ} {op : Operation} (v : V) (o : Option V) → Stands s t op → Makes op → Changes code s (entry.Op t) (answer t v (with_cell o s))
  makes_a_timeout : {t : ℕ} → Stands s t (Calls NewTimeout []) → Changes code s (entry.Op t) (answer t (Exception (Timeout s.next_timeout)) (record s { next_timeout = suc s.next_timeout }))
  acquires : {t : ℕ} → Stands s t (Calls Acquired []) →
      Changes code s (entry.Op t) (answer t (Inst s.next_instance) (record s { marks = AcquiredBy s.next_instance t ∷ s.marks; next_instance = suc s.next_instance }))
  releases : {t i : ℕ} → Stands s t (Calls Release (Inst i ∷ [])) → Changes code s (entry.Op t) (answer t UnitValue (record s { marks = ReleasedBy i t ∷ s.marks }))
  forks : {t : ℕ} (m : Mask) {a : Core} {env : Env} → Stands s t (Forks a env) →
      Changes code s (entry.Op t) (spawn (term (Do a env) (MaskIn m ∷ [])) (answer t (val.Thread (length s.threads)) s))
  forks_unmasked : {t : ℕ} (m : Mask) {r : Name} {a : Core} {env : Env} → Stands s t (ForksUnmask r a env) →
      Changes code s (entry.Op t) (spawn (term (Do a (with_name r (Restore Unmasked) env)) (MaskIn m ∷ [])) (answer t (val.Thread (length s.threads)) s))
  receives : {t : ℕ} {th : Thread} {f : Flying} {fs : List Flying} → Unfinished t th s → Open s t th → flying_to t (flight_of s.blocked) ≡ f ∷ fs →
      Changes code s (entry.Receive t) (resume t (Throw f.exn) (answer f.thrower UnitValue s))
  wakes : {t due : ℕ} → reason_of t s.blocked ≡ Some (Sleeping due) → Changes code s (entry.Wake t) (answer t UnitValue s)
  finishes : {t : ℕ} {th : Thread} (line : List ℕ) → Unfinished t th s → th.term.frames ≡ [] → EndsBy t th.term.part line →
      Changes code s (entry.Finish t) (record s { threads = slice_set s.threads t (record { term = th.term; finished = true }); errors = s.errors ++ line })
  ticks : {at : ℕ} → s.clock ≤ at → Changes code s (entry.Tick at) (record s { clock = at })
  strands : Changes code s entry.Stranded (resume_all (stranded s) (Throw BlockedIndefinitely) s)
  -- and what may follow
  holds : {e : Entry} (c : ℕ) (o : Option V) (u : State) → Changes code s e u → Changes code s e (holding c o u)
  serves : {e : Entry} (w : ℕ) (v : V) (u : State) (r : Reason V) → Among w r u.blocked → Changes code s e u → Changes code s e (answer w v u)
  all : {e : Entry} (p : ℕ → Reason V → Bool) (v : V) (u : State) → Changes code s e u → Changes code s e (resume_all (those p u.blocked) (Ret v) u)

-- what is kept where one thread goes on is kept where all of these do
pub all_kept : (P : State → Type 0) (p : Part) → ((t : ℕ) (u : State) → P u → P (resume t p u)) → (ts : List ℕ) (u : State) → P u → P (resume_all ts p u)
all_kept P p f [] u h = h
all_kept P p f (t ∷ ts) u h = all_kept P p f ts (resume t p u) (f t u h)

-- ---- operations
module _ (code : Code) where
  read_by : {e : Entry} {s : State} (c : ℕ) (a : V) (u : State) → Changes code s e u → Changes code s e (read_there c a u)
  read_by {e} {s} c a u h = subst (λ ts. Changes code s e (resume_all ts (Ret a) u)) (sym (readers_are c u.blocked)) (all (λ w. reads_at c) a u h)

  put_follows : {e : Entry} {s : State} (c w : ℕ) (b : V) (u : State) → row.putter c u ≡ Some (w, b) → Changes code s e u → Changes code s e (answer w UnitValue (holding c (Some b) u))
  put_follows c w b u q h = let f = put_among c u.blocked (w, b) q in serves w UnitValue (holding c (Some b) u) f.0 f.1 (holds c (Some b) u h)

  take_follows : {e : Entry} {s : State} (c w : ℕ) (a : V) (u : State) → row.taker c u ≡ Some w → Changes code s e u → Changes code s e (answer w a u)
  take_follows c w a u q h = let f = take_among c u.blocked w q in serves w a u f.0 f.1 h

  performs : {t : ℕ} {m : Mask} {op : Operation} {s u : State} → Stands s t op → row.Performs t m op s u → Changes code s (entry.Op t) u
  performs st row.prints = prints st
  performs st row.prints_a_line = prints_a_line st
  performs st row.tells_a_line = tells_a_line st
  performs {s = r} st (row.makes_a_full_cell {a}) = makes (val.Cell (length r.cells)) (Some a) st tt
  performs {s = r} st row.makes_an_empty_cell = makes (val.Cell (length r.cells)) None st tt
  performs st (row.take_waits {c} q) = blocks (Taking c) st tt refl tt
  performs {t} {s = r} st (row.takes_and_empties {c} {a} q w) = holds c None (answer t a r) (ends (Ret a) st tt tt)
  performs {t} {s = r} st (row.takes_and_serves {c} {w} {a} {b} q p) = put_follows c w b (answer t a r) p (ends (Ret a) st tt tt)
  performs st (row.read_waits {c} q) = blocks (Reading c) st tt refl tt
  performs st (row.reads {a} q) = ends (Ret a) st tt tt
  performs st (row.put_waits {c} {a} q) = blocks (Putting c a) st tt refl tt
  performs {t} {s = r} st (row.puts_and_fills {c} {a} q w) = holds c (Some a) (read_there c a (answer t UnitValue r)) (read_by c a (answer t UnitValue r) (ends (Ret UnitValue) st tt tt))
  performs {t} {s = r} st (row.puts_and_serves {c} {w} {a} q p) = take_follows c w a (read_there c a (answer t UnitValue r)) p (read_by c a (answer t UnitValue r) (ends (Ret UnitValue) st tt tt))
  performs st (row.try_take_finds_nothing q) = ends (Ret val.Nothing) st tt tt
  performs {t} {s = r} st (row.try_takes_and_empties {c} {a} q w) = holds c None (answer t (val.Just a) r) (ends (Ret (val.Just a)) st tt tt)
  performs {t} {s = r} st (row.try_takes_and_serves {c} {w} {a} {b} q p) = put_follows c w b (answer t (val.Just a) r) p (ends (Ret (val.Just a)) st tt tt)
  performs st (row.try_put_finds_a_value q) = ends (Ret (val.Truth false)) st tt tt
  performs {t} {s = r} st (row.try_puts_and_fills {c} {a} q w) = holds c (Some a) (read_there c a (answer t (val.Truth true) r)) (read_by c a (answer t (val.Truth true) r) (ends (Ret (val.Truth true)) st tt tt))
  performs {t} {s = r} st (row.try_puts_and_serves {c} {w} {a} q p) = take_follows c w a (read_there c a (answer t (val.Truth true) r)) p (read_by c a (answer t (val.Truth true) r) (ends (Ret (val.Truth true)) st tt tt))
  performs {t} st row.names_itself = ends (Ret (val.Thread t)) st tt tt
  performs {m} st row.names_its_masking = ends (Ret (Text (masking_text m))) st tt tt
  performs {s = r} st row.reads_the_clock = ends (Ret (clock_value r)) st tt tt
  performs {s = r} st (row.sleeps {n} h) = blocks (Sleeping (due_in n r)) st tt (pos n, refl) tt
  performs st row.sleep_of_nothing = ends (Ret UnitValue) st tt tt
  performs st row.sleep_of_less = ends (Ret UnitValue) st tt tt
  performs st (row.throws_at_itself {e} h) = ends (Throw e) st tt tt
  performs st (row.throws_at_finished n h f) = ends (Ret UnitValue) st tt tt
  performs st (row.throw_waits {u = w} {e} n h f) = blocks (Throwing w e) st tt refl (λ q. n (sym q))
  performs st row.makes_a_timeout = makes_a_timeout st
  performs st row.acquires = acquires st
  performs st row.releases = releases st
  performs {m} st row.forks = forks m st
  performs {m} st row.forks_unmasked = forks_unmasked m st

  -- ---- entries
  closes : {t : ℕ} {th : Thread} {s : State} (line : List ℕ) → Unfinished t th s → th.term.frames ≡ [] → {p : Part} → th.term.part ≡ p → EndsBy t p line → Changes code s (entry.Finish t) (closed t th line s)
  closes {t} {th} {s} line h f q k =
      let u = record s { threads = slice_set s.threads t (record { term = th.term; finished = true }); errors = s.errors ++ line } in
      subst (λ ts. Changes code s (entry.Finish t) (resume_all ts (Ret UnitValue) u)) (sym (throwers_are t s.blocked))
      (all (λ w. throws_at t) UnitValue u (finishes line h f (subst (λ p. EndsBy t p line) (sym q) k)))

  enters : {s : State} {e : Entry} {u : State} → row.Enters code s e u → Changes code s e u
  enters (row.local m h b l) = moves h b l
  enters (row.operation {th} m h b q c) = performs (record { th = th; is = h.0; part = q; unfinished = h.1; running = b }) c
  enters (row.receives_while_it_runs m h n b k e) = receives h (inr (b, k)) e
  enters (row.receives_while_it_waits m h n b k e) = receives h (inl (b, k)) e
  enters (row.wakes m h d) = wakes h
  enters (row.finishes_by_a_value {t} {th} {s = r} m h f q) = subst (Changes code r (entry.Finish t)) (quietly t th r) (closes [] h f q refl)
  enters (row.main_finishes_by_an_exception {e} h f q) = closes (uncaught_line 0 e) h f q refl
  enters (row.finishes_silently {t} {th} {e} {s = r} m h f q i) = subst (Changes code r (entry.Finish (suc t))) (quietly (suc t) th r) (closes [] h f q (sym (cond_true (is_silent e) [] _ i)))
  enters (row.finishes_with_a_line {e} m h f q i) = closes _ h f q (sym (cond_false (is_silent e) [] _ i))
  enters (row.ticks m h) = ticks h
  enters (row.strands {s = r} m e a) = subst (λ ts. Changes code r entry.Stranded (resume_all ts (Throw BlockedIndefinitely) r)) (all_are a) strands

-- a legal entry changes a state so
pub changes : (code : Code) (s : State) (e : Entry) (u : State) → next code s e ≡ Some u → Changes code s e u
changes code s e u h = enters code (case_of code s e u h)

-- ---- entries that have several cases

-- thread t receives the first exception that flies to it
pub record Receives (t : ℕ) (s u : State) : Type 0 where
  pub thread : Thread
  pub is : slice_get s.threads t ≡ Some thread
  pub unfinished : thread.finished ≡ false
  pub no_throw : is_throw thread.term.part ≡ false
  pub open_now : Open s t thread
  pub first : Flying
  pub others : List Flying
  pub flying : flying_to t (flight_of s.blocked) ≡ first ∷ others
  pub leaves : resume t (Throw first.exn) (answer first.thrower UnitValue s) ≡ u

pub receiving : {code : Code} {t : ℕ} {s u : State} → row.Enters code s (entry.Receive t) u → Receives t s u
receiving (row.receives_while_it_runs {th} {f} {fs} m h n b k e) = record { thread = th; is = h.0; unfinished = h.1; no_throw = n; open_now = inr (b, k); first = f; others = fs; flying = e; leaves = refl }
receiving (row.receives_while_it_waits {th} {f} {fs} m h n b k e) = record { thread = th; is = h.0; unfinished = h.1; no_throw = n; open_now = inl (b, k); first = f; others = fs; flying = e; leaves = refl }

-- thread t finishes, with this line on error output
pub record Closes (t : ℕ) (s u : State) : Type 0 where
  pub thread : Thread
  pub is : slice_get s.threads t ≡ Some thread
  pub unfinished : thread.finished ≡ false
  pub bare : IsBare thread
  pub line : List ℕ
  pub leaves : closed t thread line s ≡ u

pub closing : {code : Code} {t : ℕ} {s u : State} → row.Enters code s (entry.Finish t) u → Closes t s u
closing {t} {s} (row.finishes_by_a_value {th} m h f q) = record { thread = th; is = h.0; unfinished = h.1; bare = (subst IsResult (sym q) tt, f); line = []; leaves = quietly t th s }
closing (row.main_finishes_by_an_exception {th} h f q) = record { thread = th; is = h.0; unfinished = h.1; bare = (subst IsResult (sym q) tt, f); line = _; leaves = refl }
closing {t} {s} (row.finishes_silently {th} m h f q i) = record { thread = th; is = h.0; unfinished = h.1; bare = (subst IsResult (sym q) tt, f); line = []; leaves = quietly t th s }
closing (row.finishes_with_a_line {th} m h f q i) = record { thread = th; is = h.0; unfinished = h.1; bare = (subst IsResult (sym q) tt, f); line = _; leaves = refl }
