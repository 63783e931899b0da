-- What goes on in a state goes on by the same case in one like it, and leaves states that are alike again. What alike means is
-- for the user to say, who has to show only that the few updates keep it.
use Rattle.std.proofs.Common.{◌≡◌, ℕ, suc, pos, List, [], ◌∷◌, length, slice_get, slice_set, true, false, Option, Some, None, sym, ap, ◌∙◌, subst}
use Rattle.hs_base.specs.declared.mask.Mask.{Mask}
use Rattle.hs_base.specs.declared.mask.Mask.TheVariants.{Unmasked}
use Rattle.hs_base.specs.declared.exn.Exn.{Exn}
use Rattle.hs_base.specs.declared.exn.Exn.TheVariants.{Timeout}
use Rattle.hs_rules.specs.declared.entry.Entry.{Entry}
use Rattle.hs_rules.specs.declared.entry.Entry.TheVariants as entry
use Rattle.rules_expansion.specs.declared.primitive.Primitive.TheVariants.{ClockMicros, ThreadDelay, ThrowTo}
use Rattle.rules_meaning.specs.Values as val
use Rattle.rules_meaning.specs.Values.{V, UnitValue, Int, Text, Cell, Exception, Restore, Inst, with_name}
use Rattle.rules_meaning.specs.CoreMeaning.{Code}
use Rattle.rules_waiting.specs.OneCell.{first_put, first_take, readers}
use Rattle.rules_waiting.specs.Waiting.{Reason, Taking, Reading, Putting, Throwing, Sleeping, Flying, is_blocked, line_of, flight_of, flying_to, first_thrown}
use Rattle.hs_rules.specs.Terms.{Operation, Calls, Part, Ret, Throw, Do, Performs, MaskIn, Term, term}
use Rattle.hs_rules.specs.State.{AcquiredBy, ReleasedBy, Thread, State, move, resume, answer, resume_all, block, spawn}
use Rattle.hs_rules.specs.Primitives.{due_in, clock_value, masking_text, line_feed}
use Rattle.hs_rules.specs.Entries.{throwers, next}
use Rattle.hs_laws.specs.cases.Cases as row
use Rattle.hs_laws.specs.cases.Cases.{holding, with_cell, printed, told, read_there, MainRuns, finished}
use Rattle.hs_laws.proofs.cases_lemmas.Entering.{case_of, entered_is}
use Rattle.hs_laws.proofs.Lists.{Each, Found, first_found, Ones, ones_those, throws, throws_at, reads_at, readers_are, throwers_are, throw_is_first}
use Rattle.hs_laws.proofs.Changes.{each_among, put_among, take_among}

-- the second state's are the threads, who waits and the clock, and all else is the first one's
abbrev pub with_rest : State → State → State
with_rest x s = record x { threads = s.threads; blocked = s.blocked; clock = s.clock }

-- thread t is this one
abbrev pub put_in : ℕ → Thread → State → State
put_in t y s = record s { threads = slice_set s.threads t y }

-- States are alike. Each thread of `May` may go on in both; an operation of `Ok` goes on in both, and one of `Keeps` leaves
-- states that are alike.
pub record Likeness (R : State → State → Type 0) (May : ℕ → Type 0) (Ok Keeps : Operation → Type 0) : Type 0 where
  -- what they have in common
  pub same : (s r : State) → R s r → r ≡ with_rest s r
  pub lines : (s r : State) → R s r → (c : ℕ) → line_of c s.blocked ≡ line_of c r.blocked
  pub flights : (s r : State) → R s r → flight_of s.blocked ≡ flight_of r.blocked
  pub blocked : (s r : State) (t : ℕ) → May t → R s r → is_blocked t s.blocked ≡ is_blocked t r.blocked
  pub waits : (s r : State) → R s r → Each (λ t w. May t) s.blocked
  pub there : (s r : State) (t : ℕ) (th : Thread) → May t → R s r → slice_get s.threads t ≡ Some th → slice_get r.threads t ≡ Some th
  pub long : (s r : State) → R s r → length s.threads ≡ length r.threads
  pub main : (s r : State) → R s r → MainRuns s → MainRuns r
  -- the updates
  pub rest : (x s r : State) → R s r → R (with_rest x s) (with_rest x r)
  pub resumes : (s r : State) (t : ℕ) (p : Part) → May t → R s r → R (resume t p s) (resume t p r)
  pub moves : (s r : State) (t : ℕ) (x : Term) → May t → R s r → R (move t x s) (move t x r)
  pub blocks : (s r : State) (t : ℕ) (w : Reason V) → May t → R s r → R (block t w s) (block t w r)
  pub spawns : (s r : State) (x : Term) → R s r → R (spawn x s) (spawn x r)
  pub puts : (s r : State) (t : ℕ) (y : Thread) → May t → R s r → R (put_in t y s) (put_in t y r)
  -- the operations that look at more
  pub sleeps : (s r : State) (t n : ℕ) → Keeps (Calls ThreadDelay (Int (pos n) ∷ [])) → May t → R s r → R (block t (Sleeping (due_in n s)) s) (block t (Sleeping (due_in n r)) r)
  pub reads : (s r : State) → Keeps (Calls ClockMicros []) → R s r → clock_value s ≡ clock_value r
  pub throws : (s r : State) (u : ℕ) (e : Exn) (th : Thread) → Ok (Calls ThrowTo (val.Thread u ∷ Exception e ∷ [])) → R s r → slice_get s.threads u ≡ Some th →
      (x : Thread) × (slice_get r.threads u ≡ Some x) × (x.finished ≡ th.finished)

module _ {R : State → State → Type 0} {May : ℕ → Type 0} {Ok Keeps : Operation → Type 0} (k : Likeness R May Ok Keeps) where
  -- ---- what several operations do
  holds_alike : (c : ℕ) (o : Option V) (s r : State) → R s r → R (holding c o s) (holding c o r)
  holds_alike c o s r h = subst (λ q. R (holding c o s) (holding c o q)) (sym (k.same s r h)) (k.rest (holding c o s) s r h)

  told_alike : (x : List ℕ) (s r : State) → R s r → R (told x s) (told x r)
  told_alike x s r h = subst (λ q. R (told x s) (told x q)) (sym (k.same s r h)) (k.rest (told x s) s r h)

  all_alike : (p : Part) (ts : List ℕ) (s r : State) → Ones May ts → R s r → R (resume_all ts p s) (resume_all ts p r)
  all_alike p [] s r m h = h
  all_alike p (t ∷ ts) s r m h = all_alike p ts (resume t p s) (resume t p r) m.1 (k.resumes s r t p m.0 h)

  read_alike : (c : ℕ) (a : V) (s r : State) → R s r → R (read_there c a s) (read_there c a r)
  read_alike c a s r h =
      subst (λ l. R (read_there c a s) (resume_all (readers l) (Ret a) r)) (k.lines s r h c)
      (all_alike (Ret a) (readers (line_of c s.blocked)) s r (subst (Ones May) (sym (readers_are c s.blocked)) (ones_those (λ t w. May t) May (λ t. reads_at c) s.blocked (λ t w m. m) (k.waits s r h))) h)

  finish_alike : (t : ℕ) (th : Thread) (s r : State) → May t → R s r → R (finished t th s) (finished t th r)
  finish_alike t th s r m h =
      let y : Thread = record { term = th.term; finished = true } in
      subst (λ fs. R (finished t th s) (resume_all (throwers (flying_to t fs)) (Ret UnitValue) (put_in t y r))) (k.flights s r h)
      (all_alike (Ret UnitValue) (throwers (flying_to t (flight_of s.blocked))) (put_in t y s) (put_in t y r)
      (subst (Ones May) (sym (throwers_are t s.blocked)) (ones_those (λ u w. May u) May (λ u. throws_at t) s.blocked (λ u w m. m) (k.waits s r h))) (k.puts s r t y m h))

  fork_alike : (t : ℕ) (x : Term) (s r : State) → May t → R s r → R (spawn x (answer t (val.Thread (length s.threads)) s)) (spawn x (answer t (val.Thread (length r.threads)) r))
  fork_alike t x s r m h =
      subst (λ n. R (spawn x (answer t (val.Thread (length s.threads)) s)) (spawn x (answer t (val.Thread n) r))) (k.long s r h)
      (k.spawns (answer t (val.Thread (length s.threads)) s) (answer t (val.Thread (length s.threads)) r) x (k.resumes s r t (Ret (val.Thread (length s.threads))) m h))

  -- who is served
  putter_too : (c : ℕ) (o : Option (ℕ × V)) (s r : State) → R s r → row.putter c s ≡ o → row.putter c r ≡ o
  putter_too c o s r h q = ap first_put (sym (k.lines s r h c)) ∙ q

  taker_too : (c : ℕ) (o : Option ℕ) (s r : State) → R s r → row.taker c s ≡ o → row.taker c r ≡ o
  taker_too c o s r h q = ap first_take (sym (k.lines s r h c)) ∙ q

  put_serves : (c w : ℕ) (a : V) (s r : State) → R s r → row.putter c s ≡ Some (w, a) → R (answer w UnitValue (holding c (Some a) s)) (answer w UnitValue (holding c (Some a) r))
  put_serves c w a s r h q =
      let f = put_among c s.blocked (w, a) q in
      k.resumes (holding c (Some a) s) (holding c (Some a) r) w (Ret UnitValue) (each_among (λ t x. May t) w f.0 s.blocked (k.waits s r h) f.1) (holds_alike c (Some a) s r h)

  take_serves : (c w : ℕ) (a : V) (s r : State) → R s r → row.taker c s ≡ Some w → R (answer w a s) (answer w a r)
  take_serves c w a s r h q = let f = take_among c s.blocked w q in k.resumes s r w (Ret a) (each_among (λ t x. May t) w f.0 s.blocked (k.waits s r h) f.1) h

  -- ---- an operation
  module _ (t : ℕ) (m : Mask) (y : May t) (r : State) where
    abbrev Goes : Operation → State → State → Type 0
    Goes op s u = (w : State) × row.Performs t m op (with_rest s r) w × (Keeps op → R u w)

    here : {op : Operation} {q u w : State} → row.Performs t m op q w → R u w → (w : State) × row.Performs t m op q w × (Keeps op → R u w)
    here {w} c h = (w, c, λ z. h)

    -- the thread is answered in states to which the same was done
    after : {s : State} (v : V) (x : State) → R s (with_rest s r) → R (answer t v (with_rest x s)) (answer t v (with_rest x r))
    after {s} v x h = k.resumes (with_rest x s) (with_rest x r) t (Ret v) y (k.rest x s (with_rest s r) h)

    answered : {s : State} (v : V) → R s (with_rest s r) → R (answer t v s) (answer t v (with_rest s r))
    answered {s} v h = k.resumes s (with_rest s r) t (Ret v) y h

    given : {s : State} (c : ℕ) (a v : V) → R s (with_rest s r) → R (read_there c a (answer t v s)) (read_there c a (answer t v (with_rest s r)))
    given {s} c a v h = read_alike c a (answer t v s) (answer t v (with_rest s r)) (answered v h)

    performs : {op : Operation} {s u : State} → Ok op → R s (with_rest s r) → row.Performs t m op s u → Goes op s u
    performs {s = o} g h (row.prints {x}) = here row.prints (after UnitValue (printed x o) h)
    performs {s = o} g h (row.prints_a_line {x}) = here row.prints_a_line (after UnitValue (printed line_feed (printed x o)) h)
    performs {s = o} g h (row.tells_a_line {x}) = here row.tells_a_line (after UnitValue (told line_feed (told x o)) h)
    performs {s = o} g h (row.makes_a_full_cell {a}) = here row.makes_a_full_cell (after (Cell (length o.cells)) (with_cell (Some a) o) h)
    performs {s = o} g h row.makes_an_empty_cell = here row.makes_an_empty_cell (after (Cell (length o.cells)) (with_cell None o) h)
    performs {s = o} g h (row.take_waits {c} q) = here (row.take_waits q) (k.blocks o (with_rest o r) t (Taking c) y h)
    performs {s = o} g h (row.takes_and_empties {c} {a} q w) =
        here (row.takes_and_empties q (putter_too c None (answer t a o) (answer t a (with_rest o r)) (answered a h) w)) (holds_alike c None (answer t a o) (answer t a (with_rest o r)) (answered a h))
    performs {s = o} g h (row.takes_and_serves {c} {w} {a} {b} q p) =
        here (row.takes_and_serves q (putter_too c (Some (w, b)) (answer t a o) (answer t a (with_rest o r)) (answered a h) p)) (put_serves c w b (answer t a o) (answer t a (with_rest o r)) (answered a h) p)
    performs {s = o} g h (row.read_waits {c} q) = here (row.read_waits q) (k.blocks o (with_rest o r) t (Reading c) y h)
    performs g h (row.reads {a} q) = here (row.reads q) (answered a h)
    performs {s = o} g h (row.put_waits {c} {a} q) = here (row.put_waits q) (k.blocks o (with_rest o r) t (Putting c a) y h)
    performs {s = o} g h (row.puts_and_fills {c} {a} q w) = here (row.puts_and_fills q (taker_too c None _ _ (given c a UnitValue h) w)) (holds_alike c (Some a) _ _ (given c a UnitValue h))
    performs {s = o} g h (row.puts_and_serves {c} {w} {a} q p) = here (row.puts_and_serves q (taker_too c (Some w) _ _ (given c a UnitValue h) p)) (take_serves c w a _ _ (given c a UnitValue h) p)
    performs g h (row.try_take_finds_nothing q) = here (row.try_take_finds_nothing q) (answered val.Nothing h)
    performs {s = o} g h (row.try_takes_and_empties {c} {a} q w) =
        here (row.try_takes_and_empties q (putter_too c None (answer t (val.Just a) o) (answer t (val.Just a) (with_rest o r)) (answered (val.Just a) h) w))
        (holds_alike c None (answer t (val.Just a) o) (answer t (val.Just a) (with_rest o r)) (answered (val.Just a) h))
    performs {s = o} g h (row.try_takes_and_serves {c} {w} {a} {b} q p) =
        here (row.try_takes_and_serves q (putter_too c (Some (w, b)) (answer t (val.Just a) o) (answer t (val.Just a) (with_rest o r)) (answered (val.Just a) h) p))
        (put_serves c w b (answer t (val.Just a) o) (answer t (val.Just a) (with_rest o r)) (answered (val.Just a) h) p)
    performs g h (row.try_put_finds_a_value q) = here (row.try_put_finds_a_value q) (answered (val.Truth false) h)
    performs g h (row.try_puts_and_fills {c} {a} q w) = here (row.try_puts_and_fills q (taker_too c None _ _ (given c a (val.Truth true) h) w)) (holds_alike c (Some a) _ _ (given c a (val.Truth true) h))
    performs g h (row.try_puts_and_serves {c} {w} {a} q p) = here (row.try_puts_and_serves q (taker_too c (Some w) _ _ (given c a (val.Truth true) h) p)) (take_serves c w a _ _ (given c a (val.Truth true) h) p)
    performs g h row.names_itself = here row.names_itself (answered (val.Thread t) h)
    performs g h row.names_its_masking = here row.names_its_masking (answered (Text (masking_text m)) h)
    performs {s = o} g h row.reads_the_clock = (_, row.reads_the_clock, λ z. subst (λ v. R (answer t (clock_value o) o) (answer t v (with_rest o r))) (k.reads o (with_rest o r) z h) (answered (clock_value o) h))
    performs {s = o} g h (row.sleeps {n} q) = (_, row.sleeps q, λ z. k.sleeps o (with_rest o r) t n z y h)
    performs g h row.sleep_of_nothing = here row.sleep_of_nothing (answered UnitValue h)
    performs g h row.sleep_of_less = here row.sleep_of_less (answered UnitValue h)
    performs {s = o} g h (row.throws_at_itself {th} {e} q) = let x = k.throws o (with_rest o r) t e th g h q in here (row.throws_at_itself x.1) (k.resumes o (with_rest o r) t (Throw e) y h)
    performs {s = o} g h (row.throws_at_finished {u = w} {th} {e} n q f) = let x = k.throws o (with_rest o r) w e th g h q in here (row.throws_at_finished n x.1 (x.2 ∙ f)) (answered UnitValue h)
    performs {s = o} g h (row.throw_waits {u = w} {th} {e} n q f) = let x = k.throws o (with_rest o r) w e th g h q in here (row.throw_waits n x.1 (x.2 ∙ f)) (k.blocks o (with_rest o r) t (Throwing w e) y h)
    performs {s = o} g h row.makes_a_timeout = here row.makes_a_timeout (after (Exception (Timeout o.next_timeout)) (record o { next_timeout = suc o.next_timeout }) h)
    performs {s = o} g h row.acquires = here row.acquires (after (Inst o.next_instance) (record o { marks = AcquiredBy o.next_instance t ∷ o.marks; next_instance = suc o.next_instance }) h)
    performs {s = o} g h (row.releases {i}) = here row.releases (after UnitValue (record o { marks = ReleasedBy i t ∷ o.marks }) h)
    performs {s = o} g h (row.forks {a} {env}) = here row.forks (fork_alike t (term (Do a env) (MaskIn m ∷ [])) o (with_rest o r) y h)
    performs {s = o} g h (row.forks_unmasked {r = x} {a} {env}) = here row.forks_unmasked (fork_alike t (term (Do a (with_name x (Restore Unmasked) env)) (MaskIn m ∷ [])) o (with_rest o r) y h)

  performs_too : {t : ℕ} {m : Mask} {op : Operation} {s u : State} (r : State) → May t → Ok op → R s r → row.Performs t m op s u → (w : State) × row.Performs t m op r w × (Keeps op → R u w)
  performs_too {t} {m} {op} {s} {u} r y g h c =
      subst (λ q. (w : State) × row.Performs t m op q w × (Keeps op → R u w)) (sym (k.same s r h)) (performs t m y r g (subst (R s) (k.same s r h) h) c)

-- ---- an entry

-- an entry of one thread, which is one of these
abbrev pub ByOne : (ℕ → Type 0) → Entry → Type 0
ByOne May (entry.Local t k) = May t
ByOne May (entry.Op t) = May t
ByOne May (entry.Receive t) = May t
ByOne May (entry.Finish t) = May t
ByOne May (entry.Wake t) = ⊥
ByOne May (entry.Tick at) = ⊥
ByOne May entry.Stranded = ⊥

-- the operation that an entry performs is one of these
abbrev pub AtOp : State → Entry → (Operation → Type 0) → Type 0
AtOp s (entry.Op t) P = (th : Thread) (op : Operation) → slice_get s.threads t ≡ Some th → th.term.part ≡ Performs op → P op
AtOp s (entry.Local t k) P = Unit {0}
AtOp s (entry.Receive t) P = Unit {0}
AtOp s (entry.Finish t) P = Unit {0}
AtOp s (entry.Wake t) P = Unit {0}
AtOp s (entry.Tick at) P = Unit {0}
AtOp s entry.Stranded P = Unit {0}

pub at_any : (P : Operation → Type 0) → ((op : Operation) → P op) → (s : State) (e : Entry) → AtOp s e P
at_any P f s (entry.Op t) = λ th op is p. f op
at_any P f s _ = tt

module _ {R : State → State → Type 0} {May : ℕ → Type 0} {Ok Keeps : Operation → Type 0} (k : Likeness R May Ok Keeps) (code : Code) where
  -- who throws first may go on
  thrower_may : (t : ℕ) (f : Flying) (fs : List Flying) (s r : State) → R s r → flying_to t (flight_of s.blocked) ≡ f ∷ fs → May f.thrower
  thrower_may t f fs s r h e =
      let w = subst (λ gs. Found (λ u x. May u) (throws t) (first_thrown gs)) e (subst (Found (λ u x. May u) (throws t)) (sym (throw_is_first t s.blocked)) (first_found (λ u x. May u) (throws t) s.blocked (k.waits s r h))) in
      w.1

  hit_alike : (t : ℕ) (f : Flying) (fs : List Flying) (s r : State) → May t → R s r → flying_to t (flight_of s.blocked) ≡ f ∷ fs → R (resume t (Throw f.exn) (answer f.thrower UnitValue s)) (resume t (Throw f.exn) (answer f.thrower UnitValue r))
  hit_alike t f fs s r y h e = k.resumes (answer f.thrower UnitValue s) (answer f.thrower UnitValue r) t (Throw f.exn) y (k.resumes s r f.thrower (Ret UnitValue) (thrower_may t f fs s r h e) h)

  enters : {e : Entry} {s u : State} (r : State) → ByOne May e → AtOp s e Ok → R s r → row.Enters code s e u → (w : State) × row.Enters code r e w × (AtOp s e Keeps → R u w)
  enters {s = o} r y g h (row.local {t} {th} {x} m i b l) = (_, row.local (k.main o r h m) (k.there o r t th y h i.0, i.1) (sym (k.blocked o r t y h) ∙ b) l, λ z. k.moves o r t x y h)
  enters {s = o} r y g h (row.operation {t} {th} {p} m i b q c) =
      let f = performs_too k r y (g th p i.0 q) h c in
      (f.0, row.operation (k.main o r h m) (k.there o r t th y h i.0, i.1) (sym (k.blocked o r t y h) ∙ b) q f.1, λ z. f.2 (z th p i.0 q))
  enters {s = o} r y g h (row.receives_while_it_runs {t} {th} {f} {fs} m i n b j e) =
      (_, row.receives_while_it_runs (k.main o r h m) (k.there o r t th y h i.0, i.1) n (sym (k.blocked o r t y h) ∙ b) j (ap (flying_to t) (sym (k.flights o r h)) ∙ e), λ z. hit_alike t f fs o r y h e)
  enters {s = o} r y g h (row.receives_while_it_waits {t} {th} {f} {fs} m i n b j e) =
      (_, row.receives_while_it_waits (k.main o r h m) (k.there o r t th y h i.0, i.1) n (sym (k.blocked o r t y h) ∙ b) j (ap (flying_to t) (sym (k.flights o r h)) ∙ e), λ z. hit_alike t f fs o r y h e)
  enters {s = o} r y g h (row.finishes_by_a_value {t} {th} m i f q) = (_, row.finishes_by_a_value (k.main o r h m) (k.there o r t th y h i.0, i.1) f q, λ z. finish_alike k t th o r y h)
  enters {s = o} r y g h (row.main_finishes_by_an_exception {th} {e} i f q) =
      (_, row.main_finishes_by_an_exception (k.there o r 0 th y h i.0, i.1) f q, λ z. finish_alike k 0 th _ _ y (told_alike k _ o r h))
  enters {s = o} r y g h (row.finishes_silently {t} {th} m i f q j) = (_, row.finishes_silently (k.main o r h m) (k.there o r (suc t) th y h i.0, i.1) f q j, λ z. finish_alike k (suc t) th o r y h)
  enters {s = o} r y g h (row.finishes_with_a_line {t} {th} m i f q j) =
      (_, row.finishes_with_a_line (k.main o r h m) (k.there o r (suc t) th y h i.0, i.1) f q j, λ z. finish_alike k (suc t) th _ _ y (told_alike k _ o r h))
  enters r y g h (row.wakes m q d) = absurd y
  enters r y g h (row.ticks m q) = absurd y
  enters r y g h (row.strands m q a) = absurd y

  pub goes_too : (e : Entry) (s r u : State) → ByOne May e → AtOp s e Ok → R s r → next code s e ≡ Some u → (w : State) × (next code r e ≡ Some w) × (AtOp s e Keeps → R u w)
  goes_too e s r u y g h n = let c = enters r y g h (case_of code s e u n) in (c.0, entered_is c.1, c.2)
