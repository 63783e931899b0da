-- An entry goes on exactly by its cases.
use Rattle.std.proofs.Common.{◌≡◌, ◌≢◌, ℕ, zero, suc, ◌≤◌, nat_le, Bool, true, false, cond, not, ◌&&◌, List, [], ◌∷◌, ◌++◌, length, Option, Some, None, slice_get, slice_set, refl, sym, ap, ◌∙◌, subst, append-nil, arith}
use Rattle.std.proofs.lemmas.Bool.{and_parts, leb-true, cond-true, cond-false}
use Rattle.hs_base.specs.declared.mask.Mask.{Mask}
use Rattle.hs_base.specs.declared.mask.Mask.TheVariants.{Unmasked, Masked, Uninterruptible}
use Rattle.hs_base.specs.declared.exn.Exn.{Exn}
use Rattle.hs_base.specs.declared.exn.Exn.TheVariants.{BlockedIndefinitely}
use Rattle.hs_rules.specs.declared.entry.Entry.{Entry}
use Rattle.hs_rules.specs.declared.entry.Entry.TheVariants as entry
use Rattle.rules_meaning.specs.Values.{V, UnitValue}
use Rattle.rules_meaning.specs.CoreMeaning.{Code}
use Rattle.rules_waiting.specs.Waiting.{Reason, Sleeping, Sleeper, Flying, is_blocked, reason_of, at_cell, flight_of, flying_to, sleepers_of}
use Rattle.hs_rules.specs.Terms.{Operation, Part, Ret, Throw, Do, Frame, Term, mask_at}
use Rattle.hs_rules.specs.Terms as part
use Rattle.hs_rules.specs.LocalRules.{locals}
use Rattle.hs_rules.specs.State.{Thread, State, move, resume, resume_all, answer}
use Rattle.hs_rules.specs.Primitives.{operated}
use Rattle.hs_rules.specs.Entries.{moved, local_entry, at_operation, op_entry, is_throw, is_unmasked, is_interruptible, is_open, is_receptive, received, receive_entry, woken, is_silent, uncaught_line, throwers, closed, finish_entry, mask_of, is_stranded, stranded_below, stranded, strand, strand_entry, on_thread, next}
use Rattle.hs_rules.specs.Entries as entries
use Rattle.hs_laws.specs.cases.Cases.{told, finished, Performs, Unfinished, MainRuns, WaitsAtCell, AllThatWait, of_none, waits_too, waits_not, Enters, local, operation, receives_while_it_runs, receives_while_it_waits, wakes, finishes_by_a_value, main_finishes_by_an_exception, finishes_silently, finishes_with_a_line, ticks, strands}
use Rattle.hs_laws.proofs.cases_lemmas.Options.{landed, tested, on_running}
use Rattle.hs_laws.proofs.cases_lemmas.Performing.{performed_is}
use Rattle.hs_laws.proofs.cases_lemmas.Performing as performing

-- ---- tests and their words

pub not_true : (b : Bool) → not b ≡ true → b ≡ false
not_true true e = absurd (cc e)
not_true false e = refl

unmasked : (m : Mask) → is_unmasked m ≡ true → m ≡ Unmasked
unmasked Unmasked e = refl
unmasked Masked e = absurd (cc e)
unmasked Uninterruptible e = absurd (cc e)

pub interruptible : (m : Mask) → m ≢ Uninterruptible → is_interruptible m ≡ true
interruptible Unmasked n = refl
interruptible Masked n = refl
interruptible Uninterruptible n = absurd (n refl)

pub not_hard : (m : Mask) → is_interruptible m ≡ true → m ≢ Uninterruptible
not_hard Unmasked e h = cc h
not_hard Masked e h = cc h
not_hard Uninterruptible e h = cc e

due_now : (a b : ℕ) → a ≤ b → nat_le a b ≡ true
due_now a b h = grind arith

-- ---- who is to be stranded

pub waits_so : (s : State) (t : ℕ) (o : Option Thread) (r : Option (Reason V)) → slice_get s.threads t ≡ o → reason_of t s.blocked ≡ r → is_stranded o r ≡ true → WaitsAtCell s t
waits_so s t None None a b e = absurd (cc e)
waits_so s t None (Some r) a b e = let k = and_parts (at_cell r) false e in absurd (cc k.1)
waits_so s t (Some th) None a b e = absurd (cc e)
waits_so s t (Some th) (Some r) a b e =
    let k = and_parts (at_cell r) (is_interruptible (mask_at th.term.frames)) e in
    record { thread = th; is = a; reason = r; waits = b; there = k.0; open_now = not_hard (mask_at th.term.frames) k.1 }

pub stranded_so : (s : State) (t : ℕ) → WaitsAtCell s t → is_stranded (slice_get s.threads t) (reason_of t s.blocked) ≡ true
stranded_so s t w =
    ap (λ o. is_stranded o (reason_of t s.blocked)) w.is ∙ (ap (is_stranded (Some w.thread)) w.waits
    ∙ (ap (λ b. b && is_interruptible (mask_at w.thread.term.frames)) w.there ∙ interruptible (mask_at w.thread.term.frames) w.open_now))

stranded_not : (s : State) (t : ℕ) → ¬ WaitsAtCell s t → is_stranded (slice_get s.threads t) (reason_of t s.blocked) ≡ false
stranded_not s t n = by (is_stranded (slice_get s.threads t) (reason_of t s.blocked)) refl
  where
    by : (b : Bool) → is_stranded (slice_get s.threads t) (reason_of t s.blocked) ≡ b → b ≡ false
    by true e = absurd (n (waits_so s t (slice_get s.threads t) (reason_of t s.blocked) refl refl e))
    by false e = refl

pub all_are : {s : State} {n : ℕ} {ts : List ℕ} → AllThatWait s n ts → stranded_below n s ≡ ts
all_are of_none = refl
all_are {s} (waits_too {n = k} {ts = us} a w) =
    ap (λ b. stranded_below k s ++ cond b (k ∷ []) []) (stranded_so s k w) ∙ ap (λ vs. vs ++ k ∷ []) (all_are a)
all_are {s} (waits_not {n = k} {ts = us} a w) =
    ap (λ b. stranded_below k s ++ cond b (k ∷ []) []) (stranded_not s k w) ∙ (append-nil (stranded_below k s) ∙ all_are a)

all_of : (s : State) (n : ℕ) → AllThatWait s n (stranded_below n s)
all_of s zero = of_none
all_of s (suc n) = by (all_of s n) (is_stranded (slice_get s.threads n) (reason_of n s.blocked)) refl
  where
    by : AllThatWait s n (stranded_below n s) → (b : Bool) → is_stranded (slice_get s.threads n) (reason_of n s.blocked) ≡ b → AllThatWait s (suc n) (stranded_below (suc n) s)
    by rest true e =
        subst (λ b. AllThatWait s (suc n) (stranded_below n s ++ cond b (n ∷ []) [])) (sym e)
        (waits_too rest (waits_so s n (slice_get s.threads n) (reason_of n s.blocked) refl refl e))
    by rest false e =
        subst (λ b. AllThatWait s (suc n) (stranded_below n s ++ cond b (n ∷ []) [])) (sym e)
        (subst (AllThatWait s (suc n)) (sym (append-nil (stranded_below n s)))
        (waits_not rest (λ w. let z : true ≡ false = sym (stranded_so s n w) ∙ e in cc z)))

-- ---- a thread that is there

finds : (P : Type 0) (o : Option Thread) (k : Thread → Option State) (u : State) → ((th : Thread) → o ≡ Some th → th.finished ≡ false → k th ≡ Some u → P) → on_thread o k ≡ Some u → P
finds P None k u f h = absurd (cc h)
finds P (Some th) k u f h = tested P th.finished None (k th) u (λ b g. absurd (cc g)) (λ b g. f th refl b g) h

-- ---- a case goes on

ended : (t : ℕ) (th : Thread) (line : List ℕ) (s : State) → closed t th line s ≡ finished t th (told line s)
ended t th line s = refl

pub quietly : (t : ℕ) (th : Thread) (s : State) → closed t th [] s ≡ finished t th s
quietly t th s =
    ap (λ x. resume_all (throwers (flying_to t (flight_of s.blocked))) (Ret UnitValue) (record s { threads = slice_set s.threads t (record { term = th.term; finished = true }); errors = x })) (append-nil s.errors)

module _ (code : Code) where
  -- where main runs, what an entry leaves is what its kind leaves
  goes : (s : State) (e : Entry) (u : State) → MainRuns s → entries.entered code s e ≡ Some u → next code s e ≡ Some u
  goes s e u m h = on_running (slice_get s.threads 0) m.0 (λ th. entries.entered code s e) m.1.0 m.1.1 ∙ h

  on : (s : State) (t : ℕ) (th : Thread) (k : Thread → Option State) (u : State) → Unfinished t th s → k th ≡ Some u → on_thread (slice_get s.threads t) k ≡ Some u
  on s t th k u h g = on_running (slice_get s.threads t) th k h.0 h.1 ∙ g

  moves : (t k : ℕ) (th : Thread) (x : Term) (s : State) → is_blocked t s.blocked ≡ false → locals code (suc k) th.term ≡ Some x → local_entry code t (suc k) th s ≡ Some (move t x s)
  moves t k th x s b e = cond-false (is_blocked t s.blocked) None _ b ∙ ap (moved t s) e

  operates : (t : ℕ) (th : Thread) (p : Operation) (s u : State) → is_blocked t s.blocked ≡ false → th.term.part ≡ part.Performs p → Performs t (mask_at th.term.frames) p s u → op_entry t th s ≡ Some u
  operates t th p s u b e h = cond-false (is_blocked t s.blocked) None _ b ∙ (ap (λ q. at_operation q (λ r. operated t (mask_at th.term.frames) r s)) e ∙ performed_is h)

  receptive : (t : ℕ) (th : Thread) (f : Flying) (fs : List Flying) (s : State) → is_receptive t th.term s ≡ true → flying_to t (flight_of s.blocked) ≡ f ∷ fs →
      receive_entry t th s ≡ Some (resume t (Throw f.exn) (answer f.thrower UnitValue s))
  receptive t th f fs s r e = cond-true (is_receptive t th.term s) _ None r ∙ ap (λ gs. received t gs s) e

  pub open_so : (t : ℕ) (th : Thread) (s : State) (b c : Bool) → is_throw th.term.part ≡ false → is_blocked t s.blocked ≡ b → is_open b (mask_at th.term.frames) ≡ true → is_receptive t th.term s ≡ true
  open_so t th s b c n w o = ap (λ x. not x && is_open (is_blocked t s.blocked) (mask_at th.term.frames)) n ∙ (ap (λ x. is_open x (mask_at th.term.frames)) w ∙ o)

  ends : (t : ℕ) (th : Thread) (p : Part) (s u : State) → th.term.frames ≡ [] → th.term.part ≡ p → finish_entry t th [] p s ≡ Some u → finish_entry t th th.term.frames th.term.part s ≡ Some u
  ends t th p s u f q h = ap (λ fs. finish_entry t th fs th.term.part s) f ∙ (ap (λ r. finish_entry t th [] r s) q ∙ h)

  strand_all : (s : State) (t : ℕ) (ts : List ℕ) → sleepers_of s.blocked ≡ [] → stranded s ≡ t ∷ ts → strand_entry (sleepers_of s.blocked) s ≡ Some (resume_all (t ∷ ts) (Throw BlockedIndefinitely) s)
  strand_all s t ts e h = ap (λ ss. strand_entry ss s) e ∙ ap (λ us. strand us s) h

pub entered_is : {code : Code} {s : State} {e : Entry} {u : State} → Enters code s e u → next code s e ≡ Some u
entered_is {code} (local {t} {k} {th} {x} {s = r} m h b l) =
    goes code r (entry.Local t (suc k)) (move t x r) m (on code r t th (λ q. local_entry code t (suc k) q r) (move t x r) h (moves code t k th x r b l))
entered_is {code} (operation {t} {th} {p} {s = r} {u = w} m h b q c) =
    goes code r (entry.Op t) w m (on code r t th (λ x. op_entry t x r) w h (operates code t th p r w b q c))
entered_is {code} (receives_while_it_runs {t} {th} {f} {fs} {s = r} m h n b k e) =
    goes code r (entry.Receive t) _ m (on code r t th (λ x. receive_entry t x r) _ h
    (receptive code t th f fs r (open_so code t th r false false n b (ap is_unmasked k)) e))
entered_is {code} (receives_while_it_waits {t} {th} {f} {fs} {s = r} m h n b k e) =
    goes code r (entry.Receive t) _ m (on code r t th (λ x. receive_entry t x r) _ h
    (receptive code t th f fs r (open_so code t th r true true n b (interruptible (mask_at th.term.frames) k)) e))
entered_is {code} (wakes {t} {due} {s = r} m h d) =
    goes code r (entry.Wake t) _ m (ap (λ o. woken t o r) h ∙ cond-true (nat_le due r.clock) _ None (due_now due r.clock d))
entered_is {code} (finishes_by_a_value {t} {th} {a} {s = r} m h f p) =
    goes code r (entry.Finish t) _ m (on code r t th (λ x. finish_entry t x x.term.frames x.term.part r) _ h
    (ends code t th (Ret a) r _ f p (ap Some (quietly t th r))))
entered_is {code} (main_finishes_by_an_exception {th} {e} {s = r} h f p) =
    goes code r (entry.Finish 0) _ (th, h) (on code r 0 th (λ x. finish_entry 0 x x.term.frames x.term.part r) _ h
    (ends code 0 th (Throw e) r _ f p refl))
entered_is {code} (finishes_silently {t} {th} {e} {s = r} m h f p i) =
    goes code r (entry.Finish (suc t)) _ m (on code r (suc t) th (λ x. finish_entry (suc t) x x.term.frames x.term.part r) _ h
    (ends code (suc t) th (Throw e) r _ f p (ap (λ x. Some (closed (suc t) th x r)) (cond-true (is_silent e) [] _ i) ∙ ap Some (quietly (suc t) th r))))
entered_is {code} (finishes_with_a_line {t} {th} {e} {s = r} m h f p i) =
    goes code r (entry.Finish (suc t)) _ m (on code r (suc t) th (λ x. finish_entry (suc t) x x.term.frames x.term.part r) _ h
    (ends code (suc t) th (Throw e) r _ f p (ap (λ x. Some (closed (suc t) th x r)) (cond-false (is_silent e) [] _ i))))
entered_is {code} (ticks {at} {s = r} m h) =
    goes code r (entry.Tick at) _ m (cond-true (nat_le r.clock at) _ None (due_now r.clock at h))
entered_is {code} (strands {t} {ts} {s = r} m e a) =
    goes code r entry.Stranded _ m (strand_all code r t ts e (all_are a))

-- ---- what goes on has a case

module _ (code : Code) (s u : State) (m : MainRuns s) where
  abbrev Case : Entry → Type 0
  Case e = Enters code s e u

  is : {e : Entry} {r : State} → Enters code s e r → Some r ≡ Some u → Case e
  is {e} {r} c h = landed (Enters code s e) r u h c

  is_moved : (t k : ℕ) (th : Thread) → Unfinished t th s → is_blocked t s.blocked ≡ false → (o : Option Term) → locals code (suc k) th.term ≡ o → moved t s o ≡ Some u → Case (entry.Local t (suc k))
  is_moved t k th h b None e g = absurd (cc g)
  is_moved t k th h b (Some x) e g = is (local m h b e) g

  is_local : (t k : ℕ) (th : Thread) → Unfinished t th s → local_entry code t k th s ≡ Some u → Case (entry.Local t k)
  is_local t zero th h g = absurd (cc g)
  is_local t (suc k) th h g =
      tested (Case (entry.Local t (suc k))) (is_blocked t s.blocked) None _ u (λ b x. absurd (cc x)) (λ b x. is_moved t k th h b (locals code (suc k) th.term) refl x) g

  is_operation : (t : ℕ) (th : Thread) → Unfinished t th s → is_blocked t s.blocked ≡ false → (p : Part) → th.term.part ≡ p → at_operation p (λ r. operated t (mask_at th.term.frames) r s) ≡ Some u → Case (entry.Op t)
  is_operation t th h b (part.Performs p) e g = operation m h b e (performing.case_of t (mask_at th.term.frames) p s u g)
  is_operation t th h b _ e g = absurd (cc g)

  is_op : (t : ℕ) (th : Thread) → Unfinished t th s → op_entry t th s ≡ Some u → Case (entry.Op t)
  is_op t th h g = tested (Case (entry.Op t)) (is_blocked t s.blocked) None _ u (λ b x. absurd (cc x)) (λ b x. is_operation t th h b th.term.part refl x) g

  is_received : (t : ℕ) (th : Thread) → Unfinished t th s → is_receptive t th.term s ≡ true → (fs : List Flying) → flying_to t (flight_of s.blocked) ≡ fs → received t fs s ≡ Some u → Case (entry.Receive t)
  is_received t th h r [] e g = absurd (cc g)
  is_received t th h r (f ∷ fs) e g =
      let k = and_parts (not (is_throw th.term.part)) (is_open (is_blocked t s.blocked) (mask_at th.term.frames)) r in
      by (is_blocked t s.blocked) refl (not_true (is_throw th.term.part) k.0) k.1
    where
      by : (b : Bool) → is_blocked t s.blocked ≡ b → is_throw th.term.part ≡ false → is_open (is_blocked t s.blocked) (mask_at th.term.frames) ≡ true → Case (entry.Receive t)
      by true b n o = is (receives_while_it_waits m h n b (not_hard (mask_at th.term.frames) (ap (λ x. is_open x (mask_at th.term.frames)) (sym b) ∙ o)) e) g
      by false b n o = is (receives_while_it_runs m h n b (unmasked (mask_at th.term.frames) (ap (λ x. is_open x (mask_at th.term.frames)) (sym b) ∙ o)) e) g

  is_receive : (t : ℕ) (th : Thread) → Unfinished t th s → receive_entry t th s ≡ Some u → Case (entry.Receive t)
  is_receive t th h g =
      tested (Case (entry.Receive t)) (is_receptive t th.term s) _ None u (λ r x. is_received t th h r (flying_to t (flight_of s.blocked)) refl x) (λ r x. absurd (cc x)) g

  is_wake : (t : ℕ) (o : Option (Reason V)) → reason_of t s.blocked ≡ o → woken t o s ≡ Some u → Case (entry.Wake t)
  is_wake t (Some (Sleeping due)) e g = tested (Case (entry.Wake t)) (nat_le due s.clock) _ None u (λ d x. is (wakes m e (leb-true due s.clock d)) x) (λ d x. absurd (cc x)) g
  is_wake t _ e g = absurd (cc g)

  is_uncaught : (t : ℕ) (th : Thread) (e : Exn) → Unfinished t th s → th.term.frames ≡ [] → th.term.part ≡ Throw e → Some (closed t th (uncaught_line t e) s) ≡ Some u → Case (entry.Finish t)
  is_uncaught zero th e h f p g = is (main_finishes_by_an_exception h f p) g
  is_uncaught (suc t) th e h f p g = by (is_silent e) refl
    where
      by : (b : Bool) → is_silent e ≡ b → Case (entry.Finish (suc t))
      by true i = is (finishes_silently m h f p i) (sym (ap (λ x. Some (closed (suc t) th x s)) (cond-true (is_silent e) [] _ i) ∙ ap Some (quietly (suc t) th s)) ∙ g)
      by false i = is (finishes_with_a_line m h f p i) (sym (ap (λ x. Some (closed (suc t) th x s)) (cond-false (is_silent e) [] _ i)) ∙ g)

  is_finish : (t : ℕ) (th : Thread) → Unfinished t th s → (fs : List Frame) → th.term.frames ≡ fs → (p : Part) → th.term.part ≡ p → finish_entry t th fs p s ≡ Some u → Case (entry.Finish t)
  is_finish t th h [] f (Ret a) p g = is (finishes_by_a_value m h f p) (sym (ap Some (quietly t th s)) ∙ g)
  is_finish t th h [] f (Throw e) p g = is_uncaught t th e h f p g
  is_finish t th h [] f (Do a env) p g = absurd (cc g)
  is_finish t th h [] f (part.Performs q) p g = absurd (cc g)
  is_finish t th h (x ∷ fs) f q p g = absurd (cc g)

  is_strand : sleepers_of s.blocked ≡ [] → (ts : List ℕ) → stranded s ≡ ts → strand ts s ≡ Some u → Case entry.Stranded
  is_strand e [] k g = absurd (cc g)
  is_strand e (t ∷ ts) k g = is (strands m e (subst (AllThatWait s (length s.threads)) k (all_of s (length s.threads)))) g

  is_stranding : (ss : List Sleeper) → sleepers_of s.blocked ≡ ss → strand_entry ss s ≡ Some u → Case entry.Stranded
  is_stranding [] e g = is_strand e (stranded s) refl g
  is_stranding (r ∷ rs) e g = absurd (cc g)

  is_entered : (e : Entry) → entries.entered code s e ≡ Some u → Case e
  is_entered (entry.Local t k) g = finds (Case (entry.Local t k)) (slice_get s.threads t) _ u (λ th e f x. is_local t k th (e, f) x) g
  is_entered (entry.Op t) g = finds (Case (entry.Op t)) (slice_get s.threads t) _ u (λ th e f x. is_op t th (e, f) x) g
  is_entered (entry.Receive t) g = finds (Case (entry.Receive t)) (slice_get s.threads t) _ u (λ th e f x. is_receive t th (e, f) x) g
  is_entered (entry.Wake t) g = is_wake t (reason_of t s.blocked) refl g
  is_entered (entry.Finish t) g = finds (Case (entry.Finish t)) (slice_get s.threads t) _ u (λ th e f x. is_finish t th (e, f) th.term.frames refl th.term.part refl x) g
  is_entered (entry.Tick at) g = tested (Case (entry.Tick at)) (nat_le s.clock at) _ None u (λ d x. is (ticks m (leb-true s.clock at d)) x) (λ d x. absurd (cc x)) g
  is_entered entry.Stranded g = is_stranding (sleepers_of s.blocked) refl g

pub case_of : (code : Code) (s : State) (e : Entry) (u : State) → next code s e ≡ Some u → Enters code s e u
case_of code s e u h =
    finds (Enters code s e u) (slice_get s.threads 0) (λ main. entries.entered code s e) u (λ main is f g. is_entered code s u (main, (is, f)) e g) h
