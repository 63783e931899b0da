-- Every entry of a typed state keeps a book that fits, or leads to one; and what follows for the runs of an accepted script.
use Rattle.std.proofs.Common.{◌≡◌, ◌≢◌, ◌==◌, ℕ, zero, suc, List, [], ◌∷◌, length, slice_get, slice_set, Bool, true, false, cond, ◌&&◌, Option, Some, None, refl, sym, ap, ◌∙◌, subst, ⊎_elim}
use Rattle.hs_base.specs.declared.tree.script.Script.{Script}
use Rattle.hs_base.specs.declared.exn.Exn.{Exn}
use Rattle.hs_base.specs.declared.exn.Exn.TheVariants.{BlockedIndefinitely}
use Rattle.hs_rules.specs.declared.entry.Entry.{Entry}
use Rattle.hs_rules.specs.declared.entry.Entry.TheVariants as entry
use Rattle.rules_expansion.specs.trees.Programs.{Fn, script_of}
use Rattle.rules_expansion.specs.declared.primitive.Primitive.TheVariants.{PutMVar}
use Rattle.rules_expansion.specs.Core.{Core}
use Rattle.rules_meaning.specs.Values.{V, Cell, UnitValue}
use Rattle.rules_meaning.specs.CoreMeaning.{Code, code_of}
use Rattle.rules_typing.specs.TypingScripts.{Accepted}
use Rattle.rules_waiting.specs.Waiting.{Reason, Taking, Putting, Throwing, Sleeping, Waiting, Flying, reason_of, at_cell, flight_of, flying_to, first_thrown}
use Rattle.hs_rules.specs.Terms.{Operation, Calls, Ret, Throw, Term, mask_at}
use Rattle.hs_rules.specs.LocalRules.{local, on_term, locals}
use Rattle.hs_rules.specs.State.{Thread, State, move, resume, answer, resume_all, first}
use Rattle.hs_rules.specs.Entries.{is_throw, is_unmasked, is_interruptible, closed, mask_of, is_stranded, next}
use Rattle.hs_rules.specs.Runs.{Run, IsRun}
use Rattle.hs_laws.specs.BracketLaw.{count}
use Rattle.hs_laws.specs.BracketPhases.{Blocks}
use Rattle.hs_laws.proofs.Lists.{cond_true, cond_false, equal_or, item_same, item_other, Each, Found, first_found, OnReason, reason_found, blocked_found, throws, throws_at, those, throw_is_first, throwers_are, Ones, ones_changed, ones_those_if}
use Rattle.hs_laws.proofs.States.{Holds, Waits, Strands, strands_each, throws_apart, ended, ended_holds, bare_owes_nothing, run_kept}
use Rattle.hs_laws.proofs.Expanded.{fine_actions, run_from_main, run_holds}
use Rattle.hs_progress.specs.TypedStates.{HeadsKept, Purpose, Store, has, PartTyped, TermTyped, ThreadTyped, Sound, TypedState, Follows, Stays}
use Rattle.hs_progress.specs.GoingOn.{StepsOrStops}
use Rattle.hs_progress.proofs.Heads.{heads_kept}
use Rattle.hs_progress.proofs.Moves.{local_goes}
use Rattle.hs_progress.proofs.Sounds.{part_op}
use Rattle.hs_progress.proofs.Entries.{runs_are_typed, next_typed}
use Rattle.scope_laws.specs.ScopePhases.{Role, Plain, Running, Fine, Held, held_do, no_frames}
use Rattle.scope_laws.specs.ScopesKept.{IsForValues, IsForEnd, at_values, CellFits, WaitsFor, AllWaitFor, Book, HeldThread, Fits, Scoped}
use Rattle.scope_laws.proofs.Forms as forms
use Rattle.scope_laws.proofs.Later.{Later}
use Rattle.scope_laws.proofs.Steps.{Keeps, Goes, local_kept}
use Rattle.scope_laws.proofs.Answers.{interrupted, unmasked}
use Rattle.scope_laws.proofs.Threads.{each_both, put_waits, lines_each, plain_at, FitsIn, threads_set, resume_fits, resume_all_fits, fits_still, fits_blocked, fits_patient, IsPatient}
use Rattle.scope_laws.proofs.Typed.{Kept, part_sure}
use Rattle.scope_laws.proofs.Books.{held_thread}
use Rattle.scope_laws.proofs.Plain.{stands}
use Rattle.scope_laws.proofs.Operations.{KeptAt, performed_kept}
use Rattle.hs_laws.specs.cases.Cases as row
use Rattle.hs_laws.proofs.cases_lemmas.Entering.{case_of, all_are, interruptible}
use Rattle.hs_laws.proofs.Changes.{Open, receiving, closing}
use Rattle.hs_laws.specs.Standing.{IsBare}

-- ---- what a store says of cells stays

values_stay : (q q' : Option Purpose) → ((p : Purpose) → q ≡ Some p → q' ≡ Some p) → IsForValues q → IsForValues q'
values_stay None q' k h = absurd h
values_stay (Some p) q' k h = subst IsForValues (sym (k p refl)) h

end_stays : (q q' : Option Purpose) → ((p : Purpose) → q ≡ Some p → q' ≡ Some p) → IsForEnd q → IsForEnd q'
end_stays None q' k h = absurd h
end_stays (Some p) q' k h = subst IsForEnd (sym (k p refl)) h

content_stays : (r : Role) (c : Option (Option V)) (q q' : Option Purpose) → ((p : Purpose) → q ≡ Some p → q' ≡ Some p) → CellFits r c q → CellFits r c q'
content_stays Plain c q q' k h = tt
content_stays _ c q q' k h = (h.0, end_stays q q' k h.1)

module _ (cells cells' : List Purpose) (kept : (m : ℕ) (p : Purpose) → slice_get cells m ≡ Some p → slice_get cells' m ≡ Some p) where
  waits_stay : (r : Reason V) → WaitsFor cells r → WaitsFor cells' r
  waits_stay (Taking m) h = values_stay (slice_get cells m) (slice_get cells' m) (kept m) h
  waits_stay (Putting m a) h = values_stay (slice_get cells m) (slice_get cells' m) (kept m) h
  waits_stay _ h = tt

  lines_stay : (ws : List (Waiting V)) → AllWaitFor cells ws → AllWaitFor cells' ws
  lines_stay [] h = tt
  lines_stay (w ∷ ws) h = (waits_stay w.reason h.0, lines_stay ws h.1)

  grown : (b : Book) (s : State) → Fits cells b s → Fits cells' b s
  grown b s h = record {
    threads = λ u. held_thread cells cells' b b u (slice_get s.threads u)
        (record { nearly = record { known = λ m. values_stay (slice_get cells m) (slice_get cells' m) (kept m); own = λ m i. i; child = λ m c y. y; runs = λ m p e. e }; fresh = λ m e. e; ended = λ m e. e }) refl refl (h.threads u);
    contents = λ m. content_stays (b.roles m) (slice_get s.cells m) (slice_get cells m) (slice_get cells' m) (kept m) (h.contents m);
    once = h.once;
    child = h.child;
    lines = lines_stay s.blocked h.lines;
  }

both_true : (a c : Bool) → a && c ≡ true → c ≡ true
both_true true c e = e
both_true false c e = absurd (cc e)

module _ (script : Script) (accepted : Accepted script) (st st' : Store) (kept : Kept st st'.cells) (b : Book) where
  abbrev ds : List Fn
  ds = script_of script

  abbrev code : Code
  code = code_of (script_of script)

  abbrev heads : HeadsKept ds
  heads = heads_kept script accepted

  abbrev values : ℕ → Type 0
  values m = at_values st'.cells m

  -- the state that is left has a book
  abbrev pub Left : State → Type 0
  Left u = KeptAt ds st st' kept b u

  by_same : (v : State) → Fits st'.cells b v → Left v
  by_same v h d = (b, h)

  -- ---- local rules

  goes_on : (t : ℕ) (o o' : List ℕ) (q : Option Term) → Keeps values b.roles t (b.owed t) o o' → Goes values b.roles t (b.owed t) q o' → Goes values b.roles t (b.owed t) q o
  goes_on t o o' None k h = tt
  goes_on t o o' (Some y) k h = (h.0, (λ m p c e. h.1 m p c e ∙ k m p c e), h.2)

  goes_more : (t : ℕ) (o : List ℕ) (q : Option Term) (k : Term → Option Term) → Goes values b.roles t (b.owed t) q o → ((x : Term) (o' : List ℕ) → q ≡ Some x → Held values b.roles t (b.owed t) x.part x.frames o' → Goes values b.roles t (b.owed t) (k x) o') → Goes values b.roles t (b.owed t) (on_term q k) o
  goes_more t o None k g f = tt
  goes_more t o (Some x) k g f = goes_on t o g.0 (k x) g.1 (f x g.0 refl g.2)

  typed_next : (x y : Term) (q : Option Term) → q ≡ Some y → StepsOrStops (has st) ds x.part x.frames q → TermTyped (has st) ds y
  typed_next x y None e h = absurd (cc e)
  typed_next x y (Some z) e h = let same : z ≡ y = cc e in subst (TermTyped (has st) ds) same h

  locals_kept : (t k : ℕ) (x : Term) {o : List ℕ} → TermTyped (has st) ds x → Held values b.roles t (b.owed t) x.part x.frames o → Goes values b.roles t (b.owed t) (locals code k x) o
  locals_kept t zero x {o} ty h = (o, (λ m p c e. refl), h)
  locals_kept t (suc k) x {o} ty h =
      goes_more t o (local code x.part x.frames) (λ u. locals code k u)
      (local_kept values b.roles t (b.owed t) code (forms.fine_actions ds) (part_sure st st'.cells kept script accepted ty.part) h)
      (λ y o' e g. locals_kept t k y (typed_next x y (local code x.part x.frames) e (local_goes (has st) script accepted heads ty.part ty.frames)) g)

  module _ (s : State) (g : Holds s) (d : Sound ds st s.threads s.cells) (h : Fits st'.cells b s) where
    typed_at : (t : ℕ) (th : Thread) → slice_get s.threads t ≡ Some th → ThreadTyped (has st) ds (st.sorts t) (Some th)
    typed_at t th is = subst (ThreadTyped (has st) ds (st.sorts t)) is (d.threads t)

    held_at : (t : ℕ) (th : Thread) → slice_get s.threads t ≡ Some th → Held values b.roles t (b.owed t) th.term.part th.term.frames (b.guarded t)
    held_at t th is = subst (HeldThread st'.cells b t) is (h.threads t)

    waits_both : Each (λ u r. Waits s.threads u r × WaitsFor st'.cells r) s.blocked
    waits_both = each_both (Waits s.threads) (λ u. WaitsFor st'.cells) s.blocked g.waits (lines_each st'.cells s.blocked h.lines)

    -- a child doesn't wait at its put
    no_put : (t : ℕ) (r : Reason V) {op : Operation} → Blocks r op → WaitsFor st'.cells r → (m p : ℕ) (a : V) → op ≡ Calls PutMVar (Cell m ∷ a ∷ []) → b.roles m ≡ Running p t → ⊥
    no_put t r q w m p a e runs = let x : Plain ≡ Running p t = sym (plain_at st'.cells b s m h (put_waits st'.cells r m a q w e)) ∙ runs in cc x

    module _ (t : ℕ) (th : Thread) (is : slice_get s.threads t ≡ Some th) where
      module _ (o : List ℕ) (keeps : Keeps values b.roles t (b.owed t) (b.guarded t) o) where
        abbrev later : Book
        later = record { roles = b.roles; guarded = λ u. cond (u == t) o (b.guarded u); owed = b.owed }

        own : later.guarded t ≡ o
        own = ⊎_elim (λ e. cond_true (t == t) o (b.guarded t) e.0) (λ e. absurd (e.1 refl)) (equal_or t t)

        other : (u : ℕ) → u ≢ t → later.guarded u ≡ b.guarded u
        other u n = ⊎_elim (λ e. absurd (n e.1)) (λ e. cond_false (u == t) o (b.guarded u) e.0) (equal_or u t)

        same_roles : (u : ℕ) → Later values values b.roles b.roles u
        same_roles u = record { nearly = record { known = λ m k. k; own = λ m i. i; child = λ m c y. y; runs = λ m p e. e }; fresh = λ m e. e; ended = λ m e. e }

        still_once : (m p c : ℕ) → b.roles m ≡ Running p c → count m (later.guarded p) ≡ 1
        still_once m p c e =
            ⊎_elim
            (λ f. ap (λ u. count m (later.guarded u)) f.1 ∙ (ap (count m) own ∙ (keeps m p c e ∙ (ap (λ u. count m (b.guarded u)) (sym f.1) ∙ h.once m p c e))))
            (λ f. ap (count m) (other p f.1) ∙ h.once m p c e)
            (equal_or p t)

        move_fits : (x : Term) → Held values b.roles t (b.owed t) x.part x.frames o → Fits st'.cells later (move t x s)
        move_fits x k = record {
          threads = threads_set st'.cells later s.threads t (slice_get s.threads t) x refl (λ u n. held_thread st'.cells st'.cells b later u (slice_get s.threads u) (same_roles u) (other u n) refl (h.threads u))
              (λ y e. subst (Held values b.roles t (b.owed t) x.part x.frames) (sym own) k) (λ e. let q : ◌≡◌ {A = Option Thread} (Some th) None = sym is ∙ e in absurd (cc q));
          contents = h.contents;
          once = still_once;
          child = h.child;
          lines = h.lines;
        }

      move_kept : (x : Term) → Goes values b.roles t (b.owed t) (Some x) (b.guarded t) → Left (move t x s)
      move_kept x k d' = (later k.0 k.1, move_fits k.0 k.1 x k.2)

      -- ---- Receive
      hit : (e : Exn) → is_throw th.term.part ≡ false → Open s t th → FitsIn st'.cells b (Throw e) t (slice_get s.threads t)
      hit e n o =
          ⊎_elim
          (λ c. let w = blocked_found (λ u r. Waits s.threads u r × WaitsFor st'.cells r) t s.blocked c.0 waits_both in
          fits_blocked st'.cells b t w.0 (Throw e) (slice_get s.threads t) w.1.0.0 (h.threads t)
          (λ x same op q p. interrupted values b.roles t (b.owed t) w.0 e q (no_put t w.0 q w.1.1) (let y : ◌≡◌ {A = Option Thread} (Some th) (Some x) = sym is ∙ same in let z : th ≡ x = cc y in subst (λ v. is_interruptible (mask_at v.term.frames) ≡ true) z (interruptible (mask_at th.term.frames) c.1)) p))
          (λ c. subst (FitsIn st'.cells b (Throw e) t) (sym is) (unmasked values b.roles t (b.owed t) e (ap is_unmasked c.1) n (held_at t th is)))
          o

      received_kept : (w : Flying) (ws : List Flying) → is_throw th.term.part ≡ false → Open s t th → flying_to t (flight_of s.blocked) ≡ w ∷ ws → Left (resume t (Throw w.exn) (answer w.thrower UnitValue s))
      received_kept w ws n o e =
          let f = subst (λ gs. Found (Waits s.threads) (throws t) (first_thrown gs)) e (subst (Found (Waits s.threads) (throws t)) (sym (throw_is_first t s.blocked)) (first_found (Waits s.threads) (throws t) s.blocked g.waits)) in
          let apart : t ≢ w.thrower = λ same. throws_apart t w.thrower f.0 w.exn f.1.1 f.2 (sym same) in
          by_same (resume t (Throw w.exn) (answer w.thrower UnitValue s))
          (resume_fits st'.cells b (answer w.thrower UnitValue s) t (Throw w.exn)
          (resume_fits st'.cells b s w.thrower (Ret UnitValue) h (fits_patient st'.cells b s w.thrower f.0 UnitValue h (patient f.0 w.exn f.2) f.1.0))
          (fits_still st'.cells b s w.thrower t (Ret UnitValue) (Throw w.exn) apart (hit w.exn n o)))
        where
          patient : (r : Reason V) (e : Exn) → throws t r ≡ Some e → IsPatient r
          patient (Throwing u x) e q = tt
          patient _ e q = absurd (cc q)

      -- ---- Finish
      ended_fits : (line : List ℕ) → Fits st'.cells b (ended s t th line)
      ended_fits line =
          let new : Thread = record { term = th.term; finished = true } in
          record {
            threads = λ u. ⊎_elim
                (λ e. subst (λ v. HeldThread st'.cells b v (slice_get (slice_set s.threads t new) v)) (sym e.1) (subst (HeldThread st'.cells b t) (sym (item_same s.threads t th new is)) (held_at t th is)))
                (λ e. subst (HeldThread st'.cells b u) (sym (item_other s.threads t u new e.1)) (h.threads u))
                (equal_or u t);
            contents = h.contents;
            once = h.once;
            child = h.child;
            lines = h.lines;
          }

      throwers_fit : (r : Reason V) (u : ℕ) → throws_at t r ≡ true → IsPatient r
      throwers_fit (Throwing w x) u e = tt
      throwers_fit _ u e = absurd (cc e)

      closed_kept : (line : List ℕ) → IsBare th → Left (closed t th line s)
      closed_kept line i =
          let k = ended_holds s t th line g is i (bare_owes_nothing s t th g is i) in
          by_same (closed t th line s)
          (subst (λ us. Fits st'.cells b (resume_all us (Ret UnitValue) (ended s t th line))) (sym (throwers_are t s.blocked))
          (resume_all_fits st'.cells b (those (λ u. throws_at t) s.blocked) (Ret UnitValue) (ended s t th line) (ended_fits line)
          (ones_those_if (Waits (ended s t th line).threads) (λ u. FitsIn st'.cells b (Ret UnitValue) u (slice_get (ended s t th line).threads u)) (λ u. throws_at t) s.blocked
          (λ u r q w. fits_patient st'.cells b (ended s t th line) u r UnitValue (ended_fits line) (throwers_fit r u q) w.0) k.waits)))

    -- ---- Stranded
    strands_fit : (t : ℕ) (o : Option (Reason V)) → OnReason (λ r. Waits s.threads t r × WaitsFor st'.cells r) o → is_stranded (slice_get s.threads t) o ≡ true → FitsIn st'.cells b (Throw BlockedIndefinitely) t (slice_get s.threads t)
    strands_fit t None w e = absurd (cc e)
    strands_fit t (Some r) w e =
        fits_blocked st'.cells b t r (Throw BlockedIndefinitely) (slice_get s.threads t) w.0.0 (h.threads t)
        (λ x same op q p. interrupted values b.roles t (b.owed t) r BlockedIndefinitely q (no_put t r q w.1) (subst (λ o. is_interruptible (mask_of o) ≡ true) same (both_true (at_cell r) (is_interruptible (mask_of (slice_get s.threads t))) e)) p)

    -- ---- every entry
    local_kept_so : {t k : ℕ} {u : State} → row.Enters code s (entry.Local t k) u → Left u
    local_kept_so (row.local {t} {k} {th} {x} m i n l) =
        let ty = typed_at t th i.0 in
        move_kept t th i.0 x (subst (λ q. Goes values b.roles t (b.owed t) q (b.guarded t)) l (locals_kept t (suc k) th.term (record { sort = st.sorts t; part = ty.0; frames = ty.1 }) (held_at t th i.0)))

    op_kept : {t : ℕ} {u : State} → row.Enters code s (entry.Op t) u → Left u
    op_kept (row.operation {t} {th} {p = op} m i n q c) =
        performed_kept ds st st' kept b s t th i.0 g h (record { th = th; is = i.0; part = q; unfinished = i.1; running = n; holds = g })
        (subst (λ z. Held values b.roles t (b.owed t) z th.term.frames (b.guarded t)) q (held_at t th i.0))
        (part_op ds st (subst (λ z. PartTyped (has st) ds z (st.sorts t)) q (typed_at t th i.0).0)) c

    wake_kept : {t : ℕ} {u : State} → row.Enters code s (entry.Wake t) u → Left u
    wake_kept (row.wakes {t} {due} m q l) =
        let w : Waits s.threads t (Sleeping due) = subst (OnReason (Waits s.threads t)) q (reason_found (Waits s.threads) t s.blocked g.waits) in
        by_same (answer t UnitValue s) (resume_fits st'.cells b s t (Ret UnitValue) h (fits_patient st'.cells b s t (Sleeping due) UnitValue h tt w.0))

    tick_kept : {at : ℕ} {u : State} → row.Enters code s (entry.Tick at) u → Left u
    tick_kept (row.ticks {at} m l) = by_same (record s { clock = at }) (record { threads = h.threads; contents = h.contents; once = h.once; child = h.child; lines = h.lines })

    strand_kept : {u : State} → row.Enters code s entry.Stranded u → Left u
    strand_kept (row.strands {t} {ts} m e a) =
        by_same (resume_all (t ∷ ts) (Throw BlockedIndefinitely) s)
        (resume_all_fits st'.cells b (t ∷ ts) (Throw BlockedIndefinitely) s h
        (ones_changed (Strands s) (λ t. FitsIn st'.cells b (Throw BlockedIndefinitely) t (slice_get s.threads t)) (t ∷ ts)
        (λ t e. strands_fit t (reason_of t s.blocked) (reason_found (λ u r. Waits s.threads u r × WaitsFor st'.cells r) t s.blocked waits_both) e)
        (subst (Ones (Strands s)) (all_are a) (strands_each (length s.threads) s))))

    pub next_left : (e : Entry) (u : State) → next code s e ≡ Some u → Left u
    next_left (entry.Local t k) u n = local_kept_so (case_of code s (entry.Local t k) u n)
    next_left (entry.Op t) u n = op_kept (case_of code s (entry.Op t) u n)
    next_left (entry.Receive t) u n = let r = receiving (case_of code s (entry.Receive t) u n) in subst Left r.leaves (received_kept t r.thread r.is r.first r.others r.no_throw r.open_now r.flying)
    next_left (entry.Wake t) u n = wake_kept (case_of code s (entry.Wake t) u n)
    next_left (entry.Finish t) u n = let r = closing (case_of code s (entry.Finish t) u n) in subst Left r.leaves (closed_kept t r.thread r.is r.line r.bare)
    next_left (entry.Tick at) u n = tick_kept (case_of code s (entry.Tick at) u n)
    next_left entry.Stranded u n = strand_kept (case_of code s entry.Stranded u n)

-- ---- runs

module _ (script : Script) (accepted : Accepted script) where
  with_stands : (s : State) (d : TypedState (script_of script) s) (b : Book) → Fits d.store.cells b s → Scoped (script_of script) s
  with_stands s d b h = record { typed = d; book = b; fits = h; stands = stands (script_of script) s d b h }

  -- an entry leads to a typed state and a book that fits it
  leads : (s v : State) (e : Entry) → Holds s → (d : TypedState (script_of script) s) → (b : Book) → Fits d.store.cells b s → next (code_of (script_of script)) s e ≡ Some v → Scoped (script_of script) v
  leads s v e g d b h n =
      let f : Follows (script_of script) d.store (Stays e) v = next_typed script accepted (heads_kept script accepted) s g d.store d.sound e v n in
      let k = next_left script accepted d.store f.store f.cells b s g d.sound (grown d.store.cells f.store.cells f.cells b s h) e v n in
      let r = k f.sound in
      with_stands v (record { store = f.store; sound = f.sound }) r.0 r.1

  run_scoped : (es : List Entry) (s u : State) → Run (code_of (script_of script)) s es u → Holds s → Scoped (script_of script) s → Scoped (script_of script) u
  run_scoped [] s u r g k = subst (Scoped (script_of script)) r k
  run_scoped (e ∷ es) s u r g k =
      run_scoped es r.0 u r.2 (run_kept (code_of (script_of script)) (fine_actions (script_of script)) (e ∷ []) s r.0 (r.0, r.1, refl) g) (leads s r.0 e g k.typed k.book k.fits r.1.0)

  abbrev first_book : Book
  first_book = record { roles = λ m. Plain; guarded = λ t. []; owed = λ t. None }

  first_fits : (cells : List Purpose) (main : Core) → Fine main → Fits cells first_book (first main)
  first_fits cells main f = record { threads = threads; contents = λ m. tt; once = λ m p c e. absurd (cc e); child = λ m p c e. absurd (cc e); lines = tt }
    where
      threads : (t : ℕ) → HeldThread cells first_book t (slice_get (first main).threads t)
      threads zero = held_do f tt (no_frames refl)
      threads (suc t) = (refl, refl)

  pub scoped_of : (es : List Entry) (u : State) → IsRun (script_of script) es u → Scoped (script_of script) u
  scoped_of es u r =
      let d : TypedState (script_of script) r.0 = runs_are_typed script accepted [] r.0 (r.0, r.1, refl) in
      run_scoped es r.0 u r.2 (run_holds (script_of script) [] r.0 (r.0, r.1, refl)) (with_stands r.0 d first_book (begun d))
    where
      begun : (d : TypedState (script_of script) r.0) → Fits d.store.cells first_book r.0
      begun d = let k = run_from_main (script_of script) [] r.0 (r.0, r.1, refl) in subst (Fits d.store.cells first_book) k.2 (first_fits d.store.cells k.0 (forms.fine_main (script_of script) k.0 k.1))
