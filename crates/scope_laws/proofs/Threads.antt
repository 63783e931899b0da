-- One thread of a state moves, or some are answered, or a cell that is no scope's changes: the book fits as before.
use Rattle.std.proofs.Common.{◌≡◌, ◌≢◌, ◌==◌, ℕ, List, [], ◌∷◌, ◌++◌, slice_get, slice_set, Option, Some, None, refl, sym, ap, ◌∙◌, subst, ⊎_elim}
use Rattle.rules_meaning.specs.Values.{V, Cell, UnitValue}
use Rattle.rules_waiting.specs.OneCell.{first_put}
use Rattle.rules_waiting.specs.Waiting.{Reason, Taking, Reading, Putting, Throwing, Sleeping, Waiting, leaves, line_of}
use Rattle.rules_expansion.specs.declared.primitive.Primitive.TheVariants.{PutMVar}
use Rattle.hs_rules.specs.Terms.{Operation, Calls, Part, Ret, Performs, Frame, Term, term}
use Rattle.hs_rules.specs.State.{Thread, State, with_term, frames_of, resume, resume_all, block}
use Rattle.hs_rules.specs.Primitives.{moves_in, taken, goes_in, read_by_all, given}
use Rattle.hs_laws.specs.BracketPhases.{Blocks, OpPart, At}
use Rattle.hs_laws.proofs.Lists.{cond_cases, equal_or, item_same, item_other, Each, Found, first_found, first_of_kind, takes, puts, only_thread, reads_at, put_is_first, take_is_first, readers_are, those, Ones, ones_those_if}
use Rattle.hs_laws.proofs.States.{Holds, Waits, other_thread, reads_hold}
use Rattle.hs_progress.specs.TypedStates.{Purpose, for_values, for_end}
use Rattle.hs_progress.proofs.Sounds.{puts_is, takes_is, reads_is}
use Rattle.scope_laws.specs.ScopePhases.{Role, Plain, Running, Ended, IsOf, Held}
use Rattle.scope_laws.specs.ScopesKept.{IsForValues, IsForEnd, at_values, CellFits, WaitsFor, AllWaitFor, Book, HeldThread, Fits}
use Rattle.scope_laws.proofs.Answers.{throw_answered, delay_answered, take_answered, put_answered, read_answered}

-- ---- lines

pub lines_left : (cells : List Purpose) (t : ℕ) (ws : List (Waiting V)) → AllWaitFor cells ws → AllWaitFor cells (leaves t ws)
lines_left cells t [] h = tt
lines_left cells t (w ∷ ws) h =
    cond_cases (AllWaitFor cells) (w.thread == t) (leaves t ws) (w ∷ leaves t ws) (λ e. lines_left cells t ws h.1) (λ e. (h.0, lines_left cells t ws h.1))

pub lines_more : (cells : List Purpose) (ws : List (Waiting V)) (w : Waiting V) → AllWaitFor cells ws → WaitsFor cells w.reason → AllWaitFor cells (ws ++ w ∷ [])
lines_more cells [] w h p = (p, tt)
lines_more cells (v ∷ ws) w h p = (h.0, lines_more cells ws w h.1 p)

pub lines_each : (cells : List Purpose) (ws : List (Waiting V)) → AllWaitFor cells ws → Each (λ u. WaitsFor cells) ws
lines_each cells [] h = tt
lines_each cells (w ∷ ws) h = (h.0, lines_each cells ws h.1)

pub each_both : (P Q : ℕ → Reason V → Type 0) (ws : List (Waiting V)) → Each P ws → Each Q ws → Each (λ u r. P u r × Q u r) ws
each_both P Q [] h k = tt
each_both P Q (w ∷ ws) h k = ((h.0, k.0), each_both P Q ws h.1 k.1)

-- a put that waits is at a cell for values
pub put_waits : (cells : List Purpose) (r : Reason V) {op : Operation} (m : ℕ) (a : V) → Blocks r op → WaitsFor cells r → op ≡ Calls PutMVar (Cell m ∷ a ∷ []) → at_values cells m
put_waits cells (Taking k) m a q w e = let x = sym q ∙ e in absurd (cc x)
put_waits cells (Reading k) m a q w e = let x = sym q ∙ e in absurd (cc x)
put_waits cells (Putting k v) m a q w e = let x : Calls PutMVar (Cell k ∷ v ∷ []) ≡ Calls PutMVar (Cell m ∷ a ∷ []) = sym q ∙ e in let y : k ≡ m = cc x in subst (at_values cells) y w
put_waits cells (Throwing u x) m a q w e = let x = sym q ∙ e in absurd (cc x)
put_waits cells (Sleeping due) m a q w e = let x = sym q.1 ∙ e in absurd (cc x)

-- ---- roles

-- no cell is for values and for an end
pub not_both : (q : Option Purpose) → IsForEnd q → IsForValues q → ⊥
not_both None h f = h
not_both (Some (for_values t)) h f = h
not_both (Some (for_end t)) h f = f

pub plain_is : (r : Role) (c : Option (Option V)) (q : Option Purpose) → CellFits r c q → IsForValues q → r ≡ Plain
plain_is Plain c q h f = refl
plain_is _ c q h f = absurd (not_both q h.1 f)

-- ---- whoever throws or sleeps may be answered
abbrev pub IsPatient : Reason V → Type 0
IsPatient (Taking m) = ⊥
IsPatient (Reading m) = ⊥
IsPatient (Putting m v) = ⊥
IsPatient (Throwing u e) = Unit {0}
IsPatient (Sleeping due) = Unit {0}

-- ---- one thread with another term

module _ (cells : List Purpose) (b : Book) where
  -- at one number
  pub threads_set_at : (ts : List Thread) (t : ℕ) (o : Option Thread) (x : Term) (u : ℕ) → slice_get ts t ≡ o → (u ≢ t → HeldThread cells b u (slice_get ts u))
      → ((th : Thread) → o ≡ Some th → Held (at_values cells) b.roles t (b.owed t) x.part x.frames (b.guarded t)) → (o ≡ None → HeldThread cells b t None)
      → HeldThread cells b u (slice_get (with_term t o x ts) u)
  threads_set_at ts t None x u is old new none =
      ⊎_elim (λ e. subst (λ v. HeldThread cells b v (slice_get ts v)) (sym e.1) (subst (HeldThread cells b t) (sym is) (none refl))) (λ e. old e.1) (equal_or u t)
  threads_set_at ts t (Some th) x u is old new none =
      ⊎_elim
      (λ e. subst (λ v. HeldThread cells b v (slice_get (slice_set ts t (record { term = x; finished = th.finished })) v)) (sym e.1)
      (subst (HeldThread cells b t) (sym (item_same ts t th (record { term = x; finished = th.finished }) is)) (new th refl)))
      (λ e. subst (HeldThread cells b u) (sym (item_other ts t u (record { term = x; finished = th.finished }) e.1)) (old e.1))
      (equal_or u t)

  pub threads_set : (ts : List Thread) (t : ℕ) (o : Option Thread) (x : Term) → slice_get ts t ≡ o → ((u : ℕ) → u ≢ t → HeldThread cells b u (slice_get ts u))
      → ((th : Thread) → o ≡ Some th → Held (at_values cells) b.roles t (b.owed t) x.part x.frames (b.guarded t)) → (o ≡ None → HeldThread cells b t None)
      → (u : ℕ) → HeldThread cells b u (slice_get (with_term t o x ts) u)
  threads_set ts t o x is old new none u = threads_set_at ts t o x u is (old u) new none

  -- what may stand in a thread's place
  abbrev pub FitsIn : Part → ℕ → Option Thread → Type 0
  FitsIn p t None = Unit {0}
  FitsIn p t (Some th) = Held (at_values cells) b.roles t (b.owed t) p th.term.frames (b.guarded t)

  fits_new : (p : Part) (t : ℕ) (o : Option Thread) → FitsIn p t o → (th : Thread) → o ≡ Some th → Held (at_values cells) b.roles t (b.owed t) p (frames_of o) (b.guarded t)
  fits_new p t None h th e = absurd (cc e)
  fits_new p t (Some x) h th e = h

  none_guards : (t : ℕ) (o : Option Thread) → HeldThread cells b t o → o ≡ None → HeldThread cells b t None
  none_guards t None h e = h
  none_guards t (Some th) h e = absurd (cc e)

  pub resume_fits : (s : State) (t : ℕ) (p : Part) → Fits cells b s → FitsIn p t (slice_get s.threads t) → Fits cells b (resume t p s)
  resume_fits s t p h f = record {
    threads = threads_set s.threads t (slice_get s.threads t) (term p (frames_of (slice_get s.threads t))) refl (λ u n. h.threads u) (fits_new p t (slice_get s.threads t) f)
        (none_guards t (slice_get s.threads t) (h.threads t));
    contents = h.contents;
    once = h.once;
    child = h.child;
    lines = lines_left cells t s.blocked h.lines;
  }

  -- a thread of another number may get what it might
  pub fits_still : (s : State) (t u : ℕ) (p q : Part) → u ≢ t → FitsIn q u (slice_get s.threads u) → FitsIn q u (slice_get (resume t p s).threads u)
  fits_still s t u p q n h = subst (FitsIn q u) (sym (other_thread s.threads t u (slice_get s.threads t) (term p (frames_of (slice_get s.threads t))) n)) h

  -- some threads get the same part, in turn: a thread that had it may get it again
  again : (s : State) (t u : ℕ) (p : Part) → FitsIn p t (slice_get s.threads t) → FitsIn p u (slice_get s.threads u) → FitsIn p u (slice_get (resume t p s).threads u)
  again s t u p f h =
      ⊎_elim
      (λ e. subst (λ v. FitsIn p v (slice_get (resume t p s).threads v)) (sym e.1) (same (slice_get s.threads t) refl f))
      (λ e. fits_still s t u p p e.1 h)
      (equal_or u t)
    where
      same : (o : Option Thread) → slice_get s.threads t ≡ o → FitsIn p t o → FitsIn p t (slice_get (with_term t o (term p (frames_of o)) s.threads) t)
      same None e g = subst (FitsIn p t) (sym e) tt
      same (Some th) e g = subst (FitsIn p t) (sym (item_same s.threads t th (record { term = term p th.term.frames; finished = th.finished }) e)) g

  ones_again : (s : State) (t : ℕ) (p : Part) (us : List ℕ) → FitsIn p t (slice_get s.threads t) → Ones (λ u. FitsIn p u (slice_get s.threads u)) us → Ones (λ u. FitsIn p u (slice_get (resume t p s).threads u)) us
  ones_again s t p [] f h = tt
  ones_again s t p (u ∷ us) f h = (again s t u p f h.0, ones_again s t p us f h.1)

  pub resume_all_fits : (us : List ℕ) (p : Part) (s : State) → Fits cells b s → Ones (λ u. FitsIn p u (slice_get s.threads u)) us → Fits cells b (resume_all us p s)
  resume_all_fits [] p s h w = h
  resume_all_fits (u ∷ us) p s h w = resume_all_fits us p (resume u p s) (resume_fits s u p h w.0) (ones_again s u p us w.0 w.1)

  pub block_fits : (s : State) (t : ℕ) (r : Reason V) → Fits cells b s → WaitsFor cells r → Fits cells b (block t r s)
  block_fits s t r h w = record { threads = h.threads; contents = h.contents; once = h.once; child = h.child; lines = lines_more cells s.blocked (record { thread = t; reason = r }) h.lines w }

  -- ---- what a blocked thread gets

  on_part : (t : ℕ) (r : Reason V) (x : Part) (p : Part) (fs : List Frame) → OpPart (Blocks r) p → Held (at_values cells) b.roles t (b.owed t) p fs (b.guarded t)
      → ((op : Operation) → Blocks r op → Held (at_values cells) b.roles t (b.owed t) (Performs op) fs (b.guarded t) → Held (at_values cells) b.roles t (b.owed t) x fs (b.guarded t)) → Held (at_values cells) b.roles t (b.owed t) x fs (b.guarded t)
  on_part t r x (Performs op) fs w h f = f op w h
  on_part t r x _ fs w h f = absurd w

  pub fits_blocked : (t : ℕ) (r : Reason V) (x : Part) (o : Option Thread) → At (Blocks r) o → HeldThread cells b t o
      → ((th : Thread) → o ≡ Some th → (op : Operation) → Blocks r op → Held (at_values cells) b.roles t (b.owed t) (Performs op) th.term.frames (b.guarded t) → Held (at_values cells) b.roles t (b.owed t) x th.term.frames (b.guarded t)) → FitsIn x t o
  fits_blocked t r x None w h f = absurd w
  fits_blocked t r x (Some th) w h f = on_part t r x th.term.part th.term.frames w h (f th refl)

  abbrev Performed : ℕ → List Frame → Operation → Type 0
  Performed t fs op = Held (at_values cells) b.roles t (b.owed t) (Performs op) fs (b.guarded t)

  patient_answered : (t : ℕ) (r : Reason V) (v : V) (fs : List Frame) (op : Operation) → IsPatient r → Blocks r op → Performed t fs op → Held (at_values cells) b.roles t (b.owed t) (Ret v) fs (b.guarded t)
  patient_answered t (Throwing u e) v fs op i w h = throw_answered (at_values cells) b.roles t (b.owed t) v (subst (Performed t fs) w h)
  patient_answered t (Sleeping due) v fs op i w h = delay_answered (at_values cells) b.roles t (b.owed t) v (subst (Performed t fs) w.1 h)
  patient_answered t _ v fs op i w h = absurd i

  pub fits_patient : (s : State) (t : ℕ) (r : Reason V) (v : V) → Fits cells b s → IsPatient r → At (Blocks r) (slice_get s.threads t) → FitsIn (Ret v) t (slice_get s.threads t)
  fits_patient s t r v h i w = fits_blocked t r (Ret v) (slice_get s.threads t) w (h.threads t) (λ th e op q k. patient_answered t r v th.term.frames op i q k)

  -- ---- cells

  pub plain_at : (s : State) (m : ℕ) → Fits cells b s → at_values cells m → b.roles m ≡ Plain
  plain_at s m h f = plain_is (b.roles m) (slice_get s.cells m) (slice_get cells m) (h.contents m) f

  not_running : {m p t : ℕ} → b.roles m ≡ Plain → b.roles m ≡ Running p t → ⊥
  not_running {m} {p} {t} e f = let q : Plain ≡ Running p t = sym e ∙ f in cc q

  not_of : {m t : ℕ} → b.roles m ≡ Plain → IsOf t (b.roles m) → b.roles m ≡ Ended t
  not_of {m} {t} e f = absurd (subst (IsOf t) e f)

  contents_set : (s : State) (m : ℕ) (c : Option V) → Fits cells b s → at_values cells m → (k : ℕ) → CellFits (b.roles k) (slice_get (slice_set s.cells m c) k) (slice_get cells k)
  contents_set s m c h f k =
      ⊎_elim
      (λ e. subst (λ r. CellFits r (slice_get (slice_set s.cells m c) k) (slice_get cells k)) (sym (ap b.roles e.1 ∙ plain_at s m h f)) tt)
      (λ e. subst (λ o. CellFits (b.roles k) o (slice_get cells k)) (sym (item_other s.cells m k c e.1)) (h.contents k))
      (equal_or k m)

  pub cell_fits : (s : State) (m : ℕ) (c : Option V) → Fits cells b s → at_values cells m → Fits cells b (record s { cells = slice_set s.cells m c })
  cell_fits s m c h f = record { threads = h.threads; contents = contents_set s m c h f; once = h.once; child = h.child; lines = h.lines }

  -- whoever waits to put into a cell for values, to take from it or to read it
  fits_putter : (s : State) (m : ℕ) (a v : V) (t : ℕ) → Fits cells b s → at_values cells m → At (Blocks (Putting m a)) (slice_get s.threads t) → FitsIn (Ret v) t (slice_get s.threads t)
  fits_putter s m a v t h f w =
      fits_blocked t (Putting m a) (Ret v) (slice_get s.threads t) w (h.threads t)
      (λ th e op q k. put_answered (at_values cells) b.roles t (b.owed t) v (λ p e. not_running (plain_at s m h f) e) (subst (Performed t th.term.frames) q k))

  fits_taker : (s : State) (m : ℕ) (v : V) (t : ℕ) → Fits cells b s → At (Blocks (Taking m)) (slice_get s.threads t) → FitsIn (Ret v) t (slice_get s.threads t)
  fits_taker s m v t h w = fits_blocked t (Taking m) (Ret v) (slice_get s.threads t) w (h.threads t) (λ th e op q k. take_answered (at_values cells) b.roles t (b.owed t) v (subst (Performed t th.term.frames) q k))

  pub fits_reader : (s : State) (m : ℕ) (v : V) (t : ℕ) → Fits cells b s → ((u : ℕ) → IsOf u (b.roles m) → b.roles m ≡ Ended u) → At (Blocks (Reading m)) (slice_get s.threads t) → FitsIn (Ret v) t (slice_get s.threads t)
  fits_reader s m v t h f w = fits_blocked t (Reading m) (Ret v) (slice_get s.threads t) w (h.threads t) (λ th e op q k. read_answered (at_values cells) b.roles t (b.owed t) v (f t) (subst (Performed t th.term.frames) q k))

  moves_in_fits : (m : ℕ) (s : State) (o : Option (ℕ × V)) → Fits cells b s → at_values cells m → Found (Waits s.threads) (puts m) o → Fits cells b (moves_in m o s)
  moves_in_fits m s None h f w = cell_fits s m None h f
  moves_in_fits m s (Some p) h f w =
      let at : At (Blocks (Putting m p.1)) (slice_get s.threads p.0) = subst (λ r. At (Blocks r) (slice_get s.threads p.0)) (puts_is m w.0 p.1 w.2) w.1.0 in
      resume_fits (record s { cells = slice_set s.cells m (Some p.1) }) p.0 (Ret UnitValue) (cell_fits s m (Some p.1) h f) (fits_putter s m p.1 UnitValue p.0 h f at)

  pub taken_fits : (m : ℕ) (s : State) → Holds s → Fits cells b s → at_values cells m → Fits cells b (taken m s)
  taken_fits m s g h f =
      moves_in_fits m s (first_put (line_of m s.blocked)) h f (subst (Found (Waits s.threads) (puts m)) (sym (put_is_first m s.blocked)) (first_found (Waits s.threads) (puts m) s.blocked g.waits))

  goes_in_fits : (m : ℕ) (v : V) (s : State) (o : Option (ℕ × Unit {0})) → Fits cells b s → at_values cells m → Found (Waits s.threads) (takes m) o → Fits cells b (goes_in m v (only_thread o) s)
  goes_in_fits m v s None h f w = cell_fits s m (Some v) h f
  goes_in_fits m v s (Some p) h f w =
      let at : At (Blocks (Taking m)) (slice_get s.threads p.0) = subst (λ r. At (Blocks r) (slice_get s.threads p.0)) (takes_is m w.0 p.1 w.2) w.1.0 in
      resume_fits s p.0 (Ret v) h (fits_taker s m v p.0 h at)

  pub reads_fit : (m : ℕ) (v : V) (s : State) → Holds s → Fits cells b s → ((u : ℕ) → IsOf u (b.roles m) → b.roles m ≡ Ended u) → Fits cells b (read_by_all m v s)
  reads_fit m v s g h f =
      subst (λ us. Fits cells b (resume_all us (Ret v) s)) (sym (readers_are m s.blocked))
      (resume_all_fits (those (λ u. reads_at m) s.blocked) (Ret v) s h
      (ones_those_if (Waits s.threads) (λ u. FitsIn (Ret v) u (slice_get s.threads u)) (λ u. reads_at m) s.blocked
      (λ u r q w. fits_reader s m v u h f (subst (λ x. At (Blocks x) (slice_get s.threads u)) (reads_is m r q) w.0)) g.waits))

  pub given_fits : (m : ℕ) (v : V) (s : State) → Holds s → Fits cells b s → at_values cells m → Fits cells b (given m v s)
  given_fits m v s g h f =
      let k : Holds (read_by_all m v s) = reads_hold m v s g in
      let r : Fits cells b (read_by_all m v s) = reads_fit m v s g h (λ u i. not_of (plain_at s m h f) i) in
      subst (λ o. Fits cells b (goes_in m v o (read_by_all m v s))) (sym (take_is_first m (read_by_all m v s).blocked))
      (goes_in_fits m v (read_by_all m v s) (first_of_kind (takes m) (read_by_all m v s).blocked) r f (first_found (Waits (read_by_all m v s).threads) (takes m) (read_by_all m v s).blocked k.waits))
