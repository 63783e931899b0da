-- Each operation of a typed thread keeps a book that fits, or leads to one.
use Rattle.std.proofs.Common.{◌≡◌, ◌≢◌, ◌==◌, ℕ, suc, ◌<◌, List, [], ◌∷◌, ◌++◌, length, slice_get, slice_set, true, false, cond, Option, Some, None, refl, sym, ap, ◌∙◌, subst, arith, ⊎_elim}
use Rattle.plain_laws.proofs.Lists.{get_last, get_before_last}
use Rattle.hs_base.specs.declared.exn.Exn.TheVariants.{Timeout}
use Rattle.hs_base.specs.declared.mask.Mask.{Mask}
use Rattle.hs_base.specs.declared.mask.Mask.TheVariants.{Unmasked}
use Rattle.rules_expansion.specs.trees.Programs.{Fn}
use Rattle.rules_expansion.specs.Names.{Name, Added}
use Rattle.rules_expansion.specs.declared.hidden.Hidden.TheVariants.{Restorer, ScopeCell, Child}
use Rattle.rules_expansion.specs.declared.primitive.Primitive.{Primitive}
use Rattle.rules_expansion.specs.declared.primitive.Primitive.TheVariants.{PutStr, PutStrLn, HPutStrLn, NewMVar, NewEmptyMVar, TakeMVar, PutMVar, ReadMVar, TryTakeMVar, TryPutMVar, MyThreadId, GetMaskingState, ClockMicros, ThreadDelay, ThrowTo, NewTimeout, Acquired, Release}
use Rattle.rules_expansion.specs.Core.{Core, MaskWith}
use Rattle.rules_expansion.specs.Expansion.{scope_masked, scope_named, child_block}
use Rattle.rules_meaning.specs.Values.{V, UnitValue, Truth, Text, Nothing, Just, Cell, Exception, Restore, Inst, Env, with_name}
use Rattle.rules_meaning.specs.Values as val
use Rattle.rules_waiting.specs.OneCell.{first_take, readers}
use Rattle.rules_waiting.specs.Waiting.{Reason, Taking, Reading, Putting, Throwing, Sleeping, line_of}
use Rattle.hs_rules.specs.Terms.{Operation, Calls, Forks, ForksUnmask, Part, Ret, Throw, Do, Performs, Frame, BindTo, MaskIn, Term, term, mask_at}
use Rattle.hs_rules.specs.State.{Mark, AcquiredBy, ReleasedBy, Thread, State, with_term, frames_of, resume, answer, resume_all, block, spawn}
use Rattle.hs_rules.specs.Primitives.{moves_in, goes_in, read_by_all, given, due_in, clock_value, masking_text, line_feed}
use Rattle.hs_laws.specs.cases.Cases as row
use Rattle.hs_laws.specs.cases.Cases.{read_there}
use Rattle.hs_laws.specs.BracketPhases.{FineOp}
use Rattle.hs_laws.specs.BracketLaw.{count, IsMasked}
use Rattle.hs_laws.proofs.Lists.{cond_true, cond_false, equal_or, item_same, item_other, item_below}
use Rattle.hs_laws.proofs.States.{Holds, Ready, ready_stopped, answer_holds}
use Rattle.hs_progress.specs.TypedStates.{Store, has, OpTyped, FramesTyped, ThreadTyped, Sound}
use Rattle.scope_laws.specs.ScopePhases.{Role, Plain, Fresh, Running, Ended, IsOf, IsChild, IsCell, IsCommon, Fine, OfValues, Clean, Below, no_frames, below_mask}
use Rattle.scope_laws.specs.ScopePhases.{stop_throwing, stop_reading, Held, held_ret, held_do, held_op, held_new_op, held_new_cell, held_fork_op, held_forked, held_stop, held_child, held_put_op}
use Rattle.scope_laws.specs.ScopesKept.{IsForEnd, at_values, CellFits, WaitsFor, AllWaitFor, Book, HeldThread, Fits}
use Rattle.scope_laws.proofs.Phases.{same_own_cell, below_owned}
use Rattle.scope_laws.proofs.Later.{Nearly, Later, below_more}
use Rattle.scope_laws.proofs.Answers.{stop_part, throw_answered, read_answered, throws_itself}
use Rattle.scope_laws.proofs.Threads.{FitsIn, resume_fits, block_fits, taken_fits, reads_fit, given_fits}
use Rattle.scope_laws.proofs.Typed.{Kept, take_at, try_take_at, try_put_at, new_end}
use Rattle.scope_laws.proofs.Books.{with_one, one_same, one_other, roles_each, nearly_set, later_set, change_fits, spawn_fits, fork_fits, none_at_end, no_cell_is, full_is, contents_more, no_taker, all_cells, count_new, count_apart, count_none}
use Rattle.hs_laws.proofs.CellSteps as steps
use Rattle.hs_laws.proofs.Growing.{term_length}

-- ---- primitives that only answer

abbrev pub IsSimple : Primitive → Type 0
IsSimple NewEmptyMVar = ⊥
IsSimple PutMVar = ⊥
IsSimple ReadMVar = ⊥
IsSimple ThrowTo = ⊥
IsSimple w = Unit {0}

simple_answered : (values : ℕ → Type 0) (roles : ℕ → Role) (t : ℕ) (j : Option ℕ) (w : Primitive) {vs : List V} {fs : List Frame} {o : List ℕ} (v : V) → IsSimple w → Held values roles t j (Performs (Calls w vs)) fs o → Held values roles t j (Ret v) fs o
simple_answered values roles t j w v i (held_op f r) = held_ret r
simple_answered values roles t j w v i (held_new_op c f g k r) = absurd i
simple_answered values roles t j w v i (held_stop k (stop_throwing n a y) r) = absurd i
simple_answered values roles t j w v i (held_stop k stop_reading r) = absurd i
simple_answered values roles t j w v i (held_put_op e s) = absurd i

-- the thread that is answered
got : (ts : List Thread) (t : ℕ) (th : Thread) (p : Part) → slice_get ts t ≡ Some th → slice_get (with_term t (slice_get ts t) (term p (frames_of (slice_get ts t))) ts) t ≡ Some (record { term = term p th.term.frames; finished = th.finished })
got ts t th p is =
    subst (λ o. slice_get (with_term t o (term p (frames_of o)) ts) t ≡ Some (record { term = term p th.term.frames; finished = th.finished })) (sym is)
    (item_same ts t th (record { term = term p th.term.frames; finished = th.finished }) is)

role_clash : {A : Type 0} {r : Role} {p c q : ℕ} → r ≡ Fresh q → r ≡ Running p c → A
role_clash e f = let x = sym e ∙ f in absurd (cc x)

module _ (ds : List Fn) (st st' : Store) (kept : Kept st st'.cells) (b : Book) where
  abbrev values : ℕ → Type 0
  values m = at_values st'.cells m

  -- the state that is left, typed by a later store, has a book
  abbrev pub KeptAt : State → Type 0
  KeptAt v = Sound ds st' v.threads v.cells → (b' : Book) × Fits st'.cells b' v

  -- by the same book
  same : (v : State) → Fits st'.cells b v → KeptAt v
  same v h d = (b, h)

  -- ---- where neither threads nor cells change

  same_fits : (s : State) (x y : List ℕ) (i n : ℕ) (ms : List Mark) → Fits st'.cells b s → Fits st'.cells b (record s { output = x; errors = y; next_timeout = i; next_instance = n; marks = ms })
  same_fits s x y i n ms h = record { threads = h.threads; contents = h.contents; once = h.once; child = h.child; lines = h.lines }

  module _ (s : State) (t : ℕ) (th : Thread) (is : slice_get s.threads t ≡ Some th) (g : Holds s) (h : Fits st'.cells b s) where
    -- the thread is answered
    answer_fits : (v : V) → Held values b.roles t (b.owed t) (Ret v) th.term.frames (b.guarded t) → Fits st'.cells b (answer t v s)
    answer_fits v k = resume_fits st'.cells b s t (Ret v) h (subst (FitsIn st'.cells b (Ret v) t) (sym is) k)

    answered : (v : V) → Held values b.roles t (b.owed t) (Ret v) th.term.frames (b.guarded t) → KeptAt (answer t v s)
    answered v k = same (answer t v s) (answer_fits v k)

    -- ---- calls on a cell for values, by who is served

    took : (m : ℕ) (v : V) (o : Option (ℕ × V)) → row.putter m (answer t v s) ≡ o → values m → Held values b.roles t (b.owed t) (Ret v) th.term.frames (b.guarded t) → Holds (answer t v s) → KeptAt (moves_in m o (answer t v s))
    took m v o q f k a = same (moves_in m o (answer t v s)) (subst (λ x. Fits st'.cells b (moves_in m x (answer t v s))) q (taken_fits st'.cells b m (answer t v s) a (answer_fits v k) f))

    gave : (m : ℕ) (v w : V) (o : Option ℕ) → row.taker m (read_there m v (answer t w s)) ≡ o → values m → Held values b.roles t (b.owed t) (Ret w) th.term.frames (b.guarded t) → Holds (answer t w s) → KeptAt (goes_in m v o (read_there m v (answer t w s)))
    gave m v w o q f k a =
        same (goes_in m v o (read_there m v (answer t w s))) (subst (λ x. Fits st'.cells b (goes_in m v x (read_there m v (answer t w s)))) q (given_fits st'.cells b m v (answer t w s) a (answer_fits w k) f))

    waits : (r : Reason V) → WaitsFor st'.cells r → KeptAt (block t r s)
    waits r f = same (block t r s) (block_fits st'.cells b s t r h f)

    -- ---- a new cell that is no scope's

    more_fits : (c : Option V) → Fits st'.cells b (record s { cells = s.cells ++ c ∷ [] })
    more_fits c = record { threads = h.threads; contents = contents_more st'.cells b.roles s.cells c h.contents; once = h.once; child = h.child; lines = h.lines }

    new_kept : (c : Option V) → Held values b.roles t (b.owed t) (Ret (Cell (length s.cells))) th.term.frames (b.guarded t) → KeptAt (answer t (Cell (length s.cells)) (record s { cells = s.cells ++ c ∷ [] }))
    new_kept c k =
        same (answer t (Cell (length s.cells)) (record s { cells = s.cells ++ c ∷ [] }))
        (resume_fits st'.cells b (record s { cells = s.cells ++ c ∷ [] }) t (Ret (Cell (length s.cells))) (more_fits c) (subst (FitsIn st'.cells b (Ret (Cell (length s.cells))) t) (sym is) k))

    -- ---- where frames and guards are known

    back : (roles : ℕ → Role) (j : Option ℕ) (p : Part) {fs : List Frame} {o : List ℕ} → th.term.frames ≡ fs → b.guarded t ≡ o → Held values roles t j p fs o → Held values roles t j p th.term.frames (b.guarded t)
    back roles j p q r k = subst (λ fs. Held values roles t j p fs (b.guarded t)) (sym q) (subst (Held values roles t j p _) (sym r) k)

    -- ---- the cell of a scope

    module _ (fresh : b.roles (length s.cells) ≡ Plain) where
      abbrev made : Book
      made = record { roles = with_one (length s.cells) (Fresh t) b.roles; guarded = b.guarded; owed = b.owed }

      later_made : (u : ℕ) → Later values values b.roles made.roles u
      later_made u =
          later_set values b.roles (length s.cells) (Fresh t) u (λ i. absurd (subst (IsOf u) fresh i)) (λ c y. absurd (subst (IsChild c) fresh y))
          (λ p e. let x : Plain ≡ Running p u = sym fresh ∙ e in absurd (cc x))
          (λ e. let x : Plain ≡ Fresh u = sym fresh ∙ e in absurd (cc x))
          (λ e. let x : Plain ≡ Ended u = sym fresh ∙ e in absurd (cc x))

      made_contents : IsForEnd (slice_get st'.cells (length s.cells)) → (m : ℕ) → CellFits (made.roles m) (slice_get (s.cells ++ None ∷ []) m) (slice_get st'.cells m)
      made_contents i =
          roles_each (λ m r. CellFits r (slice_get (s.cells ++ None ∷ []) m) (slice_get st'.cells m)) (length s.cells) (Fresh t) b.roles (get_last s.cells None, i)
          (λ m n. subst (λ o. CellFits (b.roles m) o (slice_get st'.cells m)) (sym (get_before_last s.cells None m n)) (h.contents m))

      made_once : (m p c : ℕ) → made.roles m ≡ Running p c → count m (b.guarded p) ≡ 1
      made_once =
          roles_each (λ m r. (p c : ℕ) → r ≡ Running p c → count m (b.guarded p) ≡ 1) (length s.cells) (Fresh t) b.roles (λ p c e. absurd (cc e)) (λ m n. h.once m)

      made_child : (m p c : ℕ) → made.roles m ≡ Running p c → b.owed c ≡ Some m
      made_child = roles_each (λ m r. (p c : ℕ) → r ≡ Running p c → b.owed c ≡ Some m) (length s.cells) (Fresh t) b.roles (λ p c e. absurd (cc e)) (λ m n. h.child m)

      scope_made : {x : Name} {a c : Core} {env : Env} {fs : List Frame} {o : List ℕ} → th.term.frames ≡ BindTo (Added ScopeCell) (MaskWith (Added Restorer) (scope_masked a x c)) env ∷ fs → b.guarded t ≡ o
          → IsCommon x → Fine a → Fine c → Clean values env → Below values b.roles t (b.owed t) fs o → KeptAt (answer t (Cell (length s.cells)) (record s { cells = s.cells ++ None ∷ [] }))
      scope_made {x} {a} {c} {env} {fs} {o} q r k f w z e d =
          let v = answer t (Cell (length s.cells)) (record s { cells = s.cells ++ None ∷ [] }) in
          let ty : ThreadTyped (has st') ds (st'.sorts t) (Some (record { term = term (Ret (Cell (length s.cells))) th.term.frames; finished = th.finished })) =
          subst (ThreadTyped (has st') ds (st'.sorts t)) (got s.threads t th (Ret (Cell (length s.cells))) is) (d.threads t) in
          let i : IsForEnd (slice_get st'.cells (length s.cells)) = new_end ds st' (length s.cells) ty.0 (subst (FramesTyped (has st') ds (st'.sorts t)) q ty.1) in (
            made,
            change_fits st'.cells b made s t th (Ret (Cell (length s.cells))) (s.cells ++ None ∷ []) h is (λ u n. later_made u) (λ u n. refl) (λ u n. refl)
                (back made.roles (b.owed t) (Ret (Cell (length s.cells))) q r (held_new_cell (one_same (length s.cells) (Fresh t) b.roles) k f w z (below_more (later_made t).nearly e)))
                (made_contents i) made_once made_child,
          )

    new_empty_kept : {fs : List Frame} {o : List ℕ} → th.term.frames ≡ fs → b.guarded t ≡ o → Held values b.roles t (b.owed t) (Performs (Calls NewEmptyMVar [])) fs o
        → KeptAt (answer t (Cell (length s.cells)) (record s { cells = s.cells ++ None ∷ [] }))
    new_empty_kept q r (held_op f e) = new_kept None (back b.roles (b.owed t) (Ret (Cell (length s.cells))) q r (held_ret e))
    new_empty_kept q r (held_new_op k f w z e) =
        scope_made (no_cell_is (b.roles (length s.cells)) (slice_get st'.cells (length s.cells)) (subst (λ o. CellFits (b.roles (length s.cells)) o (slice_get st'.cells (length s.cells))) (none_at_end s.cells) (h.contents (length s.cells)))) q r k f w z e
    new_empty_kept q r (held_stop k z a) = absurd (stop_part values b.roles t (b.owed t) z)

    -- ---- the put of a child

    module _ (m p : ℕ) (v : V) (runs : b.roles m ≡ Running p t) (mine : b.owed t ≡ Some m) where
      abbrev ended : Book
      ended = record { roles = with_one m (Ended p) b.roles; guarded = b.guarded; owed = with_one t None b.owed }

      abbrev full : List (Option V)
      full = slice_set s.cells m (Some v)

      empty : (slice_get s.cells m ≡ Some None) × IsForEnd (slice_get st'.cells m)
      empty = subst (λ r. CellFits r (slice_get s.cells m) (slice_get st'.cells m)) runs (h.contents m)

      later_ended : (u : ℕ) → u ≢ t → Later values values b.roles ended.roles u
      later_ended u n =
          later_set values b.roles m (Ended p) u (λ i. subst (IsOf u) runs i) (λ c y. tt)
          (λ q e. let x : Running p t ≡ Running q u = sym runs ∙ e in let y : t ≡ u = cc x in absurd (n (sym y)))
          (λ e. role_clash e runs)
          (λ e. let x : Ended u ≡ Running p t = sym e ∙ runs in absurd (cc x))

      put_contents : (k : ℕ) → CellFits (ended.roles k) (slice_get full k) (slice_get st'.cells k)
      put_contents =
          roles_each (λ k r. CellFits r (slice_get full k) (slice_get st'.cells k)) m (Ended p) b.roles ((v, item_same s.cells m None (Some v) empty.0), empty.1)
          (λ k n. subst (λ o. CellFits (b.roles k) o (slice_get st'.cells k)) (sym (item_other s.cells m k (Some v) n)) (h.contents k))

      put_once : (k q c : ℕ) → ended.roles k ≡ Running q c → count k (b.guarded q) ≡ 1
      put_once = roles_each (λ k r. (q c : ℕ) → r ≡ Running q c → count k (b.guarded q) ≡ 1) m (Ended p) b.roles (λ q c e. absurd (cc e)) (λ k n. h.once k)

      put_child : (k q c : ℕ) → ended.roles k ≡ Running q c → ended.owed c ≡ Some k
      put_child =
          roles_each (λ k r. (q c : ℕ) → r ≡ Running q c → ended.owed c ≡ Some k) m (Ended p) b.roles (λ q c e. absurd (cc e))
          (λ k n q c e.
          one_other t None b.owed c (λ z. let x : ◌≡◌ {A = Option ℕ} (Some k) (Some m) = sym (h.child k q c e) ∙ (ap b.owed z ∙ mine) in let y : k ≡ m = cc x in n y) ∙ h.child k q c e)

      put_answers : {z : Mask} → th.term.frames ≡ MaskIn z ∷ [] → b.guarded t ≡ [] → Fits st'.cells ended (answer t UnitValue (record s { cells = full }))
      put_answers q r =
          change_fits st'.cells b ended s t th (Ret UnitValue) full h is later_ended (λ u n. refl) (λ u n. one_other t None b.owed u n)
          (back ended.roles (ended.owed t) (Ret UnitValue) q r (held_ret (below_mask (no_frames (one_same t None b.owed))))) put_contents put_once put_child

      -- all that read, and then the state with the full cell
      abbrev all_read : State
      all_read = read_by_all m v (answer t UnitValue (record s { cells = full }))

      readers_fit : Holds (answer t UnitValue s) → {z : Mask} → th.term.frames ≡ MaskIn z ∷ [] → b.guarded t ≡ [] → Fits st'.cells ended all_read
      readers_fit a q r =
          reads_fit st'.cells ended m v (answer t UnitValue (record s { cells = full })) a (put_answers q r)
          (λ u i. let e : ended.roles m ≡ Ended p = one_same m (Ended p) b.roles in let same : p ≡ u = subst (IsOf u) e i in e ∙ ap Ended same)

      is_all_read : AllWaitFor st'.cells all_read.blocked → given m v (answer t UnitValue s) ≡ all_read
      is_all_read lines =
          let us = readers (line_of m (answer t UnitValue s).blocked) in
          let r0 = resume_all us (Ret v) (answer t UnitValue s) in
          let e : all_read ≡ record r0 { cells = full } = all_cells us (Ret v) (answer t UnitValue s) full in
          let l : AllWaitFor st'.cells r0.blocked = subst (λ x. AllWaitFor st'.cells x.blocked) e lines in
          let n : first_take (line_of m r0.blocked) ≡ None = no_taker st'.cells m r0.blocked empty.1 l in
          let c : r0.cells ≡ s.cells = steps.all_cells us (Ret v) (answer t UnitValue s) in
          ap (λ o. goes_in m v o r0) n ∙ (ap (λ cs. record r0 { cells = slice_set cs m (Some v) }) c ∙ sym e)

      ending_kept : Holds (answer t UnitValue s) → {z : Mask} → th.term.frames ≡ MaskIn z ∷ [] → b.guarded t ≡ [] → KeptAt (given m v (answer t UnitValue s))
      ending_kept a q r d =
          let k : Fits st'.cells ended all_read = readers_fit a q r in
          (ended, subst (Fits st'.cells ended) (sym (is_all_read k.lines)) k)

    put_waits_kept : {m : ℕ} {v w : V} {fs : List Frame} {o : List ℕ} → slice_get s.cells m ≡ Some (Some w) → Held values b.roles t (b.owed t) (Performs (Calls PutMVar (Cell m ∷ v ∷ []))) fs o → KeptAt (block t (Putting m v) s)
    put_waits_kept {m} {v} i (held_op f e) = waits (Putting m v) f
    put_waits_kept i (held_stop k z e) = absurd (stop_part values b.roles t (b.owed t) z)
    put_waits_kept {m} {v} {w} i (held_put_op {p = p} e x) = let z : ◌≡◌ {A = Option (Option V)} (Some None) (Some (Some w)) = sym (empty m p v e.0 e.1).0 ∙ i in absurd (cc z)

    put_kept : ((v : V) → Holds (answer t v s)) → {m : ℕ} {v : V} {fs : List Frame} {o : List ℕ} (x : Option ℕ) → row.taker m (read_there m v (answer t UnitValue s)) ≡ x → th.term.frames ≡ fs → b.guarded t ≡ o
        → Held values b.roles t (b.owed t) (Performs (Calls PutMVar (Cell m ∷ v ∷ []))) fs o → KeptAt (goes_in m v x (read_there m v (answer t UnitValue s)))
    put_kept a {m} {v} x i q r (held_op f e) = gave m v UnitValue x i f (back b.roles (b.owed t) (Ret UnitValue) q r (held_ret e)) (a UnitValue)
    put_kept a x i q r (held_stop k z e) = absurd (stop_part values b.roles t (b.owed t) z)
    put_kept a {m} {v} x i q r (held_put_op {p = p} e w) = subst (λ y. KeptAt (goes_in m v y (read_there m v (answer t UnitValue s)))) i (ending_kept m p v e.0 e.1 (a UnitValue) q r)

    -- ---- forks

    abbrev child : ℕ
    child = length s.threads

    long : length (answer t (val.Thread child) s).threads ≡ child
    long = term_length t (slice_get s.threads t) (term (Ret (val.Thread child)) (frames_of (slice_get s.threads t))) s.threads

    other_child : child ≢ t
    other_child e = let lt : t < length s.threads = item_below s.threads t th is in let same : length s.threads ≡ t = e in absurd (omega (arith, lt, same))

    spawned : (b' : Book) (x : Term) → Fits st'.cells b' (answer t (val.Thread child) s) → (HeldThread st'.cells b' child None → Held values b'.roles child (b'.owed child) x.part x.frames (b'.guarded child)) → Fits st'.cells b' (spawn x (answer t (val.Thread child) s))
    spawned b' x k f =
        spawn_fits st'.cells b' (answer t (val.Thread child) s) x k
        (λ e. subst (λ c. Held values b'.roles c (b'.owed c) x.part x.frames (b'.guarded c)) (sym long) (f (subst (λ c. HeldThread st'.cells b' c None) long e)))

    fork_kept : (a : Core) (env : Env) (m : Mask) → Fine a → Clean values env → Held values b.roles t (b.owed t) (Ret (val.Thread child)) th.term.frames (b.guarded t) → KeptAt (spawn (term (Do a env) (MaskIn m ∷ [])) (answer t (val.Thread child) s))
    fork_kept a env m f w k =
        same (spawn (term (Do a env) (MaskIn m ∷ [])) (answer t (val.Thread child) s))
        (spawned b (term (Do a env) (MaskIn m ∷ [])) (answer_fits (val.Thread child) k)
        (λ e. subst (Held values b.roles child (b.owed child) (Do a env) (MaskIn m ∷ [])) (sym e.0) (held_do f w (below_mask (no_frames e.1)))))

    module _ (m : ℕ) (fresh : b.roles m ≡ Fresh t) where
      abbrev forked : Book
      forked = record { roles = with_one m (Running t child) b.roles; guarded = λ u. cond (u == t) (m ∷ b.guarded t) (b.guarded u); owed = with_one child (Some m) b.owed }

      guards_own : forked.guarded t ≡ m ∷ b.guarded t
      guards_own = ⊎_elim (λ e. cond_true (t == t) (m ∷ b.guarded t) (b.guarded t) e.0) (λ e. absurd (e.1 refl)) (equal_or t t)

      guards_other : (u : ℕ) → u ≢ t → forked.guarded u ≡ b.guarded u
      guards_other u n = ⊎_elim (λ e. absurd (n e.1)) (λ e. cond_false (u == t) (m ∷ b.guarded t) (b.guarded u) e.0) (equal_or u t)

      near : (u : ℕ) → Nearly values values b.roles forked.roles u
      near u = nearly_set values b.roles m (Running t child) u (λ i. absurd (subst (IsOf u) fresh i)) (λ c y. absurd (subst (IsChild c) fresh y)) (λ p e. role_clash fresh e)

      later_forked : (u : ℕ) → u ≢ t → Later values values b.roles forked.roles u
      later_forked u n =
          later_set values b.roles m (Running t child) u (λ i. absurd (subst (IsOf u) fresh i)) (λ c y. absurd (subst (IsChild c) fresh y)) (λ p e. role_clash fresh e)
          (λ e. let x : Fresh t ≡ Fresh u = sym fresh ∙ e in let y : t ≡ u = cc x in absurd (n (sym y)))
          (λ e. let x : Fresh t ≡ Ended u = sym fresh ∙ e in absurd (cc x))

      fork_contents : (k : ℕ) → CellFits (forked.roles k) (slice_get s.cells k) (slice_get st'.cells k)
      fork_contents =
          roles_each (λ k r. CellFits r (slice_get s.cells k) (slice_get st'.cells k)) m (Running t child) b.roles
          (subst (λ r. CellFits r (slice_get s.cells m) (slice_get st'.cells m)) fresh (h.contents m)) (λ k n. h.contents k)

      -- the other scopes of the thread are guarded as before
      still_once : (k q c : ℕ) → k ≢ m → b.roles k ≡ Running q c → count k (forked.guarded q) ≡ 1
      still_once k q c n e =
          ⊎_elim
          (λ f. ap (λ u. count k (forked.guarded u)) f.1 ∙ (ap (count k) guards_own ∙ (count_apart k m (b.guarded t) n ∙ (ap (λ u. count k (b.guarded u)) (sym f.1) ∙ h.once k q c e))))
          (λ f. ap (count k) (guards_other q f.1) ∙ h.once k q c e)
          (equal_or q t)

      fork_once : {fs : List Frame} → Below values b.roles t (b.owed t) fs (b.guarded t) → (k q c : ℕ) → forked.roles k ≡ Running q c → count k (forked.guarded q) ≡ 1
      fork_once r =
          roles_each (λ k x. (q c : ℕ) → x ≡ Running q c → count k (forked.guarded q) ≡ 1) m (Running t child) b.roles
          (λ q c e. let y : t ≡ q = cc e in subst (λ u. count m (forked.guarded u) ≡ 1) y (ap (count m) guards_own ∙ count_new m (b.guarded t) (count_none (λ j. IsOf t (b.roles j)) m (b.guarded t) (λ i. subst (IsOf t) fresh i) (below_owned values b.roles t (b.owed t) r))))
          (λ k n q c e. still_once k q c n e)

      -- nothing was said of the new thread
      none_yet : HeldThread st'.cells b child None
      none_yet = subst (HeldThread st'.cells b child) (none_at_end s.threads) (h.threads child)

      owed_other : (u : ℕ) → u ≢ child → forked.owed u ≡ b.owed u
      owed_other u n = one_other child (Some m) b.owed u n

      fork_child : (k q c : ℕ) → forked.roles k ≡ Running q c → forked.owed c ≡ Some k
      fork_child =
          roles_each (λ k x. (q c : ℕ) → x ≡ Running q c → forked.owed c ≡ Some k) m (Running t child) b.roles
          (λ q c e. let y : child ≡ c = cc e in subst (λ u. forked.owed u ≡ Some m) y (one_same child (Some m) b.owed))
          (λ k n q c e. owed_other c (λ z. let x : ◌≡◌ {A = Option ℕ} (Some k) None = sym (h.child k q c e) ∙ (ap b.owed z ∙ none_yet.1) in absurd (cc x)) ∙ h.child k q c e)

      scope_forked : {x : Name} {a c : Core} {env : Env} {fs : List Frame} (z : Mask) → th.term.frames ≡ BindTo (Added Child) (scope_named x c) env ∷ fs → IsCell env m → IsCommon x → Fine a → Fine c → Clean values env → IsMasked (mask_at fs) → IsMasked z
          → Below values b.roles t (b.owed t) fs (b.guarded t) → KeptAt (spawn (term (Do (child_block a) env) (MaskIn z ∷ [])) (answer t (val.Thread child) s))
      scope_forked {x} {a} {c} {env} {fs} z q n k f w y i j r d = (
        forked,
        fork_fits st'.cells b forked s t th (Ret (val.Thread child)) (term (Do (child_block a) env) (MaskIn z ∷ [])) h is long later_forked guards_other owed_other
            (subst (λ fs. Held values forked.roles t (forked.owed t) (Ret (val.Thread child)) fs (forked.guarded t)) (sym q)
            (subst (Held values forked.roles t (forked.owed t) (Ret (val.Thread child)) (BindTo (Added Child) (scope_named x c) env ∷ fs)) (sym guards_own)
            (held_forked (subst (IsOf t) (sym (one_same m (Running t child) b.roles)) refl) n other_child (subst (IsChild child) (sym (one_same m (Running t child) b.roles)) refl) k w y i
            (subst (λ o. Below values forked.roles t o fs (b.guarded t)) (sym (owed_other t (λ e. other_child (sym e)))) (below_more (near t) r)))))
            (subst (Held values forked.roles child (forked.owed child) (Do (child_block a) env) (MaskIn z ∷ [])) (sym (guards_other child other_child ∙ none_yet.0))
            (held_child (one_same m (Running t child) b.roles, one_same child (Some m) b.owed) n f y j))
            fork_contents (fork_once r) fork_child,
      )

    forks_kept : {a : Core} {env : Env} {fs : List Frame} {o : List ℕ} → th.term.frames ≡ fs → b.guarded t ≡ o → Held values b.roles t (b.owed t) (Performs (Forks a env)) fs o
        → KeptAt (spawn (term (Do a env) (MaskIn (mask_at th.term.frames) ∷ [])) (answer t (val.Thread child) s))
    forks_kept {a} {env} q r (held_op f e) = fork_kept a env (mask_at th.term.frames) f.0 f.1 (back b.roles (b.owed t) (Ret (val.Thread child)) q r (held_ret e))
    forks_kept {fs = gs} q r (held_fork_op {m} {fs = fs} x n k f w y i e) =
        scope_forked m x (mask_at th.term.frames) q n k f w y i (subst IsMasked (ap mask_at (sym q)) i) (subst (Below values b.roles t (b.owed t) fs) (sym r) e)
    forks_kept q r (held_stop k z e) = absurd (stop_part values b.roles t (b.owed t) z)

    forks_unmask_kept : {x : Name} {a : Core} {env : Env} {fs : List Frame} {o : List ℕ} → th.term.frames ≡ fs → b.guarded t ≡ o → Held values b.roles t (b.owed t) (Performs (ForksUnmask x a env)) fs o
        → KeptAt (spawn (term (Do a (with_name x (Restore Unmasked) env)) (MaskIn (mask_at th.term.frames) ∷ [])) (answer t (val.Thread child) s))
    forks_unmask_kept {x} {a} {env} q r (held_op f e) =
        fork_kept a (with_name x (Restore Unmasked) env) (mask_at th.term.frames) f.1
        (subst (OfValues values) (sym (same_own_cell x (Restore Unmasked) env f.0)) f.2) (back b.roles (b.owed t) (Ret (val.Thread child)) q r (held_ret e))
    forks_unmask_kept q r (held_stop k z e) = absurd (stop_part values b.roles t (b.owed t) z)

    -- ---- the table

    others_answered : (x y : List ℕ) (i n : ℕ) (ms : List Mark) (v : V) → Held values b.roles t (b.owed t) (Ret v) th.term.frames (b.guarded t)
        → KeptAt (answer t v (record s { output = x; errors = y; next_timeout = i; next_instance = n; marks = ms }))
    others_answered x y i n ms v k =
        same (answer t v (record s { output = x; errors = y; next_timeout = i; next_instance = n; marks = ms }))
        (resume_fits st'.cells b (record s { output = x; errors = y; next_timeout = i; next_instance = n; marks = ms }) t (Ret v) (same_fits s x y i n ms h) (subst (FitsIn st'.cells b (Ret v) t) (sym is) k))

    gives : (w : Primitive) {vs : List V} → IsSimple w → Held values b.roles t (b.owed t) (Performs (Calls w vs)) th.term.frames (b.guarded t) → (v : V) → Held values b.roles t (b.owed t) (Ret v) th.term.frames (b.guarded t)
    gives w i k v = simple_answered values b.roles t (b.owed t) w v i k

    stopped : {op : Operation} → Ready s t op → FineOp op → (v : V) → Holds (answer t v s)
    stopped r f v = answer_holds s t v g (ready_stopped r f)

    pub performed_kept : {op : Operation} {u : State} → Ready s t op → Held values b.roles t (b.owed t) (Performs op) th.term.frames (b.guarded t) → OpTyped (has st) ds op (st.sorts t) → row.Performs t (mask_at th.term.frames) op s u → KeptAt u
    performed_kept r k ty (row.prints {x}) = others_answered (s.output ++ x) s.errors s.next_timeout s.next_instance s.marks UnitValue (gives PutStr tt k UnitValue)
    performed_kept r k ty (row.prints_a_line {x}) = others_answered ((s.output ++ x) ++ line_feed) s.errors s.next_timeout s.next_instance s.marks UnitValue (gives PutStrLn tt k UnitValue)
    performed_kept r k ty (row.tells_a_line {x}) = others_answered s.output ((s.errors ++ x) ++ line_feed) s.next_timeout s.next_instance s.marks UnitValue (gives HPutStrLn tt k UnitValue)
    performed_kept r k ty (row.makes_a_full_cell {a}) = new_kept (Some a) (gives NewMVar tt k (Cell (length s.cells)))
    performed_kept r k ty row.makes_an_empty_cell = new_empty_kept refl refl k
    performed_kept r k ty (row.take_waits {c} q) = waits (Taking c) (take_at st st'.cells kept ds c ty)
    performed_kept r k ty (row.takes_and_empties {c} {a} q w) = took c a None w (take_at st st'.cells kept ds c ty) (gives TakeMVar tt k a) (stopped r tt a)
    performed_kept r k ty (row.takes_and_serves {c} {w} {a} {b = d} q e) = took c a (Some (w, d)) e (take_at st st'.cells kept ds c ty) (gives TakeMVar tt k a) (stopped r tt a)
    performed_kept r k ty (row.read_waits {c} q) = waits (Reading c) tt
    performed_kept r k ty (row.reads {c} {a} q) = answered a (read_answered values b.roles t (b.owed t) a (full_is (b.roles c) (slice_get s.cells c) a (slice_get st'.cells c) t q (h.contents c)) k)
    performed_kept r k ty (row.put_waits q) = put_waits_kept q k
    performed_kept r k ty (row.puts_and_fills q w) = put_kept (stopped r tt) None w refl refl k
    performed_kept r k ty (row.puts_and_serves {w} q e) = put_kept (stopped r tt) (Some w) e refl refl k
    performed_kept r k ty (row.try_take_finds_nothing q) = answered Nothing (gives TryTakeMVar tt k Nothing)
    performed_kept r k ty (row.try_takes_and_empties {c} {a} q w) = took c (Just a) None w (try_take_at st st'.cells kept ds c ty) (gives TryTakeMVar tt k (Just a)) (stopped r tt (Just a))
    performed_kept r k ty (row.try_takes_and_serves {c} {w} {a} {b = d} q e) = took c (Just a) (Some (w, d)) e (try_take_at st st'.cells kept ds c ty) (gives TryTakeMVar tt k (Just a)) (stopped r tt (Just a))
    performed_kept r k ty (row.try_put_finds_a_value q) = answered (Truth false) (gives TryPutMVar tt k (Truth false))
    performed_kept r k ty (row.try_puts_and_fills {c} {a} q w) = gave c a (Truth true) None w (try_put_at st st'.cells kept ds c a ty) (gives TryPutMVar tt k (Truth true)) (stopped r tt (Truth true))
    performed_kept r k ty (row.try_puts_and_serves {c} {w} {a} q e) = gave c a (Truth true) (Some w) e (try_put_at st st'.cells kept ds c a ty) (gives TryPutMVar tt k (Truth true)) (stopped r tt (Truth true))
    performed_kept r k ty row.names_itself = answered (val.Thread t) (gives MyThreadId tt k (val.Thread t))
    performed_kept r k ty row.names_its_masking = answered (Text (masking_text (mask_at th.term.frames))) (gives GetMaskingState tt k (Text (masking_text (mask_at th.term.frames))))
    performed_kept r k ty row.reads_the_clock = answered (clock_value s) (gives ClockMicros tt k (clock_value s))
    performed_kept r k ty (row.sleeps {n} q) = waits (Sleeping (due_in n s)) tt
    performed_kept r k ty row.sleep_of_nothing = answered UnitValue (gives ThreadDelay tt k UnitValue)
    performed_kept r k ty row.sleep_of_less = answered UnitValue (gives ThreadDelay tt k UnitValue)
    performed_kept r k ty (row.throws_at_itself {e} q) = same (resume t (Throw e) s) (resume_fits st'.cells b s t (Throw e) h (subst (FitsIn st'.cells b (Throw e) t) (sym is) (throws_itself values b.roles t (b.owed t) e refl k)))
    performed_kept r k ty (row.throws_at_finished n q f) = answered UnitValue (throw_answered values b.roles t (b.owed t) UnitValue k)
    performed_kept r k ty (row.throw_waits {u = w} {e} n q f) = waits (Throwing w e) tt
    performed_kept r k ty row.makes_a_timeout = others_answered s.output s.errors (suc s.next_timeout) s.next_instance s.marks (Exception (Timeout s.next_timeout)) (gives NewTimeout tt k (Exception (Timeout s.next_timeout)))
    performed_kept r k ty row.acquires = others_answered s.output s.errors s.next_timeout (suc s.next_instance) (AcquiredBy s.next_instance t ∷ s.marks) (Inst s.next_instance) (gives Acquired tt k (Inst s.next_instance))
    performed_kept r k ty (row.releases {i}) = others_answered s.output s.errors s.next_timeout s.next_instance (ReleasedBy i t ∷ s.marks) UnitValue (gives Release tt k UnitValue)
    performed_kept r k ty row.forks = forks_kept refl refl k
    performed_kept r k ty row.forks_unmasked = forks_unmask_kept refl refl k
