-- A thread that gets what it stands for, and a cell that gets a value of its type, keep a state typed.
use Rattle.std.proofs.Common.{◌≡◌, ℕ, zero, suc, ◌==◌, List, [], ◌∷◌, slice_get, slice_set, true, false, cond, Option, Some, None, refl, sym, ap, ◌∙◌, subst, arith, ⊎_elim}
use Rattle.hs_base.specs.declared.exn.Exn.{Exn}
use Rattle.rules_expansion.specs.trees.Trees.{unit}
use Rattle.rules_expansion.specs.trees.Programs.{Fn}
use Rattle.rules_meaning.specs.Values as val
use Rattle.rules_meaning.specs.Values.{V, UnitValue}
use Rattle.rules_expansion.specs.declared.primitive.Primitive.TheVariants.{TakeMVar, ReadMVar, PutMVar, ThreadDelay, ThrowTo}
use Rattle.rules_sorts.specs.Sorts.{Sort, a_value}
use Rattle.rules_sorts.specs.TypedMeaning.{HasV}
use Rattle.hs_rules.specs.Terms.{Operation, Calls, Part, Ret, Throw, Performs, Term, term}
use Rattle.rules_waiting.specs.OneCell.{first_put}
use Rattle.rules_waiting.specs.Waiting.{Reason, Taking, Reading, Putting, Throwing, Sleeping, line_of}
use Rattle.hs_rules.specs.State.{Thread, State, with_term, move, frames_of, resume, resume_all}
use Rattle.hs_rules.specs.Primitives.{moves_in, taken, goes_in, goes_on, read_by_all, given}
use Rattle.hs_laws.specs.BracketPhases.{Blocks, OpPart, At}
use Rattle.hs_laws.proofs.Lists.{equal_or, cond_true, cond_false, item_same, item_other, Found, first_found, first_of_kind, takes, puts, throws, throws_at, only_thread, reads_at, put_is_first, take_is_first, readers_are, those, Ones, ones_those_if}
use Rattle.hs_laws.proofs.States.{Holds, Waits, reads_hold}
use Rattle.hs_progress.specs.CoreTyping.{asks_take, asks_put, asks_put_end, asks_read, asks_read_end, asks_throw_to, asks_delay}
use Rattle.hs_progress.specs.TypedStates.{one_value, no_values, OpTyped, calls_typed, PartTyped, ret_typed, throw_typed, op_typed, FramesTyped, ThreadTyped, ContentTyped, CellTyped, TermTyped, Purpose, for_values, for_end, held_by, Store, has, with_sort, Sound, Follows}
use Rattle.hs_laws.proofs.Growing.{set_length, term_length}

-- ---- the reasons that are looked for

pub puts_is : (m : ℕ) (r : Reason V) (v : V) → puts m r ≡ Some v → r ≡ Putting m v
puts_is m (Putting k w) v e =
    ⊎_elim
    (λ q. let f : ◌≡◌ {A = Option V} (Some w) (Some v) = sym (cond_true (k == m) (Some w) None q.0) ∙ e in let g : w ≡ v = cc f in ap (λ j. Putting j w) q.1 ∙ ap (Putting m) g)
    (λ q. let f : ◌≡◌ {A = Option V} None (Some v) = sym (cond_false (k == m) (Some w) None q.0) ∙ e in absurd (cc f))
    (equal_or k m)
puts_is m _ v e = absurd (cc e)

pub takes_is : (m : ℕ) (r : Reason V) (v : Unit {0}) → takes m r ≡ Some v → r ≡ Taking m
takes_is m (Taking k) v e =
    ⊎_elim
    (λ q. ap Taking q.1)
    (λ q. let f : ◌≡◌ {A = Option (Unit {0})} None (Some v) = sym (cond_false (k == m) (Some tt) None q.0) ∙ e in absurd (cc f))
    (equal_or k m)
takes_is m _ v e = absurd (cc e)

pub reads_is : (m : ℕ) (r : Reason V) → reads_at m r ≡ true → r ≡ Reading m
reads_is m (Reading k) e = ⊎_elim (λ q. ap Reading q.1) (λ q. let f : true ≡ false = sym e ∙ q.0 in absurd (cc f)) (equal_or k m)
reads_is m _ e = absurd (cc e)

-- what holds of each number holds of those of a list
each_one : (P : ℕ → Type 0) (us : List ℕ) → ((u : ℕ) → P u) → Ones P us
each_one P [] f = tt
each_one P (u ∷ us) f = (f u, each_one P us f)

module _ (ds : List Fn) (st : Store) where
  abbrev pub SoundAt : State → Type 0
  SoundAt s = Sound ds st s.threads s.cells

  -- the same store
  pub pack : (stays : ℕ → Type 0) (s : State) → SoundAt s → Follows ds st stays s
  pack stays s h = record { store = st; sound = h; cells = λ m t e. e; count = omega arith; sorts = λ u lt q. refl }

  -- ---- threads

  -- what may stand in a thread's place
  abbrev pub FitsFor : Part → ℕ → Type 0
  FitsFor p t = PartTyped (has st) ds p (st.sorts t)

  changed : (ts : List Thread) (t : ℕ) (th new : Thread) → slice_get ts t ≡ Some th → ((k : ℕ) → ThreadTyped (has st) ds (st.sorts k) (slice_get ts k)) → ThreadTyped (has st) ds (st.sorts t) (Some new)
      → (k : ℕ) → ThreadTyped (has st) ds (st.sorts k) (slice_get (slice_set ts t new) k)
  changed ts t th new e h typed k =
      ⊎_elim
      (λ q. subst (λ j. ThreadTyped (has st) ds (st.sorts j) (slice_get (slice_set ts t new) j)) (sym q.1) (subst (ThreadTyped (has st) ds (st.sorts t)) (sym (item_same ts t th new e)) typed))
      (λ q. subst (ThreadTyped (has st) ds (st.sorts k)) (sym (item_other ts t k new q.1)) (h k))
      (equal_or k t)

  -- a thread of the same number with another term
  pub set_sound : (ts : List Thread) (cs : List (Option V)) (t : ℕ) (th new : Thread) → slice_get ts t ≡ Some th → Sound ds st ts cs → ThreadTyped (has st) ds (st.sorts t) (Some new) → Sound ds st (slice_set ts t new) cs
  set_sound ts cs t th new e h typed = record {
    threads = changed ts t th new e h.threads typed;
    contents = h.contents;
    counted = h.counted ∙ sym (set_length ts t new);
  }

  frames_at : (k : Sort) (o : Option Thread) (th : Thread) → o ≡ Some th → ThreadTyped (has st) ds k o → FramesTyped (has st) ds k th.term.frames
  frames_at k o th e h = let w : ThreadTyped (has st) ds k (Some th) = subst (ThreadTyped (has st) ds k) e h in w.1

  pub resumed_threads : (ts : List Thread) (t : ℕ) (p : Part) (o : Option Thread) → slice_get ts t ≡ o → ((k : ℕ) → ThreadTyped (has st) ds (st.sorts k) (slice_get ts k)) → FitsFor p t
      → (k : ℕ) → ThreadTyped (has st) ds (st.sorts k) (slice_get (with_term t o (term p (frames_of o)) ts) k)
  resumed_threads ts t p None e h f = h
  resumed_threads ts t p (Some th) e h f = changed ts t th (record { term = term p th.term.frames; finished = th.finished }) e h (f, frames_at (st.sorts t) (slice_get ts t) th e (h t))

  pub resume_sound : (s : State) (t : ℕ) (p : Part) → SoundAt s → FitsFor p t → SoundAt (resume t p s)
  resume_sound s t p h f = record {
    threads = resumed_threads s.threads t p (slice_get s.threads t) refl h.threads f;
    contents = h.contents;
    counted = h.counted ∙ sym (term_length t (slice_get s.threads t) (term p (frames_of (slice_get s.threads t))) s.threads);
  }

  resume_all_sound : (us : List ℕ) (p : Part) (s : State) → SoundAt s → Ones (FitsFor p) us → SoundAt (resume_all us p s)
  resume_all_sound [] p s h w = h
  resume_all_sound (u ∷ us) p s h w = resume_all_sound us p (resume u p s) (resume_sound s u p h w.0) w.1

  -- thread t with another term, at the sort of that
  sorted : (ts : List Thread) (t : ℕ) (th new : Thread) → slice_get ts t ≡ Some th → ((k : ℕ) → ThreadTyped (has st) ds (st.sorts k) (slice_get ts k)) → (k : Sort) → ThreadTyped (has st) ds k (Some new)
      → (u : ℕ) → ThreadTyped (has st) ds (cond (u == t) k (st.sorts u)) (slice_get (slice_set ts t new) u)
  sorted ts t th new is old k typed u =
      ⊎_elim
      (λ q. subst (λ z. ThreadTyped (has st) ds z (slice_get (slice_set ts t new) u)) (sym (cond_true (u == t) k (st.sorts u) q.0))
      (subst (ThreadTyped (has st) ds k) (sym (ap (slice_get (slice_set ts t new)) q.1 ∙ item_same ts t th new is)) typed))
      (λ q. subst (λ z. ThreadTyped (has st) ds z (slice_get (slice_set ts t new) u)) (sym (cond_false (u == t) k (st.sorts u) q.0))
      (subst (ThreadTyped (has st) ds (st.sorts u)) (sym (item_other ts t u new q.1)) (old u)))
      (equal_or u t)

  pub moved_sound : (s : State) (t : ℕ) (th : Thread) (u : Term) → slice_get s.threads t ≡ Some th → SoundAt s → (h : TermTyped (has st) ds u) → Sound ds (with_sort t h.sort st) (move t u s).threads s.cells
  moved_sound s t th u is d h =
      let e : with_term t (slice_get s.threads t) u s.threads ≡ slice_set s.threads t (record { term = u; finished = th.finished }) = ap (λ o. with_term t o u s.threads) is in
      record {
        threads = λ k. subst (λ ts. ThreadTyped (has st) ds (cond (k == t) h.sort (st.sorts k)) (slice_get ts k)) (sym e) (sorted s.threads t th (record { term = u; finished = th.finished }) is d.threads h.sort (h.part, h.frames) k);
        contents = d.contents;
        counted = d.counted ∙ sym (term_length t (slice_get s.threads t) u s.threads);
      }

  -- ---- what a blocked thread gets

  -- by its reason: the sort of what it is to get, and of what it gives
  abbrev pub Expects : Reason V → Sort → Type 0
  Expects (Taking m) k = (p : Purpose) × (slice_get st.cells m ≡ Some p) × (k ≡ a_value (held_by p))
  Expects (Reading m) k = (p : Purpose) × (slice_get st.cells m ≡ Some p) × (k ≡ a_value (held_by p))
  Expects (Putting m v) k = (k ≡ a_value unit) × (p : Purpose) × (slice_get st.cells m ≡ Some p) × HasV (has st) (held_by p) v
  Expects (Throwing u e) k = k ≡ a_value unit
  Expects (Sleeping due) k = k ≡ a_value unit

  take_expects : (m : ℕ) {k : Sort} → OpTyped (has st) ds (Calls TakeMVar (val.Cell m ∷ [])) k → Expects (Taking m) k
  take_expects m (calls_typed (asks_take {t}) (one_value h no_values)) = (for_values t, h, refl)

  read_expects : (m : ℕ) {k : Sort} → OpTyped (has st) ds (Calls ReadMVar (val.Cell m ∷ [])) k → Expects (Reading m) k
  read_expects m (calls_typed (asks_read {t}) (one_value h no_values)) = (for_values t, h, refl)
  read_expects m (calls_typed (asks_read_end {t}) (one_value h no_values)) = (for_end t, h, refl)

  put_expects : (m : ℕ) (v : V) {k : Sort} → OpTyped (has st) ds (Calls PutMVar (val.Cell m ∷ v ∷ [])) k → Expects (Putting m v) k
  put_expects m v (calls_typed (asks_put {t}) (one_value h (one_value g no_values))) = (refl, for_values t, h, g)
  put_expects m v (calls_typed (asks_put_end {t}) (one_value h (one_value g no_values))) = (refl, for_end t, h, g)

  throw_expects : {vs : List V} {k : Sort} → OpTyped (has st) ds (Calls ThrowTo vs) k → k ≡ a_value unit
  throw_expects (calls_typed asks_throw_to h) = refl

  delay_expects : {vs : List V} {k : Sort} → OpTyped (has st) ds (Calls ThreadDelay vs) k → k ≡ a_value unit
  delay_expects (calls_typed asks_delay h) = refl

  op_expects : (r : Reason V) (op : Operation) (k : Sort) → Blocks r op → OpTyped (has st) ds op k → Expects r k
  op_expects (Taking m) op k e h = take_expects m (subst (λ o. OpTyped (has st) ds o k) e h)
  op_expects (Reading m) op k e h = read_expects m (subst (λ o. OpTyped (has st) ds o k) e h)
  op_expects (Putting m v) op k e h = put_expects m v (subst (λ o. OpTyped (has st) ds o k) e h)
  op_expects (Throwing u x) op k e h = throw_expects (subst (λ o. OpTyped (has st) ds o k) e h)
  op_expects (Sleeping due) op k e h = delay_expects (subst (λ o. OpTyped (has st) ds o k) e.1 h)

  pub part_op : {op : Operation} {k : Sort} → PartTyped (has st) ds (Performs op) k → OpTyped (has st) ds op k
  part_op (op_typed h) = h

  part_expects : (r : Reason V) (p : Part) (k : Sort) → OpPart (Blocks r) p → PartTyped (has st) ds p k → Expects r k
  part_expects r (Performs op) k b h = op_expects r op k b (part_op h)
  part_expects r _ k b h = absurd b

  -- a blocked thread may get what it expects
  pub fit_at : (t : ℕ) (r : Reason V) (p : Part) (o : Option Thread) → At (Blocks r) o → ThreadTyped (has st) ds (st.sorts t) o → ((k : Sort) → Expects r k → PartTyped (has st) ds p k) → FitsFor p t
  fit_at t r p None b h f = absurd b
  fit_at t r p (Some th) b h f = f (st.sorts t) (part_expects r th.term.part (st.sorts t) b h.0)

  pub unit_answer : (k : Sort) → k ≡ a_value unit → PartTyped (has st) ds (Ret UnitValue) k
  unit_answer k e = subst (PartTyped (has st) ds (Ret UnitValue)) (sym e) (ret_typed tt)

  same_type : (o : Option Purpose) (p q : Purpose) (v : V) → o ≡ Some p → o ≡ Some q → HasV (has st) (held_by p) v → HasV (has st) (held_by q) v
  same_type o p q v e f h = let s : ◌≡◌ {A = Option Purpose} (Some p) (Some q) = sym e ∙ f in let r : p ≡ q = cc s in subst (λ z. HasV (has st) (held_by z) v) r h

  -- ---- cells

  set_contents : (cs : List (Option V)) (ks : List Purpose) (m : ℕ) (c : Option V) (p : Purpose) → ((k : ℕ) → CellTyped (has st) (slice_get cs k) (slice_get ks k)) → slice_get ks m ≡ Some p → ContentTyped (has st) p c
      → (k : ℕ) → CellTyped (has st) (slice_get (slice_set cs m c) k) (slice_get ks k)
  set_contents [] ks m c p h e new k = h k
  set_contents (d ∷ cs) [] m c p h e new k = absurd (h zero)
  set_contents (d ∷ cs) (q ∷ ks) zero c p h e new zero = let r : p ≡ q = cc e in subst (λ z. ContentTyped (has st) z c) r new
  set_contents (d ∷ cs) (q ∷ ks) zero c p h e new (suc k) = h (suc k)
  set_contents (d ∷ cs) (q ∷ ks) (suc m) c p h e new zero = h zero
  set_contents (d ∷ cs) (q ∷ ks) (suc m) c p h e new (suc k) = set_contents cs ks m c p (λ j. h (suc j)) e new k

  cell_sound : (s : State) (m : ℕ) (c : Option V) (p : Purpose) → SoundAt s → slice_get st.cells m ≡ Some p → ContentTyped (has st) p c → SoundAt (record s { cells = slice_set s.cells m c })
  cell_sound s m c p h e new = record { threads = h.threads; contents = set_contents s.cells st.cells m c p h.contents e new; counted = h.counted }

  -- the type of what a thread that waits to put brings
  brought : (m : ℕ) (v : V) (p : Purpose) (k : Sort) (o : Option Thread) → slice_get st.cells m ≡ Some p → At (Blocks (Putting m v)) o → ThreadTyped (has st) ds k o → HasV (has st) (held_by p) v
  brought m v p k None e b h = absurd b
  brought m v p k (Some th) e b h = let x = part_expects (Putting m v) th.term.part k b h.0 in same_type (slice_get st.cells m) x.1 p v x.2 e x.3

  moves_in_sound : (m : ℕ) (s : State) (p : Purpose) (o : Option (ℕ × V)) → SoundAt s → slice_get st.cells m ≡ Some p → Found (Waits s.threads) (puts m) o → SoundAt (moves_in m o s)
  moves_in_sound m s p None h e f = cell_sound s m None p h e tt
  moves_in_sound m s p (Some w) h e f =
      let at : At (Blocks (Putting m w.1)) (slice_get s.threads w.0) = subst (λ r. At (Blocks r) (slice_get s.threads w.0)) (puts_is m f.0 w.1 f.2) f.1.0 in
      resume_sound (record s { cells = slice_set s.cells m (Some w.1) }) w.0 (Ret UnitValue) (cell_sound s m (Some w.1) p h e (brought m w.1 p (st.sorts w.0) (slice_get s.threads w.0) e at (h.threads w.0)))
      (fit_at w.0 (Putting m w.1) (Ret UnitValue) (slice_get s.threads w.0) at (h.threads w.0) (λ k b. unit_answer k b.0))

  pub taken_sound : (m : ℕ) (s : State) (p : Purpose) → Holds s → SoundAt s → slice_get st.cells m ≡ Some p → SoundAt (taken m s)
  taken_sound m s p g h e =
      moves_in_sound m s p (first_put (line_of m s.blocked)) h e (subst (Found (Waits s.threads) (puts m)) (sym (put_is_first m s.blocked)) (first_found (Waits s.threads) (puts m) s.blocked g.waits))

  goes_in_sound : (m : ℕ) (v : V) (s : State) (p : Purpose) (o : Option (ℕ × Unit {0})) → SoundAt s → slice_get st.cells m ≡ Some p → HasV (has st) (held_by p) v → Found (Waits s.threads) (takes m) o → SoundAt (goes_in m v (only_thread o) s)
  goes_in_sound m v s p None h e k f = cell_sound s m (Some v) p h e k
  goes_in_sound m v s p (Some w) h e k f =
      let at : At (Blocks (Taking m)) (slice_get s.threads w.0) = subst (λ r. At (Blocks r) (slice_get s.threads w.0)) (takes_is m f.0 w.1 f.2) f.1.0 in
      resume_sound s w.0 (Ret v) h
      (fit_at w.0 (Taking m) (Ret v) (slice_get s.threads w.0) at (h.threads w.0) (λ j b. subst (PartTyped (has st) ds (Ret v)) (sym b.2) (ret_typed (same_type (slice_get st.cells m) p b.0 v e b.1 k))))

  goes_on_sound : (m : ℕ) (v : V) (s : State) (p : Purpose) → Holds s → SoundAt s → slice_get st.cells m ≡ Some p → HasV (has st) (held_by p) v → SoundAt (goes_on m v s)
  goes_on_sound m v s p g h e k =
      subst (λ o. SoundAt (goes_in m v o s)) (sym (take_is_first m s.blocked)) (goes_in_sound m v s p (first_of_kind (takes m) s.blocked) h e k (first_found (Waits s.threads) (takes m) s.blocked g.waits))

  -- all that wait to read the cell may get a value of its type
  read_fits : (m : ℕ) (v : V) (p : Purpose) (u : ℕ) (o : Option Thread) → slice_get st.cells m ≡ Some p → HasV (has st) (held_by p) v → At (Blocks (Reading m)) o → ThreadTyped (has st) ds (st.sorts u) o → FitsFor (Ret v) u
  read_fits m v p u o e k at typed =
      fit_at u (Reading m) (Ret v) o at typed (λ j b. subst (PartTyped (has st) ds (Ret v)) (sym b.2) (ret_typed (same_type (slice_get st.cells m) p b.0 v e b.1 k)))

  reads_sound : (m : ℕ) (v : V) (s : State) (p : Purpose) → Holds s → SoundAt s → slice_get st.cells m ≡ Some p → HasV (has st) (held_by p) v → SoundAt (read_by_all m v s)
  reads_sound m v s p g h e k =
      subst (λ us. SoundAt (resume_all us (Ret v) s)) (sym (readers_are m s.blocked))
      (resume_all_sound (those (λ u. reads_at m) s.blocked) (Ret v) s h
      (ones_those_if (Waits s.threads) (FitsFor (Ret v)) (λ u. reads_at m) s.blocked
      (λ u r q w. read_fits m v p u (slice_get s.threads u) e k (subst (λ x. At (Blocks x) (slice_get s.threads u)) (reads_is m r q) w.0) (h.threads u)) g.waits))

  pub given_sound : (m : ℕ) (v : V) (s : State) (p : Purpose) → Holds s → SoundAt s → slice_get st.cells m ≡ Some p → HasV (has st) (held_by p) v → SoundAt (given m v s)
  given_sound m v s p g h e k = goes_on_sound m v (read_by_all m v s) p (reads_hold m v s g) (reads_sound m v s p g h e k) e k

  -- ---- those that throw

  throw_reason : (t : ℕ) (r : Reason V) (k : Sort) → throws_at t r ≡ true → Expects r k → k ≡ a_value unit
  throw_reason t (Throwing u x) k e a = a
  throw_reason t _ k e a = absurd (cc e)

  pub thrown_reason : (t : ℕ) (r : Reason V) (e : Exn) (k : Sort) → throws t r ≡ Some e → Expects r k → k ≡ a_value unit
  thrown_reason t (Throwing u x) e k q a = a
  thrown_reason t _ e k q a = absurd (cc q)

  pub throwers_sound : (t : ℕ) (s : State) → Holds s → SoundAt s → SoundAt (resume_all (those (λ u. throws_at t) s.blocked) (Ret UnitValue) s)
  throwers_sound t s g h =
      resume_all_sound (those (λ u. throws_at t) s.blocked) (Ret UnitValue) s h
      (ones_those_if (Waits s.threads) (FitsFor (Ret UnitValue)) (λ u. throws_at t) s.blocked
      (λ u r q w. fit_at u r (Ret UnitValue) (slice_get s.threads u) w.0 (h.threads u) (λ k a. unit_answer k (throw_reason t r k q a))) g.waits)

  -- ---- those that are stranded

  -- an exception may stand in the place of any part
  pub all_throw_sound : (us : List ℕ) (e : Exn) (s : State) → SoundAt s → SoundAt (resume_all us (Throw e) s)
  all_throw_sound us e s h = resume_all_sound us (Throw e) s h (each_one (FitsFor (Throw e)) us (λ u. throw_typed))
