-- Each operation of a typed thread that isn't blocked goes on, to a typed state.
use Rattle.std.proofs.Common.{◌≡◌, ⊎_elim, ℕ, zero, suc, ◌+◌, ◌<◌, ◌≤◌, ◌==◌, ℤ, pos, negsuc, List, [], ◌∷◌, ◌++◌, length, slice_get, true, false, cond, Option, Some, None, refl, sym, ap, ◌∙◌, subst, arith, length-append}
use Rattle.plain_laws.proofs.Lists.{get_last, get_before_last}
use Rattle.hs_base.specs.declared.exn.Exn.{Exn}
use Rattle.hs_base.specs.declared.exn.Exn.TheVariants.{Timeout}
use Rattle.hs_base.specs.declared.mask.Mask.{Mask}
use Rattle.hs_base.specs.declared.mask.Mask.TheVariants.{Unmasked}
use Rattle.rules_expansion.specs.trees.Trees.{T, unit, int, bool, text, thread, exn, maybe, either, cell}
use Rattle.rules_expansion.specs.trees.Programs.{Fn}
use Rattle.rules_meaning.specs.Values as val
use Rattle.rules_meaning.specs.Values.{V, UnitValue, Int, Truth, Text, Nothing, Just, Exception, Restore, Inst, with_name}
use Rattle.rules_expansion.specs.declared.primitive.Primitive.{Primitive}
use Rattle.rules_sorts.specs.Sorts.{Sort, a_value, a_masking_name, an_instance, a_scope_cell}
use Rattle.rules_sorts.specs.TypedMeaning.{of_int, of_text, of_exn, of_thread, of_cell, HasV}
use Rattle.hs_rules.specs.Terms.{Operation, Calls, Part, Ret, Throw, Do, MaskIn, Term, term}
use Rattle.rules_waiting.specs.Waiting.{Taking, Reading, Putting, Throwing, Sleeping}
use Rattle.hs_rules.specs.State.{AcquiredBy, ReleasedBy, Thread, State, with_term, frames_of, resume, answer, block, spawn}
use Rattle.hs_rules.specs.Primitives.{on_none, on_one, on_two, as_text, as_number, as_cell, as_thread, as_exn, as_instance, taken, given, take, read, put, try_take, try_put, throw_at, due_in, delay, clock_value, masking_text, line_feed, performed, operated}
use Rattle.hs_laws.proofs.Lists.{cond_cases, cond_true, cond_false, equal_or, some_item, item_append, item_below}
use Rattle.hs_laws.proofs.States.{Holds, Ready, ready_stopped, answer_holds}
use Rattle.hs_laws.proofs.Growing.{term_length}
use Rattle.hs_soundness.specs.CoreSorts.{OfSort, of_instance}
use Rattle.hs_progress.specs.CoreTyping.{with_bound, Asks, asks_put_str, asks_put_str_ln, asks_h_put_str_ln, asks_new, asks_new_empty, asks_new_scope_cell, asks_take, asks_put, asks_put_end, asks_read, asks_read_end, asks_try_take, asks_try_put, asks_my_thread, asks_masking, asks_clock, asks_delay, asks_throw_to, asks_new_timeout, asks_acquired, asks_release}
use Rattle.hs_progress.specs.TypedStates.{AllOfSorts, no_values, one_value, OpTyped, calls_typed, forks_typed, forks_unmask_typed, PartTyped, ret_typed, throw_typed, do_typed, FramesTyped, no_frames, mask_typed, ThreadTyped, ContentTyped, CellTyped, Purpose, for_values, for_end, held_by, Store, has, with_cell, with_thread, Sound, Follows}
use Rattle.hs_progress.proofs.Moves.{more_fits}
use Rattle.hs_progress.proofs.Stores.{stored_more, content_more, cell_more, part_more, frames_more, thread_more}
use Rattle.hs_progress.proofs.Sounds.{SoundAt, pack, resumed_threads, resume_sound, unit_answer, taken_sound, given_sound}

module _ (ds : List Fn) (st : Store) where
  -- a typed state is left
  abbrev pub Ok : Option State → Type 0
  Ok None = ⊥
  Ok (Some s) = Follows ds st (λ u. Unit {0}) s

  -- ---- the values of a primitive

  one_ok : {k : Sort} {vs : List V} (f : V → Option State) → AllOfSorts (has st) (k ∷ []) vs → ((v : V) → OfSort (has st) k v → Ok (f v)) → Ok (on_one vs f)
  one_ok f (one_value {v} h no_values) w = w v h

  two_ok : {k j : Sort} {vs : List V} (f : V → V → Option State) → AllOfSorts (has st) (k ∷ j ∷ []) vs → ((v u : V) → OfSort (has st) k v → OfSort (has st) j u → Ok (f v u)) → Ok (on_two vs f)
  two_ok f (one_value {v} h (one_value {v = u} g no_values)) w = w v u h g

  none_ok : {vs : List V} (o : Option State) → AllOfSorts (has st) [] vs → Ok o → Ok (on_none vs o)
  none_ok o no_values w = w

  text_ok : (v : V) (k : List ℕ → Option State) → of_text v → ((x : List ℕ) → Ok (k x)) → Ok (as_text v k)
  text_ok (Text x) k h f = f x
  text_ok _ k h f = absurd h

  number_ok : (v : V) (k : ℤ → Option State) → of_int v → ((x : ℤ) → Ok (k x)) → Ok (as_number v k)
  number_ok (Int x) k h f = f x
  number_ok _ k h f = absurd h

  exn_ok : (v : V) (k : Exn → Option State) → of_exn v → ((x : Exn) → Ok (k x)) → Ok (as_exn v k)
  exn_ok (Exception x) k h f = f x
  exn_ok _ k h f = absurd h

  instance_ok : (v : V) (k : ℕ → Option State) → of_instance v → ((i : ℕ) → Ok (k i)) → Ok (as_instance v k)
  instance_ok (Inst i) k h f = f i
  instance_ok _ k h f = absurd h

  cell_ok : (P : ℕ → Type 0) (v : V) (k : ℕ → Option State) → of_cell P v → ((m : ℕ) → P m → Ok (k m)) → Ok (as_cell v k)
  cell_ok P (val.Cell m) k h f = f m h
  cell_ok P _ k h f = absurd h

  thread_ok : (P : ℕ → Type 0) (v : V) (k : ℕ → Option State) → of_thread P v → ((u : ℕ) → P u → Ok (k u)) → Ok (as_thread v k)
  thread_ok P (val.Thread u) k h f = f u h
  thread_ok P _ k h f = absurd h

  -- the content of a cell for this purpose
  content_at : (s : State) (m : ℕ) (p : Purpose) → SoundAt ds st s → slice_get st.cells m ≡ Some p → CellTyped (has st) (slice_get s.cells m) (Some p)
  content_at s m p h e = subst (CellTyped (has st) (slice_get s.cells m)) e (h.contents m)

  -- ---- the thread's own answer
  module _ (s : State) (t : ℕ) (k : Sort) (same : k ≡ st.sorts t) (h : SoundAt ds st s) where
    own : (p : Part) → PartTyped (has st) ds p k → SoundAt ds st (resume t p s)
    own p q = resume_sound ds st s t p h (subst (PartTyped (has st) ds p) same q)

    answered : (v : V) → OfSort (has st) k v → Ok (Some (answer t v s))
    answered v q = pack ds st (λ u. Unit {0}) (answer t v s) (own (Ret v) (ret_typed q))

    take_ok : (u : Purpose) (m : ℕ) (c : Option (Option V)) → k ≡ a_value (held_by u) → slice_get st.cells m ≡ Some u → CellTyped (has st) c (Some u) → ((v : V) → Holds (answer t v s)) → Ok (take t m c s)
    take_ok u m None q e x a = absurd x
    take_ok u m (Some None) q e x a = pack ds st (λ u. Unit {0}) (block t (Taking m) s) h
    take_ok u m (Some (Some v)) q e x a =
        pack ds st (λ u. Unit {0}) (taken m (answer t v s)) (taken_sound ds st m (answer t v s) u (a v) (own (Ret v) (subst (PartTyped (has st) ds (Ret v)) (sym q) (ret_typed x))) e)

    read_ok : (u : Purpose) (m : ℕ) (c : Option (Option V)) → k ≡ a_value (held_by u) → slice_get st.cells m ≡ Some u → CellTyped (has st) c (Some u) → Ok (read t m c s)
    read_ok u m None q e x = absurd x
    read_ok u m (Some None) q e x = pack ds st (λ u. Unit {0}) (block t (Reading m) s) h
    read_ok u m (Some (Some v)) q e x = pack ds st (λ u. Unit {0}) (answer t v s) (own (Ret v) (subst (PartTyped (has st) ds (Ret v)) (sym q) (ret_typed x)))

    try_take_ok : (u : Purpose) (m : ℕ) (c : Option (Option V)) → k ≡ a_value (maybe (held_by u)) → slice_get st.cells m ≡ Some u → CellTyped (has st) c (Some u) → ((v : V) → Holds (answer t v s)) → Ok (try_take t m c s)
    try_take_ok u m None q e x a = absurd x
    try_take_ok u m (Some None) q e x a = pack ds st (λ u. Unit {0}) (answer t Nothing s) (own (Ret Nothing) (subst (PartTyped (has st) ds (Ret Nothing)) (sym q) (ret_typed tt)))
    try_take_ok u m (Some (Some v)) q e x a =
        pack ds st (λ u. Unit {0}) (taken m (answer t (Just v) s)) (taken_sound ds st m (answer t (Just v) s) u (a (Just v)) (own (Ret (Just v)) (subst (PartTyped (has st) ds (Ret (Just v))) (sym q) (ret_typed x))) e)

    put_ok : (u : Purpose) (m : ℕ) (v : V) (c : Option (Option V)) → k ≡ a_value unit → slice_get st.cells m ≡ Some u → HasV (has st) (held_by u) v → CellTyped (has st) c (Some u) → ((w : V) → Holds (answer t w s)) → Ok (put t m v c s)
    put_ok u m v None q e y x a = absurd x
    put_ok u m v (Some (Some w)) q e y x a = pack ds st (λ u. Unit {0}) (block t (Putting m v) s) h
    put_ok u m v (Some None) q e y x a = pack ds st (λ u. Unit {0}) (given m v (answer t UnitValue s)) (given_sound ds st m v (answer t UnitValue s) u (a UnitValue) (own (Ret UnitValue) (unit_answer ds st k q)) e y)

    try_put_ok : (u : Purpose) (m : ℕ) (v : V) (c : Option (Option V)) → k ≡ a_value bool → slice_get st.cells m ≡ Some u → HasV (has st) (held_by u) v → CellTyped (has st) c (Some u) → ((w : V) → Holds (answer t w s)) → Ok (try_put t m v c s)
    try_put_ok u m v None q e y x a = absurd x
    try_put_ok u m v (Some (Some w)) q e y x a = pack ds st (λ u. Unit {0}) (answer t (Truth false) s) (own (Ret (Truth false)) (subst (PartTyped (has st) ds (Ret (Truth false))) (sym q) (ret_typed tt)))
    try_put_ok u m v (Some None) q e y x a =
        pack ds st (λ u. Unit {0}) (given m v (answer t (Truth true) s)) (given_sound ds st m v (answer t (Truth true) s) u (a (Truth true)) (own (Ret (Truth true)) (subst (PartTyped (has st) ds (Ret (Truth true))) (sym q) (ret_typed tt))) e y)

    throw_at_ok : (u : ℕ) (e : Exn) → u < st.count → k ≡ a_value unit → Ok (throw_at t u e (slice_get s.threads u) s)
    throw_at_ok u e lt q =
        let c : st.count ≡ length s.threads = h.counted in
        let f = some_item s.threads u (omega (arith, lt, c)) in
        subst (λ o. Ok (throw_at t u e o s)) (sym f.1)
        (cond_cases Ok (u == t) (Some (resume t (Throw e) s)) (cond f.0.finished (Some (answer t UnitValue s)) (Some (block t (Throwing u e) s)))
        (λ b. pack ds st (λ u. Unit {0}) (resume t (Throw e) s) (own (Throw e) throw_typed))
        (λ b. cond_cases Ok f.0.finished (Some (answer t UnitValue s)) (Some (block t (Throwing u e) s))
        (λ d. pack ds st (λ u. Unit {0}) (answer t UnitValue s) (own (Ret UnitValue) (unit_answer ds st k q)))
        (λ d. pack ds st (λ u. Unit {0}) (block t (Throwing u e) s) h)))

    delay_ok : (z : ℤ) → k ≡ a_value unit → Ok (delay t z s)
    delay_ok (pos y) q =
        cond_cases Ok (y == 0) (Some (answer t UnitValue s)) (Some (block t (Sleeping (due_in y s)) s))
        (λ b. pack ds st (λ u. Unit {0}) (answer t UnitValue s) (own (Ret UnitValue) (unit_answer ds st k q)))
        (λ b. pack ds st (λ u. Unit {0}) (block t (Sleeping (due_in y s)) s) h)
    delay_ok (negsuc y) q = pack ds st (λ u. Unit {0}) (answer t UnitValue s) (own (Ret UnitValue) (unit_answer ds st k q))

  -- ---- new cells

  contents_append : (P : ℕ → T → Type 0) (cs : List (Option V)) (ks : List Purpose) (c : Option V) (t : Purpose) → ((k : ℕ) → CellTyped P (slice_get cs k) (slice_get ks k)) → ContentTyped P t c
      → (k : ℕ) → CellTyped P (slice_get (cs ++ c ∷ []) k) (slice_get (ks ++ t ∷ []) k)
  contents_append P [] [] c t h new zero = new
  contents_append P [] [] c t h new (suc k) = tt
  contents_append P [] (q ∷ ks) c t h new k = absurd (h zero)
  contents_append P (d ∷ cs) [] c t h new k = absurd (h zero)
  contents_append P (d ∷ cs) (q ∷ ks) c t h new zero = h zero
  contents_append P (d ∷ cs) (q ∷ ks) c t h new (suc k) = contents_append P cs ks c t (λ j. h (suc j)) new k

  last_cell : (P : ℕ → T → Type 0) (cs : List (Option V)) (ks : List Purpose) (t : Purpose) → ((k : ℕ) → CellTyped P (slice_get cs k) (slice_get ks k)) → slice_get (ks ++ t ∷ []) (length cs) ≡ Some t
  last_cell P [] [] t h = refl
  last_cell P [] (q ∷ ks) t h = absurd (h zero)
  last_cell P (d ∷ cs) [] t h = absurd (h zero)
  last_cell P (d ∷ cs) (q ∷ ks) t h = last_cell P cs ks t (λ j. h (suc j))

  -- the sort of a cell itself
  abbrev sort_for : Purpose → Sort
  sort_for (for_values t) = a_value (cell t)
  sort_for (for_end t) = a_scope_cell t

  is_for : (new : Store) (m : ℕ) (p : Purpose) → slice_get new.cells m ≡ Some p → OfSort (has new) (sort_for p) (val.Cell m)
  is_for new m (for_values t) e = e
  is_for new m (for_end t) e = e

  new_cell_ok : (s : State) (t : ℕ) (u : Purpose) (c : Option V) → sort_for u ≡ st.sorts t → SoundAt ds st s → ContentTyped (has st) u c → Ok (Some (answer t (val.Cell (length s.cells)) (record s { cells = s.cells ++ c ∷ [] })))
  new_cell_ok s t u c same h new =
      let more : Store = with_cell u st in
      let keeps : (m : ℕ) (v : Purpose) → slice_get st.cells m ≡ Some v → slice_get (st.cells ++ u ∷ []) m ≡ Some v = λ m v e. item_append st.cells (u ∷ []) m v e in
      let le : st.count ≤ st.count = omega arith in
      let grow = stored_more st.cells (st.cells ++ u ∷ []) st.count st.count keeps le in
      let h1 : Sound ds more s.threads (s.cells ++ c ∷ []) = record {
        threads = λ k. thread_more (has st) (has more) grow ds (st.sorts k) (slice_get s.threads k) (h.threads k);
        contents = contents_append (has more) s.cells st.cells c u (λ k. cell_more (has st) (has more) grow (slice_get s.cells k) (slice_get st.cells k) (h.contents k)) (content_more (has st) (has more) grow u c new);
        counted = h.counted;
      } in
      let a : PartTyped (has more) ds (Ret (val.Cell (length s.cells))) (st.sorts t) = subst (PartTyped (has more) ds (Ret (val.Cell (length s.cells)))) same (ret_typed (is_for more (length s.cells) u (last_cell (has st) s.cells st.cells u h.contents))) in
      record {
        store = more;
        sound = resume_sound ds more (record s { cells = s.cells ++ c ∷ [] }) t (Ret (val.Cell (length s.cells))) h1 a;
        cells = keeps;
        count = le;
        sorts = λ w lt q. refl;
      }

  -- ---- new threads

  spawned : (j : Sort) (ts : List Thread) (new : Thread) → length ts ≡ st.count → ((k : ℕ) → ThreadTyped (has (with_thread j st)) ds (st.sorts k) (slice_get ts k)) → ThreadTyped (has (with_thread j st)) ds j (Some new)
      → (k : ℕ) → ThreadTyped (has (with_thread j st)) ds (cond (k == st.count) j (st.sorts k)) (slice_get (ts ++ new ∷ []) k)
  spawned j ts new long old typed k =
      ⊎_elim
      (λ q. subst (λ z. ThreadTyped (has (with_thread j st)) ds z (slice_get (ts ++ new ∷ []) k)) (sym (cond_true (k == st.count) j (st.sorts k) q.0))
      (subst (ThreadTyped (has (with_thread j st)) ds j) (sym (ap (slice_get (ts ++ new ∷ [])) (q.1 ∙ sym long) ∙ get_last ts new)) typed))
      (λ q. subst (λ z. ThreadTyped (has (with_thread j st)) ds z (slice_get (ts ++ new ∷ []) k)) (sym (cond_false (k == st.count) j (st.sorts k) q.0))
      (subst (ThreadTyped (has (with_thread j st)) ds (st.sorts k)) (sym (get_before_last ts new k (λ e. q.1 (e ∙ long)))) (old k)))
      (equal_or k st.count)

  pub fork_sound : (s : State) (t : ℕ) (x : Term) → a_value thread ≡ st.sorts t → SoundAt ds st s → (j : Sort) → PartTyped (has st) ds x.part j × FramesTyped (has st) ds j x.frames
      → Sound ds (with_thread j st) (spawn x (answer t (val.Thread (length s.threads)) s)).threads s.cells
  fork_sound s t x same h j new =
      let le : st.count ≤ suc st.count = omega arith in
      let grow = stored_more st.cells st.cells st.count (suc st.count) (λ m v e. e) le in
      let c : st.count ≡ length s.threads = h.counted in
      let lt : length s.threads < suc st.count = omega (arith, c) in
      let wide : Store = record { cells = st.cells; count = suc st.count; sorts = st.sorts } in
      let a : PartTyped (has wide) ds (Ret (val.Thread (length s.threads))) (st.sorts t) = subst (PartTyped (has wide) ds (Ret (val.Thread (length s.threads)))) same (ret_typed lt) in
      let ts = with_term t (slice_get s.threads t) (term (Ret (val.Thread (length s.threads))) (frames_of (slice_get s.threads t))) s.threads in
      let long : length ts ≡ length s.threads = term_length t (slice_get s.threads t) (term (Ret (val.Thread (length s.threads))) (frames_of (slice_get s.threads t))) s.threads in
      let old : (k : ℕ) → ThreadTyped (has wide) ds (st.sorts k) (slice_get ts k) =
      resumed_threads ds wide s.threads t (Ret (val.Thread (length s.threads))) (slice_get s.threads t) refl (λ k. thread_more (has st) (has wide) grow ds (st.sorts k) (slice_get s.threads k) (h.threads k)) a in
      record {
        threads = spawned j ts (record { term = x; finished = false }) (long ∙ sym c) old (part_more (has st) (has wide) grow ds new.0, frames_more (has st) (has wide) grow ds new.1);
        contents = λ k. cell_more (has st) (has wide) grow (slice_get s.cells k) (slice_get st.cells k) (h.contents k);
        counted = let q : length (ts ++ record { term = x; finished = false } ∷ []) ≡ length ts + 1 = length-append ts (record { term = x; finished = false } ∷ []) in omega (arith, q, long, c);
      }

  fork_ok : (s : State) (t : ℕ) (x : Term) → a_value thread ≡ st.sorts t → SoundAt ds st s → (j : Sort) → PartTyped (has st) ds x.part j × FramesTyped (has st) ds j x.frames → Ok (Some (spawn x (answer t (val.Thread (length s.threads)) s)))
  fork_ok s t x same h j new = record {
    store = with_thread j st;
    sound = fork_sound s t x same h j new;
    cells = λ m v e. e;
    count = omega arith;
    sorts = λ u lt2 q. ⊎_elim (λ e. absurd (let z : u ≡ st.count = e.1 in omega (arith, lt2, z))) (λ e. cond_false (u == st.count) j (st.sorts u) e.0) (equal_or u st.count);
  }

  -- ---- every primitive of a typed thread goes on
  module _ (s : State) (t : ℕ) (m : Mask) (h : Sound ds st s.threads s.cells) where
    primitive_ok : {w : Primitive} {vs : List V} {ks : List Sort} {k : Sort} → Asks w ks k → AllOfSorts (has st) ks vs → (r : Ready s t (Calls w vs)) → k ≡ st.sorts t → Ok (performed t m w vs s)
    primitive_ok asks_put_str v r same = one_ok _ v (λ x q. text_ok x _ q (λ y. answered (record s { output = s.output ++ y }) t (a_value unit) same h UnitValue tt))
    primitive_ok asks_put_str_ln v r same = one_ok _ v (λ x q. text_ok x _ q (λ y. answered (record s { output = s.output ++ y ++ line_feed }) t (a_value unit) same h UnitValue tt))
    primitive_ok asks_h_put_str_ln v r same = one_ok _ v (λ x q. text_ok x _ q (λ y. answered (record s { errors = s.errors ++ y ++ line_feed }) t (a_value unit) same h UnitValue tt))
    primitive_ok (asks_new {t = u}) v r same = one_ok _ v (λ x q. new_cell_ok s t (for_values u) (Some x) same h q)
    primitive_ok (asks_new_empty {t = u}) v r same = none_ok _ v (new_cell_ok s t (for_values u) None same h tt)
    primitive_ok (asks_new_scope_cell {t = u}) v r same = none_ok _ v (new_cell_ok s t (for_end u) None same h tt)
    primitive_ok (asks_take {t = u}) v r same =
        one_ok _ v (λ x q. cell_ok (λ c. slice_get st.cells c ≡ Some (for_values u)) x _ q (λ c e. take_ok s t (a_value u) same h (for_values u) c (slice_get s.cells c) refl e (content_at s c (for_values u) h e) (λ w. answer_holds s t w r.holds (ready_stopped r tt))))
    primitive_ok (asks_put {t = u}) v r same =
        two_ok _ v (λ x y q p. cell_ok (λ c. slice_get st.cells c ≡ Some (for_values u)) x _ q (λ c e. put_ok s t (a_value unit) same h (for_values u) c y (slice_get s.cells c) refl e p (content_at s c (for_values u) h e) (λ w. answer_holds s t w r.holds (ready_stopped r tt))))
    primitive_ok (asks_put_end {t = u}) v r same =
        two_ok _ v (λ x y q p. cell_ok (λ c. slice_get st.cells c ≡ Some (for_end u)) x _ q (λ c e. put_ok s t (a_value unit) same h (for_end u) c y (slice_get s.cells c) refl e p (content_at s c (for_end u) h e) (λ w. answer_holds s t w r.holds (ready_stopped r tt))))
    primitive_ok (asks_read {t = u}) v r same =
        one_ok _ v (λ x q. cell_ok (λ c. slice_get st.cells c ≡ Some (for_values u)) x _ q (λ c e. read_ok s t (a_value u) same h (for_values u) c (slice_get s.cells c) refl e (content_at s c (for_values u) h e)))
    primitive_ok (asks_read_end {t = u}) v r same =
        one_ok _ v (λ x q. cell_ok (λ c. slice_get st.cells c ≡ Some (for_end u)) x _ q (λ c e. read_ok s t (a_value (either exn u)) same h (for_end u) c (slice_get s.cells c) refl e (content_at s c (for_end u) h e)))
    primitive_ok (asks_try_take {t = u}) v r same =
        one_ok _ v (λ x q. cell_ok (λ c. slice_get st.cells c ≡ Some (for_values u)) x _ q (λ c e. try_take_ok s t (a_value (maybe u)) same h (for_values u) c (slice_get s.cells c) refl e (content_at s c (for_values u) h e) (λ w. answer_holds s t w r.holds (ready_stopped r tt))))
    primitive_ok (asks_try_put {t = u}) v r same =
        two_ok _ v (λ x y q p. cell_ok (λ c. slice_get st.cells c ≡ Some (for_values u)) x _ q (λ c e. try_put_ok s t (a_value bool) same h (for_values u) c y (slice_get s.cells c) refl e p (content_at s c (for_values u) h e) (λ w. answer_holds s t w r.holds (ready_stopped r tt))))
    primitive_ok asks_my_thread v r same =
        none_ok _ v (answered s t (a_value thread) same h (val.Thread t) (let c : st.count ≡ length s.threads = h.counted in let b : t < length s.threads = item_below s.threads t r.th r.is in let lt : t < st.count = omega (arith, c, b) in lt))
    primitive_ok asks_masking v r same = none_ok _ v (answered s t (a_value text) same h (Text (masking_text m)) tt)
    primitive_ok asks_clock v r same = none_ok _ v (answered s t (a_value int) same h (clock_value s) tt)
    primitive_ok asks_delay v r same = one_ok _ v (λ x q. number_ok x _ q (λ y. delay_ok s t (a_value unit) same h y refl))
    primitive_ok asks_throw_to v r same = two_ok _ v (λ x y q p. thread_ok (λ u. u < st.count) x _ q (λ u lt. exn_ok y _ p (λ e. throw_at_ok s t (a_value unit) same h u e lt refl)))
    primitive_ok asks_new_timeout v r same = none_ok _ v (answered (record s { next_timeout = suc s.next_timeout }) t (a_value exn) same h (Exception (Timeout s.next_timeout)) tt)
    primitive_ok asks_acquired v r same = none_ok _ v (answered (record s { marks = AcquiredBy s.next_instance t ∷ s.marks; next_instance = suc s.next_instance }) t an_instance same h (Inst s.next_instance) tt)
    primitive_ok asks_release v r same = one_ok _ v (λ x q. instance_ok x _ q (λ i. answered (record s { marks = ReleasedBy i t ∷ s.marks }) t (a_value unit) same h UnitValue tt))

    pub operated_ok : {op : Operation} {k : Sort} → OpTyped (has st) ds op k → (r : Ready s t op) → k ≡ st.sorts t → Ok (operated t m op s)
    operated_ok (calls_typed p v) r same = primitive_ok p v r same
    operated_ok (forks_typed {a} {env} {j} x) r same = fork_ok s t (term (Do a env) (MaskIn m ∷ [])) same h j (do_typed x, mask_typed no_frames)
    operated_ok (forks_unmask_typed {r = y} {a} {env} {j} x) r same =
        fork_ok s t (term (Do a (with_name y (Restore Unmasked) env)) (MaskIn m ∷ [])) same h
        j (do_typed (record { here = x.here; scope = with_bound y a_masking_name x.scope; does = x.does; fits = more_fits (has st) x.scope env y a_masking_name (Restore Unmasked) x.binds tt x.fits }), mask_typed no_frames)
