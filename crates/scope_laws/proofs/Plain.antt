-- What the phase of a thread says in plain words.
use Rattle.std.proofs.Common.{◌≡◌, ◌≢◌, ◌==◌, ℕ, suc, true, false, List, [], ◌∷◌, Option, Some, slice_get, refl, sym, ap, ◌∙◌, subst, ⊎_elim}
use Rattle.hs_base.specs.declared.exn.Exn.{Exn}
use Rattle.rules_expansion.specs.trees.Trees.{T}
use Rattle.rules_expansion.specs.trees.Programs.{Fn}
use Rattle.rules_expansion.specs.Names.{Name}
use Rattle.rules_expansion.specs.declared.hidden.Hidden.TheVariants.{ScopeResult}
use Rattle.rules_expansion.specs.declared.primitive.Primitive.{Primitive}
use Rattle.rules_expansion.specs.declared.primitive.Primitive.TheVariants.{PutMVar}
use Rattle.rules_expansion.specs.Core.{Core}
use Rattle.rules_meaning.specs.Values.{V, Cell, Env}
use Rattle.rules_sorts.specs.Sorts.{Sort}
use Rattle.hs_rules.specs.Terms.{Calls, Part, Throw, Performs, Frame, BindTo, mask_at}
use Rattle.hs_rules.specs.State.{Thread, State}
use Rattle.hs_laws.specs.BracketLaw.{count, IsMasked}
use Rattle.hs_laws.proofs.Lists.{equal_or, cond_false, Ones}
use Rattle.hs_progress.specs.CoreTyping.{asks_take, asks_try_take, asks_try_put}
use Rattle.hs_progress.specs.TypedStates.{Purpose, has, for_values, OpTyped, calls_typed, one_value, PartTyped, ThreadTyped, TypedState}
use Rattle.hs_progress.proofs.Sounds.{part_op}
use Rattle.scope_laws.specs.ScopeLaw.{is_added, acting, guards_here, guards, TakesOrTries}
use Rattle.scope_laws.specs.ScopePhases.{Role, Plain, Fresh, Running, Ended, IsOf, IsCell, IsCommon, Below, no_frames, below_bind, below_catch, below_mask, below_guarded, below_child, After, after_exit, after_handler}
use Rattle.scope_laws.specs.ScopePhases.{Stopping, stop_whole, stop_kills, stop_awaits, stop_gives, stop_leaves}
use Rattle.scope_laws.specs.ScopePhases.{Held, held_ret, held_throw, held_do, held_op, held_new, held_new_op, held_new_throw, held_new_cell, held_made, held_masked, held_fork, held_fork_op, held_forked, held_named, held_run, held_guarded, held_result, held_exit, held_handler, held_stop, held_stopped, held_return, held_rethrow, held_thrown, held_passing, held_child, held_action, held_fault, held_told, held_ending, held_put, held_put_op}
use Rattle.scope_laws.specs.ScopesKept.{IsForValues, IsForEnd, at_values, CellFits, Book, HeldThread, Fits, MaskedGuards, ThrownAtFull, StandsInScopes}
use Rattle.scope_laws.proofs.Phases.{not_result, bind_guards, do_guards, ret_guards, held_guards, held_owned, RunsIt, held_acts, after_masked, stop_masked}
use Rattle.scope_laws.proofs.Answers.{stop_part}
use Rattle.scope_laws.proofs.Threads.{not_both}

module _ (values : ℕ → Type 0) (roles : ℕ → Role) (t : ℕ) (j : Option ℕ) where
  -- ---- what guards is masked

  below_masked : {fs : List Frame} {o : List ℕ} → Below values roles t j fs o → MaskedGuards fs
  below_masked (no_frames e) = tt
  below_masked (below_bind {x} {b} {env} c f w r) = (λ n. absurd (n (bind_guards x env c f)), below_masked r)
  below_masked (below_catch c f w r) = below_masked r
  below_masked (below_mask r) = below_masked r
  below_masked (below_guarded k n m r) = (λ z. m, below_masked r)
  below_masked (below_child e n m) = (λ z. m, tt)

  after_guarded : {m : ℕ} {fs : List Frame} {o : List ℕ} → After values roles t j m fs o → MaskedGuards fs
  after_guarded (after_exit n w r) = (λ z. w, below_masked r)
  after_guarded (after_handler s n w r) = (λ z. s, (λ z. w, below_masked r))

  stop_guarded : {m : ℕ} {p : Part} {fs gs : List Frame} → Stopping values roles t j m fs p gs → MaskedGuards fs → MaskedGuards gs
  stop_guarded (stop_whole n) h = h
  stop_guarded (stop_kills n) h = h
  stop_guarded (stop_awaits n) h = h
  stop_guarded (stop_gives e) h = h
  stop_guarded (stop_leaves e) h = h
  stop_guarded _ h = (λ z. tt, h)

  held_masked_binds : {p : Part} {fs : List Frame} {o : List ℕ} → Held values roles t j p fs o → MaskedGuards fs
  held_masked_binds (held_ret r) = below_masked r
  held_masked_binds (held_throw r) = below_masked r
  held_masked_binds (held_do f w r) = below_masked r
  held_masked_binds (held_op f r) = below_masked r
  held_masked_binds (held_new c f g w r) = (λ n. absurd (n refl), below_masked r)
  held_masked_binds (held_new_op c f g w r) = (λ n. absurd (n refl), below_masked r)
  held_masked_binds (held_new_throw r) = (λ n. absurd (n refl), below_masked r)
  held_masked_binds (held_new_cell e c f g w r) = (λ n. absurd (n refl), below_masked r)
  held_masked_binds (held_made e n c f g w r) = below_masked r
  held_masked_binds (held_masked e n c f g w m r) = below_masked r
  held_masked_binds (held_fork e n c f g w m r) = (λ z. m, below_masked r)
  held_masked_binds (held_fork_op e n c f g w m r) = (λ z. m, below_masked r)
  held_masked_binds (held_forked k n a y c g w m r) = (λ z. m, below_masked r)
  held_masked_binds (held_named k n c g w m r) = below_masked r
  held_masked_binds (held_run k n g w m r) = below_masked r
  held_masked_binds (held_guarded k n g w m r) = (λ z. m, below_masked r)
  held_masked_binds (held_result k n m r) = (λ z. m, below_masked r)
  held_masked_binds (held_exit k n m r) = below_masked r
  held_masked_binds (held_handler k n s q m r) = (λ z. m, below_masked r)
  held_masked_binds (held_stop k s a) = stop_guarded s (after_guarded a)
  held_masked_binds (held_stopped e a) = after_guarded a
  held_masked_binds (held_return r) = below_masked r
  held_masked_binds (held_rethrow e s q m r) = (λ z. m, below_masked r)
  held_masked_binds (held_thrown e q m r) = (λ z. m, below_masked r)
  held_masked_binds (held_passing e q m r) = (λ z. m, below_masked r)
  held_masked_binds (held_action e n f w s) = (λ z. s, tt)
  held_masked_binds (held_fault e n q s) = (λ z. s, tt)
  held_masked_binds (held_told e n q s) = (λ z. s, tt)
  held_masked_binds (held_ending e n s) = (λ z. s, tt)
  held_masked_binds _ = tt

  held_masked_here : {p : Part} {fs : List Frame} {o : List ℕ} → Held values roles t j p fs o → guards_here p fs ≢ [] → IsMasked (mask_at fs)
  held_masked_here (held_ret r) n = absurd (n (ret_guards values roles t j r))
  held_masked_here (held_do {a} {env} f w r) n = absurd (n (do_guards env f))
  held_masked_here (held_masked e q c f g w m r) n = m
  held_masked_here (held_fork e q c f g w m r) n = m
  held_masked_here (held_fork_op e q c f g w m r) n = m
  held_masked_here (held_forked k q a y c g w m r) n = m
  held_masked_here (held_named k q c g w m r) n = m
  held_masked_here (held_run k q g w m r) n = m
  held_masked_here (held_guarded k q g w m r) n = m
  held_masked_here (held_result k q m r) n = m
  held_masked_here (held_exit k q m r) n = m
  held_masked_here (held_handler k q s z m r) n = s
  held_masked_here (held_stop k s a) n = stop_masked values roles t j s (after_masked values roles t j a)
  held_masked_here (held_stopped e a) n = after_masked values roles t j a
  held_masked_here (held_rethrow e s q m r) n = s
  held_masked_here (held_child e q f w s) n = s
  held_masked_here (held_action e q f w s) n = s
  held_masked_here (held_fault e q z s) n = z
  held_masked_here (held_told e q z s) n = z
  held_masked_here (held_ending e q s) n = s
  held_masked_here (held_put e q s) n = s
  held_masked_here (held_put_op e s) n = s
  held_masked_here _ n = absurd (n refl)

  -- ---- an exception at a bind to E

  clash : {A : Type 0} (x : Name) → IsCommon x → is_added ScopeResult x ≡ true → A
  clash x c e = let q : false ≡ true = sym (not_result x c) ∙ e in absurd (cc q)

  thrown_at : (e : Exn) {x : Name} {b : Core} {env : Env} {fs : List Frame} {o : List ℕ} → Held values roles t j (Throw e) (BindTo x b env ∷ fs) o → is_added ScopeResult x ≡ true → (m : ℕ) → IsCell env m → roles m ≡ Ended t
  thrown_at e (held_throw (below_bind {x} c f w r)) q m n = clash x c q
  thrown_at e (held_new_throw r) q m n = absurd (cc q)
  thrown_at e (held_stop k s a) q m n = absurd (stop_part values roles t j s)
  thrown_at e (held_passing {m = j} i n w r) q m k = let same : ◌≡◌ {A = Option V} (Some (Cell j)) (Some (Cell m)) = sym n ∙ k in let z : j ≡ m = cc same in subst (λ y. roles y ≡ Ended t) z i

  -- ---- a put

  put_at : {m : ℕ} {vs : List V} {fs : List Frame} {o : List ℕ} → (values m → ⊥) → Held values roles t j (Performs (Calls PutMVar (Cell m ∷ vs))) fs o → (p : ℕ) × (roles m ≡ Running p t)
  put_at n (held_op f r) = absurd (n f)
  put_at n (held_stop k s a) = absurd (stop_part values roles t j s)
  put_at n (held_put_op {p = p} e s) = (p, e.0)

-- what holds of each number of a list holds of one that stands in it
pub some_of : (P : ℕ → Type 0) (m : ℕ) (o : List ℕ) → Ones P o → count m o ≢ 0 → P m
some_of P m [] h n = absurd (n refl)
some_of P m (k ∷ o) h n =
    ⊎_elim (λ e. subst P (sym e.1) h.0) (λ e. some_of P m o h.1 (λ z. n (cond_false (m == k) (suc (count m o)) (count m o) e.0 ∙ z))) (equal_or m k)

-- the cell of a scope whose child is or was there is for that one's end
for_end : (r : Role) (t : ℕ) (c : Option (Option V)) (q : Option Purpose) → IsOf t r → CellFits r c q → IsForEnd q
for_end Plain t c q i h = absurd i
for_end (Fresh p) t c q i h = absurd i
for_end (Running p d) t c q i h = h.1
for_end (Ended p) t c q i h = h.1

full_of : (r : Role) (t : ℕ) (c : Option (Option V)) (q : Option Purpose) → r ≡ Ended t → CellFits r c q → (v : V) × (c ≡ Some (Some v))
full_of r t c q e h = let k : CellFits (Ended t) c q = subst (λ x. CellFits x c q) e h in k.0

module _ (ds : List Fn) (s : State) (d : TypedState ds s) (b : Book) (h : Fits d.store.cells b s) (t : ℕ) (th : Thread) (is : slice_get s.threads t ≡ Some th) where
  abbrev cells : List Purpose
  cells = d.store.cells

  held : Held (at_values cells) b.roles t (b.owed t) th.term.part th.term.frames (b.guarded t)
  held = subst (HeldThread cells b t) is (h.threads t)

  part_at : PartTyped (has d.store) ds th.term.part (d.store.sorts t)
  part_at = let k : ThreadTyped (has d.store) ds (d.store.sorts t) (Some th) = subst (ThreadTyped (has d.store) ds (d.store.sorts t)) is (d.sound.threads t) in k.0

  values_at : (m : ℕ) (u : T) → slice_get cells m ≡ Some (for_values u) → at_values cells m
  values_at m u e = subst IsForValues (sym e) tt

  thrown_full : (p : Part) (fs : List Frame) {o : List ℕ} → Held (at_values cells) b.roles t (b.owed t) p fs o → ThrownAtFull s p fs
  thrown_full (Throw e) (BindTo x a env ∷ fs) k = λ q m n. full_of (b.roles m) t (slice_get s.cells m) (slice_get cells m) (thrown_at (at_values cells) b.roles t (b.owed t) e k q m n) (h.contents m)
  thrown_full _ _ k = tt

  typed_call : (w : Primitive) (vs : List V) → th.term.part ≡ Performs (Calls w vs) → OpTyped (has d.store) ds (Calls w vs) (d.store.sorts t)
  typed_call w vs e = part_op ds d.store (subst (λ z. PartTyped (has d.store) ds z (d.store.sorts t)) e part_at)

  -- an operation that takes or tries is at a cell for values
  takes_at : {w : Primitive} {m : ℕ} {vs : List V} {k : Sort} → TakesOrTries w → OpTyped (has d.store) ds (Calls w (Cell m ∷ vs)) k → at_values cells m
  takes_at {m = m} i (calls_typed (asks_take {t = u}) (one_value q r)) = values_at m u q
  takes_at {m = m} i (calls_typed (asks_try_take {t = u}) (one_value q r)) = values_at m u q
  takes_at {m = m} i (calls_typed (asks_try_put {t = u}) (one_value q r)) = values_at m u q
  takes_at i (calls_typed _ r) = absurd i

  guarded_at : (m : ℕ) → count m (guards th.term.part th.term.frames) ≢ 0 → IsForEnd (slice_get cells m) × IsOf t (b.roles m)
  guarded_at m n =
      let i : IsOf t (b.roles m) =
      some_of (λ m. IsOf t (b.roles m)) m (b.guarded t) (held_owned (at_values cells) b.roles t (b.owed t) held) (λ z. n (ap (count m) (held_guards (at_values cells) b.roles t (b.owed t) held) ∙ z)) in
      (for_end (b.roles m) t (slice_get s.cells m) (slice_get cells m) i (h.contents m), i)

  acted_at : (m : ℕ) → count m (acting th.term.part th.term.frames) ≢ 0 → IsForEnd (slice_get cells m) × (p : ℕ) × (b.roles m ≡ Running p t)
  acted_at m n =
      let x = some_of (RunsIt b.roles t) m (acting th.term.part th.term.frames) (held_acts (at_values cells) b.roles t (b.owed t) held) n in
      let i : IsOf x.0 (b.roles m) = subst (IsOf x.0) (sym x.1) refl in
      (for_end (b.roles m) x.0 (slice_get s.cells m) (slice_get cells m) i (h.contents m), x.0, x.1)

  pub stands : StandsInScopes cells b s t th
  stands = record {
    here = held_masked_here (at_values cells) b.roles t (b.owed t) held;
    binds = held_masked_binds (at_values cells) b.roles t (b.owed t) held;
    thrown = thrown_full th.term.part th.term.frames held;
    puts = λ m vs e i. put_at (at_values cells) b.roles t (b.owed t) (not_both (slice_get cells m) i) (subst (λ p. Held (at_values cells) b.roles t (b.owed t) p th.term.frames (b.guarded t)) e held);
    takes = λ w m vs i e f. not_both (slice_get cells m) f (takes_at i (typed_call w (Cell m ∷ vs) e));
    guarded = guarded_at;
    acted = acted_at;
  }
