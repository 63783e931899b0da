-- A child that has still to put into the cell of its scope acts on that, or is about to put.
use Rattle.std.proofs.Common.{◌≡◌, ◌≢◌, ◌==◌, ℕ, suc, List, [], ◌∷◌, ◌++◌, Option, Some, None, sym, ◌∙◌, subst, ◌⊎◌, inl, inr, ⊎_elim}
use Rattle.rules_expansion.specs.Names.{Added}
use Rattle.rules_expansion.specs.declared.hidden.Hidden.TheVariants.{ScopeCell}
use Rattle.rules_meaning.specs.Values.{V, Cell, value_at}
use Rattle.hs_rules.specs.Terms.{Part, Ret, Throw, Do, Performs, Frame}
use Rattle.hs_laws.specs.BracketLaw.{count}
use Rattle.hs_laws.specs.Standing.{IsResult}
use Rattle.hs_laws.proofs.Lists.{cond_true, cond_false, equal_or}
use Rattle.scope_laws.specs.ScopeLaw.{cell_of, acting_bind, acting_do, acting_frames, acting_ret, acting, ending}
use Rattle.scope_laws.specs.ScopePhases.{Role, Below, no_frames, below_bind, below_catch, below_mask, below_guarded, below_child, After, after_exit, after_handler}
use Rattle.scope_laws.specs.ScopePhases.{Owes, Stopping, stop_whole}
use Rattle.scope_laws.specs.ScopePhases.{Held, held_ret, held_throw, held_do, held_op, held_new, held_new_op, held_new_throw, held_new_cell, held_made, held_masked, held_fork, held_fork_op, held_forked, held_named, held_run, held_guarded, held_result, held_exit, held_handler, held_stop, held_stopped, held_return, held_rethrow, held_thrown, held_passing, held_child, held_action, held_fault, held_told, held_ending, held_put, held_put_op}

-- a number stands in a list
abbrev pub Among : ℕ → List ℕ → Type 0
Among m [] = ⊥
Among m (k ∷ ks) = (k ≡ m) ⊎ Among m ks

behind : (m : ℕ) (us vs : List ℕ) → Among m vs → Among m (us ++ vs)
behind m [] vs h = h
behind m (u ∷ us) vs h = inr (behind m us vs h)

pub among_counts : (m : ℕ) (ks : List ℕ) → Among m ks → count m ks ≢ 0
among_counts m [] h z = h
among_counts m (k ∷ ks) h z =
    ⊎_elim
    (λ e. let q : suc (count m ks) ≡ 0 = sym (cond_true (m == k) (suc (count m ks)) (count m ks) e.0) ∙ z in cc q)
    (λ e. ⊎_elim (λ same. e.1 (sym same)) (λ r. among_counts m ks r (sym (cond_false (m == k) (suc (count m ks)) (count m ks) e.0) ∙ z)) h)
    (equal_or m k)

-- a term acts on a cell, or is about to put into it
abbrev pub Owing : ℕ → Part → List Frame → Type 0
Owing m p fs = Among m (acting p fs) ⊎ Among m (ending p fs)

-- a value or an exception without frames does neither
pub bare_owes : (m : ℕ) (p : Part) (fs : List Frame) → IsResult p → fs ≡ [] → Owing m p fs → ⊥
bare_owes m (Ret v) fs i e h = let k : Owing m (Ret v) [] = subst (Owing m (Ret v)) e h in ⊎_elim (λ z. z) (λ z. z) k
bare_owes m (Throw x) fs i e h = let k : Owing m (Throw x) [] = subst (Owing m (Throw x)) e h in ⊎_elim (λ z. z) (λ z. z) k
bare_owes m (Do a env) fs i e h = absurd i
bare_owes m (Performs op) fs i e h = absurd i

module _ (values : ℕ → Type 0) (roles : ℕ → Role) (t : ℕ) (j : Option ℕ) (m : ℕ) (mine : j ≡ Some m) where
  it_is : (n p : ℕ) → Owes values roles t j n p → n ≡ m
  it_is n p e = let q : ◌≡◌ {A = Option ℕ} (Some n) (Some m) = sym e.1 ∙ mine in cc q

  cell_is : (n p : ℕ) (v : Option V) → v ≡ Some (Cell n) → Owes values roles t j n p → Among m (cell_of v ++ [])
  cell_is n p v q e = subst (λ o. Among m (cell_of o ++ [])) (sym q) (inl (it_is n p e))

  cell_alone : (n p : ℕ) (v : Option V) → v ≡ Some (Cell n) → Owes values roles t j n p → Among m (cell_of v)
  cell_alone n p v q e = subst (λ o. Among m (cell_of o)) (sym q) (inl (it_is n p e))

  below_owes : {fs : List Frame} {o : List ℕ} → Below values roles t j fs o → Among m (acting_frames fs)
  below_owes (no_frames e) = let q : ◌≡◌ {A = Option ℕ} None (Some m) = sym e ∙ mine in absurd (cc q)
  below_owes (below_bind {x} {env = env} {fs} c f w r) = behind m (acting_bind x env) (acting_frames fs) (below_owes r)
  below_owes (below_catch c f w r) = below_owes r
  below_owes (below_mask r) = below_owes r
  below_owes (below_guarded k n s r) = below_owes r
  below_owes (below_child {m = n} {p} {env} e i s) = cell_is n p (value_at (Added ScopeCell) env) i e

  ret_owes : {fs : List Frame} {o : List ℕ} → Below values roles t j fs o → Among m (acting_ret fs)
  ret_owes (no_frames e) = let q : ◌≡◌ {A = Option ℕ} None (Some m) = sym e ∙ mine in absurd (cc q)
  ret_owes (below_bind c f w r) = below_owes r
  ret_owes (below_catch c f w r) = below_owes r
  ret_owes (below_mask r) = below_owes r
  ret_owes (below_guarded k n s r) = below_owes r
  ret_owes (below_child {m = n} {p} {env} e i s) = cell_is n p (value_at (Added ScopeCell) env) i e

  after_owes : {n : ℕ} {fs : List Frame} {o : List ℕ} → After values roles t j n fs o → Among m (acting_frames fs)
  after_owes (after_exit n w r) = below_owes r
  after_owes (after_handler s n w r) = below_owes r

  after_ret_owes : {n : ℕ} {fs : List Frame} {o : List ℕ} → After values roles t j n fs o → Among m (acting_ret fs)
  after_ret_owes (after_exit n w r) = below_owes r
  after_ret_owes (after_handler s n w r) = below_owes r

  stop_owes : {n : ℕ} {p : Part} {fs gs : List Frame} → Stopping values roles t j n fs p gs → Among m (acting_frames fs) → Among m (acting p gs)
  stop_owes (stop_whole n) h = h
  stop_owes _ h = h

  pub held_owes : {p : Part} {fs : List Frame} {o : List ℕ} → Held values roles t j p fs o → Owing m p fs
  held_owes (held_ret r) = inl (ret_owes r)
  held_owes (held_throw r) = inl (below_owes r)
  held_owes (held_do {a} {env} {fs} f w r) = inl (behind m (acting_do a env) (acting_frames fs) (below_owes r))
  held_owes (held_op f r) = inl (below_owes r)
  held_owes (held_new c f g w r) = inl (below_owes r)
  held_owes (held_new_op c f g w r) = inl (below_owes r)
  held_owes (held_new_throw r) = inl (below_owes r)
  held_owes (held_new_cell e c f g w r) = inl (below_owes r)
  held_owes (held_made e n c f g w r) = inl (below_owes r)
  held_owes (held_masked e n c f g w s r) = inl (below_owes r)
  held_owes (held_fork e n c f g w s r) = inl (below_owes r)
  held_owes (held_fork_op e n c f g w s r) = inl (below_owes r)
  held_owes (held_forked k n a y c g w s r) = inl (below_owes r)
  held_owes (held_named k n c g w s r) = inl (below_owes r)
  held_owes (held_run k n g w s r) = inl (below_owes r)
  held_owes (held_guarded k n g w s r) = inl (below_owes r)
  held_owes (held_result k n s r) = inl (below_owes r)
  held_owes (held_exit k n s r) = inl (below_owes r)
  held_owes (held_handler k n s q w r) = inl (below_owes r)
  held_owes (held_stop k s a) = inl (stop_owes s (after_owes a))
  held_owes (held_stopped e a) = inl (after_ret_owes a)
  held_owes (held_return r) = inl (below_owes r)
  held_owes (held_rethrow e s q w r) = inl (below_owes r)
  held_owes (held_thrown e q w r) = inl (below_owes r)
  held_owes (held_passing e q w r) = inl (below_owes r)
  held_owes (held_child {m = n} {p} {env = env} e i f w s) = inl (cell_is n p (value_at (Added ScopeCell) env) i e)
  held_owes (held_action {m = n} {p} {env = env} e i f w s) = inl (cell_is n p (value_at (Added ScopeCell) env) i e)
  held_owes (held_fault {m = n} {p} {env = env} e i q s) = inl (cell_is n p (value_at (Added ScopeCell) env) i e)
  held_owes (held_told {m = n} {p} {env = env} e i q s) = inl (cell_is n p (value_at (Added ScopeCell) env) i e)
  held_owes (held_ending {m = n} {p} {env = env} e i s) = inr (cell_alone n p (value_at (Added ScopeCell) env) i e)
  held_owes (held_put {m = n} {p} {env = env} e i s) = inr (cell_alone n p (value_at (Added ScopeCell) env) i e)
  held_owes (held_put_op {m = n} {p} e s) = inr (inl (it_is n p e))
