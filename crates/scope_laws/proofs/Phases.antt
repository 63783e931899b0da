-- What a term in its phase guards and acts on, and that it stays in it where cells go on.
use Rattle.std.proofs.Common.{◌≡◌, ℕ, Bool, true, false, cond, ◌||◌, List, [], ◌∷◌, ◌++◌, Option, Some, refl, sym, ap, ◌∙◌, subst}
use Rattle.rules_expansion.specs.Names.{Name, Added}
use Rattle.rules_expansion.specs.declared.hidden.Hidden.TheVariants.{TheCell, ScopeCell, Child, ChildEnding, ScopeResult}
use Rattle.rules_expansion.specs.Core.{Core}
use Rattle.rules_meaning.specs.Values.{V, Cell, Env, value_at, with_name}
use Rattle.hs_rules.specs.Terms.{Part, Frame, BindTo, CatchBy, MaskIn, mask_at}
use Rattle.hs_laws.specs.BracketLaw.{IsMasked}
use Rattle.hs_laws.proofs.Lists.{cond_false, Ones}
use Rattle.scope_laws.specs.ScopeLaw.{is_added, cell_of, cell_in, acting_bind, acting_do, acting_frames, acting_ret, acting, returns_result, is_async, guards_bind, guards_do, guards_ret, guards_frames, guards}
use Rattle.scope_laws.specs.ScopePhases.{IsCommon, Fine, fine_return, fine_let, fine_bind}
use Rattle.scope_laws.specs.ScopePhases.{Role, Running, Ended, IsOf, Below, no_frames, below_bind, below_catch, below_mask, below_guarded, below_child, After, after_exit, after_handler}
use Rattle.scope_laws.specs.ScopePhases.{Stopping, stop_whole}
use Rattle.scope_laws.specs.ScopePhases.{Held, held_ret, held_throw, held_do, held_op, held_new, held_new_op, held_new_throw, held_new_cell, held_made, held_masked, held_fork, held_fork_op, held_forked, held_named, held_run, held_guarded, held_result, held_exit, held_handler, held_stop, held_stopped, held_return, held_rethrow, held_thrown, held_passing, held_child, held_action, held_fault, held_told}

-- ---- common names

pub not_result : (x : Name) → IsCommon x → is_added ScopeResult x ≡ false
not_result (Added ScopeResult) c = absurd c
not_result _ c = refl

not_child : (x : Name) → IsCommon x → is_added Child x ≡ false
not_child (Added Child) c = absurd c
not_child _ c = refl

not_ending : (x : Name) → IsCommon x → is_added ChildEnding x ≡ false
not_ending (Added ChildEnding) c = absurd c
not_ending _ c = refl

-- what the own names of a scope stand for stays
pub same_cell : (x : Name) (v : V) (env : Env) → IsCommon x → value_at (Added ScopeCell) (with_name x v env) ≡ value_at (Added ScopeCell) env
same_cell (Added ScopeCell) v env c = absurd c
same_cell _ v env c = refl

pub same_child : (x : Name) (v : V) (env : Env) → IsCommon x → value_at (Added Child) (with_name x v env) ≡ value_at (Added Child) env
same_child (Added Child) v env c = absurd c
same_child _ v env c = refl

pub same_own_cell : (x : Name) (v : V) (env : Env) → IsCommon x → value_at (Added TheCell) (with_name x v env) ≡ value_at (Added TheCell) env
same_own_cell (Added TheCell) v env c = absurd c
same_own_cell _ v env c = refl

-- ---- fine actions neither guard nor act

no_result : {a : Core} → Fine a → returns_result a ≡ false
no_result (fine_return e) = e
no_result _ = refl

neither : (p q : Bool) (ns : List ℕ) → p ≡ false → q ≡ false → cond (p || q) ns [] ≡ []
neither true q ns e f = absurd (cc e)
neither false true ns e f = absurd (cc f)
neither false false ns e f = refl

pub bind_guards : (x : Name) {b : Core} (env : Env) → IsCommon x → Fine b → guards_bind x b env ≡ []
bind_guards x {b} env c f = neither (is_added ScopeResult x) (returns_result b) (cell_in env) (not_result x c) (no_result f)

bind_acts : (x : Name) (env : Env) → IsCommon x → acting_bind x env ≡ []
bind_acts x env c = cond_false (is_added ChildEnding x) (cell_in env) [] (not_ending x c)

pub do_guards : {a : Core} (env : Env) → Fine a → guards_do a env ≡ []
do_guards env (fine_let {x} {e} c q f) = cond_false (is_async e) (cell_in env) [] q
do_guards env (fine_bind {x} c f g) = bind_guards x env c g
do_guards env _ = refl

do_acts : {a : Core} (env : Env) → Fine a → acting_do a env ≡ []
do_acts env (fine_bind {x} c f g) = bind_acts x env c
do_acts env _ = refl

-- nothing here, and what the frames guard
nothing : (fs : List Frame) {o : List ℕ} (here : List ℕ) → here ≡ [] → guards_frames fs ≡ o → here ++ guards_frames fs ≡ o
nothing fs here e r = ap (λ z. z ++ guards_frames fs) e ∙ r

one : {m : ℕ} {ns o : List ℕ} (v : Option V) → v ≡ Some (Cell m) → ns ≡ o → cell_of v ++ ns ≡ m ∷ o
one {m} {ns} v e r = ap (λ z. cell_of z ++ ns) e ∙ ap (λ z. m ∷ z) r

ended_is : (roles : ℕ → Role) (t m : ℕ) → roles m ≡ Ended t → IsOf t (roles m)
ended_is roles t m e = subst (IsOf t) (sym e) refl

-- the cells of scopes of which a thread is the child
abbrev pub RunsIt : (ℕ → Role) → ℕ → ℕ → Type 0
RunsIt roles t m = (p : ℕ) × (roles m ≡ Running p t)

one_acts : (roles : ℕ → Role) (t : ℕ) {m p : ℕ} (v : Option V) → v ≡ Some (Cell m) → roles m ≡ Running p t → Ones (RunsIt roles t) (cell_of v ++ [])
one_acts roles t {m} {p} v q e = subst (λ o. Ones (RunsIt roles t) (cell_of o ++ [])) (sym q) ((p, e), tt)

none_acts : (P : ℕ → Type 0) (here ns : List ℕ) → here ≡ [] → Ones P ns → Ones P (here ++ ns)
none_acts P here ns e h = subst (λ z. Ones P (z ++ ns)) (sym e) h

rest : (P : ℕ → Type 0) (us vs : List ℕ) → Ones P (us ++ vs) → Ones P vs
rest P [] vs h = h
rest P (u ∷ us) vs h = rest P us vs h.1

ret_acts : (P : ℕ → Type 0) (fs : List Frame) → Ones P (acting_frames fs) → Ones P (acting_ret fs)
ret_acts P [] h = tt
ret_acts P (BindTo x b env ∷ fs) h = rest P (acting_bind x env) (acting_frames fs) h
ret_acts P (CatchBy x b env ∷ fs) h = h
ret_acts P (MaskIn s ∷ fs) h = h

module _ (values : ℕ → Type 0) (roles : ℕ → Role) (t : ℕ) (j : Option ℕ) where
  -- ---- what is guarded

  pub below_guards : {fs : List Frame} {o : List ℕ} → Below values roles t j fs o → guards_frames fs ≡ o
  below_guards (no_frames e) = refl
  below_guards (below_bind {x} {b} {env} {fs} c f w r) = nothing fs (guards_bind x b env) (bind_guards x env c f) (below_guards r)
  below_guards (below_catch c f w r) = below_guards r
  below_guards (below_mask r) = below_guards r
  below_guards (below_guarded {env = env} k n m r) = one (value_at (Added ScopeCell) env) n.0 (below_guards r)
  below_guards (below_child e n m) = refl

  pub ret_guards : {fs : List Frame} {o : List ℕ} → Below values roles t j fs o → guards_ret fs ≡ []
  ret_guards (below_bind {x} {env = env} c f w r) = cond_false (is_added Child x) (cell_in env) [] (not_child x c)
  ret_guards _ = refl

  after_guards : {m : ℕ} {fs : List Frame} {o : List ℕ} → After values roles t j m fs o → guards_frames fs ≡ o
  after_guards (after_exit {env} n w r) = one (value_at (Added ScopeCell) env) n (below_guards r)
  after_guards (after_handler {env' = env'} k n w r) = one (value_at (Added ScopeCell) env') n (below_guards r)

  after_ret : {m : ℕ} {fs : List Frame} {o : List ℕ} → After values roles t j m fs o → guards_ret fs ≡ []
  after_ret (after_exit n w r) = refl
  after_ret (after_handler k n w r) = refl

  stop_guards : {m : ℕ} {p : Part} {fs gs : List Frame} → Stopping values roles t j m fs p gs → guards p gs ≡ guards_frames fs
  stop_guards (stop_whole n) = refl
  stop_guards _ = refl

  pub held_guards : {p : Part} {fs : List Frame} {o : List ℕ} → Held values roles t j p fs o → guards p fs ≡ o
  held_guards (held_ret {fs = fs} r) = nothing fs (guards_ret fs) (ret_guards r) (below_guards r)
  held_guards (held_throw r) = below_guards r
  held_guards (held_do {a} {env} {fs} f w r) = nothing fs (guards_do a env) (do_guards env f) (below_guards r)
  held_guards (held_op f r) = below_guards r
  held_guards (held_new c f g w r) = below_guards r
  held_guards (held_new_op c f g w r) = below_guards r
  held_guards (held_new_throw r) = below_guards r
  held_guards (held_new_cell e c f g w r) = below_guards r
  held_guards (held_made e n c f g w r) = below_guards r
  held_guards (held_masked e n c f g w m r) = below_guards r
  held_guards (held_fork e n c f g w m r) = below_guards r
  held_guards (held_fork_op e n c f g w m r) = below_guards r
  held_guards (held_forked {env = env} k n a y c g w m r) = one (value_at (Added ScopeCell) env) n (below_guards r)
  held_guards (held_named {env = env} k n c g w m r) = one (value_at (Added ScopeCell) env) n.0 (below_guards r)
  held_guards (held_run {env = env} k n g w m r) = one (value_at (Added ScopeCell) env) n.0 (below_guards r)
  held_guards (held_guarded {env = env} k n g w m r) = one (value_at (Added ScopeCell) env) n.0 (below_guards r)
  held_guards (held_result {env = env} k n m r) = one (value_at (Added ScopeCell) env) n.0 (below_guards r)
  held_guards (held_exit {env = env} k n m r) = one (value_at (Added ScopeCell) env) n.0 (below_guards r)
  held_guards (held_handler {env' = env'} k n s q m r) = one (value_at (Added ScopeCell) env') q (below_guards r)
  held_guards (held_stop k s a) = stop_guards s ∙ after_guards a
  held_guards (held_stopped {fs = fs} e a) = nothing fs (guards_ret fs) (after_ret a) (after_guards a)
  held_guards (held_return r) = below_guards r
  held_guards (held_rethrow {env' = env'} e s q m r) = one (value_at (Added ScopeCell) env') q (below_guards r)
  held_guards (held_thrown {env' = env'} e q m r) = one (value_at (Added ScopeCell) env') q (below_guards r)
  held_guards (held_passing {env' = env'} e q m r) = one (value_at (Added ScopeCell) env') q (below_guards r)
  held_guards _ = refl

  -- ---- whose is what is guarded

  pub below_owned : {fs : List Frame} {o : List ℕ} → Below values roles t j fs o → Ones (λ m. IsOf t (roles m)) o
  below_owned (no_frames e) = tt
  below_owned (below_bind c f w r) = below_owned r
  below_owned (below_catch c f w r) = below_owned r
  below_owned (below_mask r) = below_owned r
  below_owned (below_guarded k n m r) = (k, below_owned r)
  below_owned (below_child e n m) = tt

  after_owned : {m : ℕ} {fs : List Frame} {o : List ℕ} → IsOf t (roles m) → After values roles t j m fs o → Ones (λ m. IsOf t (roles m)) o
  after_owned k (after_exit n w r) = (k, below_owned r)
  after_owned k (after_handler s n w r) = (k, below_owned r)

  pub held_owned : {p : Part} {fs : List Frame} {o : List ℕ} → Held values roles t j p fs o → Ones (λ m. IsOf t (roles m)) o
  held_owned (held_ret r) = below_owned r
  held_owned (held_throw r) = below_owned r
  held_owned (held_do f w r) = below_owned r
  held_owned (held_op f r) = below_owned r
  held_owned (held_new c f g w r) = below_owned r
  held_owned (held_new_op c f g w r) = below_owned r
  held_owned (held_new_throw r) = below_owned r
  held_owned (held_new_cell e c f g w r) = below_owned r
  held_owned (held_made e n c f g w r) = below_owned r
  held_owned (held_masked e n c f g w m r) = below_owned r
  held_owned (held_fork e n c f g w m r) = below_owned r
  held_owned (held_fork_op e n c f g w m r) = below_owned r
  held_owned (held_forked k n a y c g w m r) = (k, below_owned r)
  held_owned (held_named k n c g w m r) = (k, below_owned r)
  held_owned (held_run k n g w m r) = (k, below_owned r)
  held_owned (held_guarded k n g w m r) = (k, below_owned r)
  held_owned (held_result k n m r) = (k, below_owned r)
  held_owned (held_exit k n m r) = (k, below_owned r)
  held_owned (held_handler k n s q m r) = (k, below_owned r)
  held_owned (held_stop k s a) = after_owned k a
  held_owned (held_stopped {m} e a) = after_owned (ended_is roles t m e) a
  held_owned (held_return r) = below_owned r
  held_owned (held_rethrow {m} e s q w r) = (ended_is roles t m e, below_owned r)
  held_owned (held_thrown {m} e q w r) = (ended_is roles t m e, below_owned r)
  held_owned (held_passing {m} e q w r) = (ended_is roles t m e, below_owned r)
  held_owned _ = tt

  -- ---- what is acted on

  pub below_acts : {fs : List Frame} {o : List ℕ} → Below values roles t j fs o → Ones (RunsIt roles t) (acting_frames fs)
  below_acts (no_frames e) = tt
  below_acts (below_bind {x} {env = env} {fs} c f w r) = none_acts (RunsIt roles t) (acting_bind x env) (acting_frames fs) (bind_acts x env c) (below_acts r)
  below_acts (below_catch c f w r) = below_acts r
  below_acts (below_mask r) = below_acts r
  below_acts (below_guarded k n m r) = below_acts r
  below_acts (below_child {env = env} e n m) = one_acts roles t (value_at (Added ScopeCell) env) n e.0

  after_acts : {m : ℕ} {fs : List Frame} {o : List ℕ} → After values roles t j m fs o → Ones (RunsIt roles t) (acting_frames fs)
  after_acts (after_exit n w r) = below_acts r
  after_acts (after_handler s n w r) = below_acts r

  stop_acts : {m : ℕ} {p : Part} {fs gs : List Frame} → Stopping values roles t j m fs p gs → Ones (RunsIt roles t) (acting_frames fs) → Ones (RunsIt roles t) (acting p gs)
  stop_acts (stop_whole n) h = h
  stop_acts _ h = h

  pub held_acts : {p : Part} {fs : List Frame} {o : List ℕ} → Held values roles t j p fs o → Ones (RunsIt roles t) (acting p fs)
  held_acts (held_ret {fs = fs} r) = ret_acts (RunsIt roles t) fs (below_acts r)
  held_acts (held_throw r) = below_acts r
  held_acts (held_do {a} {env} {fs} f w r) = none_acts (RunsIt roles t) (acting_do a env) (acting_frames fs) (do_acts env f) (below_acts r)
  held_acts (held_op f r) = below_acts r
  held_acts (held_new c f g w r) = below_acts r
  held_acts (held_new_op c f g w r) = below_acts r
  held_acts (held_new_throw r) = below_acts r
  held_acts (held_new_cell e c f g w r) = below_acts r
  held_acts (held_made e n c f g w r) = below_acts r
  held_acts (held_masked e n c f g w m r) = below_acts r
  held_acts (held_fork e n c f g w m r) = below_acts r
  held_acts (held_fork_op e n c f g w m r) = below_acts r
  held_acts (held_forked k n a y c g w m r) = below_acts r
  held_acts (held_named k n c g w m r) = below_acts r
  held_acts (held_run k n g w m r) = below_acts r
  held_acts (held_guarded k n g w m r) = below_acts r
  held_acts (held_result k n m r) = below_acts r
  held_acts (held_exit k n m r) = below_acts r
  held_acts (held_handler k n s q m r) = below_acts r
  held_acts (held_stop k s a) = stop_acts s (after_acts a)
  held_acts (held_stopped {fs = fs} e a) = ret_acts (RunsIt roles t) fs (after_acts a)
  held_acts (held_return r) = below_acts r
  held_acts (held_rethrow e s q m r) = below_acts r
  held_acts (held_thrown e q m r) = below_acts r
  held_acts (held_passing e q m r) = below_acts r
  held_acts (held_child {env = env} e n f w s) = one_acts roles t (value_at (Added ScopeCell) env) n e.0
  held_acts (held_action {env = env} e n f w s) = one_acts roles t (value_at (Added ScopeCell) env) n e.0
  held_acts (held_fault {env = env} e n q s) = one_acts roles t (value_at (Added ScopeCell) env) n e.0
  held_acts (held_told {env = env} e n q s) = one_acts roles t (value_at (Added ScopeCell) env) n e.0
  held_acts _ = tt

  -- ---- masking

  pub after_masked : {m : ℕ} {fs : List Frame} {o : List ℕ} → After values roles t j m fs o → IsMasked (mask_at fs)
  after_masked (after_exit n w r) = w
  after_masked (after_handler s n w r) = s

  pub stop_masked : {m : ℕ} {p : Part} {fs gs : List Frame} → Stopping values roles t j m fs p gs → IsMasked (mask_at fs) → IsMasked (mask_at gs)
  stop_masked (stop_whole n) h = h
  stop_masked _ h = tt
