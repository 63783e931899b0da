-- Each local rule leads from a phase to a phase.
use Rattle.std.proofs.Common.{◌≡◌, ◌≢◌, ℕ, suc, ◌==◌, List, [], ◌∷◌, true, false, Option, Some, None, refl, sym, ap, ◌∙◌, subst, ⊎_elim}
use Rattle.hs_base.specs.declared.mask.Mask.{Mask}
use Rattle.hs_base.specs.declared.exn.Exn.{Exn}
use Rattle.hs_base.specs.declared.exn.Exn.TheVariants.{ThreadKilled}
use Rattle.rules_expansion.specs.trees.Trees.{Ex}
use Rattle.rules_expansion.specs.Names.{Name, Added}
use Rattle.rules_expansion.specs.declared.hidden.Hidden.TheVariants.{TheCell, ScopeCell, Child, ChildEnding, ScopeResult, Caught}
use Rattle.rules_expansion.specs.declared.primitive.Primitive.{Primitive}
use Rattle.rules_expansion.specs.declared.primitive.Primitive.TheVariants.{PutMVar, ReadMVar, ThrowTo}
use Rattle.rules_expansion.specs.Core.{CoreEx, OfScript, Read, PairRead, Killed, Core, Let, Perform, ActionFunction, action_named}
use Rattle.rules_expansion.specs.Expansion.{scope_exit, child_put}
use Rattle.rules_meaning.specs.Values.{V, Truth, Nothing, Just, Left, Right, Pair, Nil, Cons, Cell, Exception, Restore, Env, value_at, with_name, Outcome, Gives, Throws, Stuck, Outcomes, AllGive, OneThrows, OneStuck, and_then, and_one}
use Rattle.rules_meaning.specs.Values as val
use Rattle.rules_meaning.specs.CoreMeaning.{Code, read, value_of_core, values_of_core}
use Rattle.rules_meaning.specs.Meaning.{value_of_ex, values_of_exs}
use Rattle.hs_rules.specs.Terms.{Calls, Part, Ret, Throw, Do, Performs, Frame, BindTo, MaskIn, Term, term, mask_at}
use Rattle.hs_rules.specs.LocalRules.{on_value, on_values, thrown, chosen, chosen_maybe, chosen_either, chosen_list, chosen_pair, with_params, entered, called, restored, first_step, ret_step, throw_step, on_top, local}
use Rattle.hs_laws.specs.BracketLaw.{count, IsMasked}
use Rattle.hs_laws.proofs.Lists.{cond_false, equal_or}
use Rattle.scope_laws.specs.ScopePhases.{IsCommon, IsNoPut, AllCommon, Fine, fine_return, fine_throw, fine_let, fine_cell, fine_bind, fine_if, fine_maybe, fine_either, fine_list, fine_pair, fine_call, fine_primitive, fine_put, fine_put_back, fine_fork, fine_fork_unmask, fine_catch, fine_mask, fine_mask_hard, fine_restore, fine_scope, FineCode}
use Rattle.scope_laws.specs.ScopePhases.{Role, Running, Ended, IsOf, IsCell, OfValues, Clean, PutsInto, FineOp, Named, Owes, Below, no_frames, below_bind, below_catch, below_mask, below_guarded, below_child, After, after_exit, after_handler}
use Rattle.scope_laws.specs.ScopePhases.{Stopping, stop_whole, stop_kills, stop_throws, stop_throwing, stop_thrown, stop_awaits, stop_reads, stop_reading, stop_has_read, stop_gives, stop_leaves}
use Rattle.scope_laws.specs.ScopePhases.{Held, held_ret, held_throw, held_do, held_op, held_new, held_new_op, held_new_throw, held_new_cell, held_made, held_masked, held_fork, held_fork_op, held_forked, held_named, held_run, held_guarded, held_result, held_exit, held_handler, held_stop, held_stopped, held_return, held_rethrow, held_thrown, held_passing, held_child, held_action, held_fault, held_told, held_ending, held_put, held_put_op}
use Rattle.scope_laws.proofs.Forms.{FineDef, def_fine}
use Rattle.scope_laws.proofs.Phases.{same_cell, same_child, same_own_cell}
use Rattle.hs_laws.proofs.Held.{join_masked}

-- ---- what the expressions of the script give, where a scope's cell must not come

module _ (values : ℕ → Type 0) (code : Code) where
  -- an expression of the script gives no cell of a scope
  abbrev pub SureEx : Env → Ex → Type 0
  SureEx env e = (v : V) → value_of_ex code.functions env e ≡ Gives v → OfValues values (Some v)

  abbrev pub SureFirst : Env → List CoreEx → Type 0
  SureFirst env (OfScript e ∷ es) = SureEx env e
  SureFirst env _ = Unit {0}

  abbrev pub SureDo : Core → Env → Type 0
  SureDo (Let x (OfScript e) a) env = SureEx env e
  SureDo (Perform PutMVar es) env = SureFirst env es
  SureDo _ env = Unit {0}

  abbrev pub Sure : Part → Type 0
  Sure (Ret v) = Unit {0}
  Sure (Throw e) = Unit {0}
  Sure (Do a env) = SureDo a env
  Sure (Performs op) = Unit {0}

module _ (values : ℕ → Type 0) (roles : ℕ → Role) (t : ℕ) (j : Option ℕ) where
  -- of a running scope as many guards are left as were
  abbrev pub Keeps : List ℕ → List ℕ → Type 0
  Keeps o o' = (m p c : ℕ) → roles m ≡ Running p c → count m o' ≡ count m o

  abbrev pub Goes : Option Term → List ℕ → Type 0
  Goes None o = Unit {0}
  Goes (Some u) o = (o' : List ℕ) × Keeps o o' × Held values roles t j u.part u.frames o'

  -- what is guarded stays the same
  stay : {p : Part} {fs : List Frame} {o : List ℕ} → Held values roles t j p fs o → (o' : List ℕ) × Keeps o o' × Held values roles t j p fs o'
  stay {o = o} h = (o, (λ m p c e. refl), h)

  -- the guard of a scope whose child has ended goes
  drop_count : (m k : ℕ) (o : List ℕ) → m ≢ k → count m o ≡ count m (k ∷ o)
  drop_count m k o n = ⊎_elim (λ e. absurd (n e.1)) (λ e. sym (cond_false (m == k) (suc (count m o)) (count m o) e.0)) (equal_or m k)

  not_ended : {m k p c : ℕ} → roles m ≡ Running p c → roles k ≡ Ended t → m ≢ k
  not_ended {m} {k} {p} {c} e f same = let x : Running p c ≡ Ended t = sym e ∙ (ap roles same ∙ f) in cc x

  drop : {k : ℕ} {p : Part} {fs : List Frame} {o : List ℕ} → roles k ≡ Ended t → Held values roles t j p fs o → (o' : List ℕ) × Keeps (k ∷ o) o' × Held values roles t j p fs o'
  drop {k} {o = o} e h = (o, (λ m p c r. drop_count m k o (not_ended r e)), h)

  -- ---- names

  clean_with : (x : Name) (v : V) (env : Env) → IsCommon x → Clean values env → Clean values (with_name x v env)
  clean_with x v env c h = subst (OfValues values) (sym (same_own_cell x v env c)) h

  cell_with : (x : Name) (v : V) (env : Env) {m : ℕ} → IsCommon x → IsCell env m → IsCell (with_name x v env) m
  cell_with x v env c n = same_cell x v env c ∙ n

  named_with : (x : Name) (v : V) (env : Env) {m : ℕ} → IsCommon x → Named values roles t env m → Named values roles t (with_name x v env) m
  named_with x v env c n = (cell_with x v env c n.0, n.1, same_child x v env c ∙ n.2, n.3, n.4)

  -- ---- a value that an expression gives
  value_kept : {fs : List Frame} {o : List ℕ} (r : Outcome) (k : V → Option Term) → Below values roles t j fs o → ((v : V) → r ≡ Gives v → Goes (on_top fs (k v)) o) → Goes (on_top fs (on_value r k)) o
  value_kept (Gives v) k b h = h v refl
  value_kept (Throws e) k b h = stay (held_throw b)
  value_kept Stuck k b h = tt

  values_kept : {fs : List Frame} {o : List ℕ} (r : Outcomes) (k : List V → Option Term) → Below values roles t j fs o → ((vs : List V) → Goes (on_top fs (k vs)) o) → Goes (on_top fs (on_values r k)) o
  values_kept (AllGive vs) k b h = h vs
  values_kept (OneThrows e) k b h = stay (held_throw b)
  values_kept OneStuck k b h = tt

  throwing_kept : {fs : List Frame} {o : List ℕ} → ((e : Exn) → Held values roles t j (Throw e) fs o) → (v : V) → Goes (on_top fs (thrown v)) o
  throwing_kept h (Exception e) = stay (h e)
  throwing_kept h _ = tt

  chosen_kept : (env : Env) {a b : Core} {fs : List Frame} {o : List ℕ} → Fine a → Fine b → Clean values env → Below values roles t j fs o → (v : V) → Goes (on_top fs (chosen a b env v)) o
  chosen_kept env f g w r (Truth true) = stay (held_do f w r)
  chosen_kept env f g w r (Truth false) = stay (held_do g w r)
  chosen_kept env f g w r _ = tt

  maybe_kept : (env : Env) {a b : Core} (x : Name) {fs : List Frame} {o : List ℕ} → IsCommon x → Fine a → Fine b → Clean values env → Below values roles t j fs o → (v : V) → Goes (on_top fs (chosen_maybe a x b env v)) o
  maybe_kept env x c f g w r Nothing = stay (held_do f w r)
  maybe_kept env x c f g w r (Just v) = stay (held_do g (clean_with x v env c w) r)
  maybe_kept env x c f g w r _ = tt

  either_kept : (env : Env) {a b : Core} (x y : Name) {fs : List Frame} {o : List ℕ} → IsCommon x → IsCommon y → Fine a → Fine b → Clean values env → Below values roles t j fs o → (v : V) → Goes (on_top fs (chosen_either x a y b env v)) o
  either_kept env x y c d f g w r (Left v) = stay (held_do f (clean_with x v env c w) r)
  either_kept env x y c d f g w r (Right v) = stay (held_do g (clean_with y v env d w) r)
  either_kept env x y c d f g w r _ = tt

  list_kept : (env : Env) {a b : Core} (x y : Name) {fs : List Frame} {o : List ℕ} → IsCommon x → IsCommon y → Fine a → Fine b → Clean values env → Below values roles t j fs o → (v : V) → Goes (on_top fs (chosen_list a x y b env v)) o
  list_kept env x y c d f g w r Nil = stay (held_do f w r)
  list_kept env x y c d f g w r (Cons v u) = stay (held_do g (clean_with y u (with_name x v env) d (clean_with x v env c w)) r)
  list_kept env x y c d f g w r _ = tt

  pair_kept : (env : Env) {b : Core} (x y : Name) {fs : List Frame} {o : List ℕ} → IsCommon x → IsCommon y → Fine b → Clean values env → Below values roles t j fs o → (v : V) → Goes (on_top fs (chosen_pair x y b env v)) o
  pair_kept env x y c d g w r (Pair v u) = stay (held_do g (clean_with y u (with_name x v env) d (clean_with x v env c w)) r)
  pair_kept env x y c d g w r _ = tt

  restored_kept : (env : Env) {a : Core} {fs : List Frame} {o : List ℕ} → Fine a → Clean values env → Below values roles t j fs o → (v : Option V) → Goes (on_top fs (restored a env v)) o
  restored_kept env f w r (Some (Restore s)) = stay (held_do f w (below_mask r))
  restored_kept env f w r _ = tt

  -- ---- calls
  abbrev CleanOnce : Option Env → Type 0
  CleanOnce None = Unit {0}
  CleanOnce (Some env) = Clean values env

  params_clean : (xs : List Name) (us : List V) (env : Env) → AllCommon xs → Clean values env → CleanOnce (with_params xs us env)
  params_clean [] [] env c w = w
  params_clean [] (u ∷ us) env c w = tt
  params_clean (x ∷ xs) [] env c w = tt
  params_clean (x ∷ xs) (u ∷ us) env c w = params_clean xs us (with_name x u env) c.1 (clean_with x u env c.0 w)

  entered_kept : {body : Core} {fs : List Frame} {o : List ℕ} → Fine body → Below values roles t j fs o → (env : Option Env) → CleanOnce env → Goes (on_top fs (entered body env)) o
  entered_kept f r None w = tt
  entered_kept f r (Some env) w = stay (held_do f w r)

  called_kept : {fs : List Frame} {o : List ℕ} → Below values roles t j fs o → (d : Option ActionFunction) → FineDef d → (vs : List V) → Goes (on_top fs (called d vs)) o
  called_kept r None f vs = tt
  called_kept r (Some d) f vs = entered_kept f.1 r (with_params d.params vs []) (params_clean d.params vs [] f.0 tt)

  -- ---- what is put
  put_rest : {fs : List Frame} {o : List ℕ} (v : V) (r : Outcomes) → OfValues values (Some v) → Below values roles t j fs o → Goes (on_top fs (on_values (and_one v r) (λ us. Some (term (Performs (Calls PutMVar us)) [])))) o
  put_rest v (AllGive vs) h b = stay (held_op (puts v h) b)
    where
      puts : (v : V) → OfValues values (Some v) → PutsInto values (v ∷ vs)
      puts (Cell m) h = h
      puts _ h = tt
  put_rest v (OneThrows e) h b = stay (held_throw b)
  put_rest v OneStuck h b = tt

  put_kept : {fs : List Frame} {o : List ℕ} (q : Outcome) (r : Outcomes) → ((v : V) → q ≡ Gives v → OfValues values (Some v)) → Below values roles t j fs o
      → Goes (on_top fs (on_values (and_then q r) (λ us. Some (term (Performs (Calls PutMVar us)) [])))) o
  put_kept (Gives v) r h b = put_rest v r (h v refl) b
  put_kept (Throws e) r h b = stay (held_throw b)
  put_kept Stuck r h b = tt

  -- what a name gives
  read_gives : (o : Option V) (v : V) → read o Gives ≡ Gives v → o ≡ Some v
  read_gives None v e = absurd (cc e)
  read_gives (Some u) v e = let same : u ≡ v = cc e in ap Some same

  -- an operation that is no put is fine
  fine_call_op : (w : Primitive) (vs : List V) → IsNoPut w → FineOp values (Calls w vs)
  fine_call_op PutMVar vs h = absurd h
  fine_call_op _ vs h = tt

  module _ (code : Code) (fc : FineCode code.actions) where
    -- ---- return to restore: an action's first step
    first_kept : {a : Core} → Fine a → (env : Env) → SureDo values code a env → Clean values env → {fs : List Frame} {o : List ℕ} → Below values roles t j fs o → Goes (on_top fs (first_step code (mask_at fs) a env)) o
    first_kept (fine_return {e} q) env s w r = value_kept (value_of_core code.functions env e) _ r (λ v g. stay (held_ret r))
    first_kept (fine_throw {e}) env s w r = value_kept (value_of_core code.functions env e) _ r (λ v g. throwing_kept (λ e. held_throw r) v)
    first_kept (fine_let {x} {e} c q f) env s w r = value_kept (value_of_core code.functions env e) _ r (λ v g. stay (held_do f (clean_with x v env c w) r))
    first_kept (fine_cell {e} f) env s w r = value_kept (value_of_ex code.functions env e) _ r (λ v g. stay (held_do f (s v g) r))
    first_kept (fine_bind c f g) env s w r = stay (held_do f w (below_bind c g w r))
    first_kept (fine_if {e} f g) env s w r = value_kept (value_of_core code.functions env e) _ r (λ v q. chosen_kept env f g w r v)
    first_kept (fine_maybe {e} {x} c f g) env s w r = value_kept (value_of_core code.functions env e) _ r (λ v q. maybe_kept env x c f g w r v)
    first_kept (fine_either {e} {x} {y} c d f g) env s w r = value_kept (value_of_core code.functions env e) _ r (λ v q. either_kept env x y c d f g w r v)
    first_kept (fine_list {e} {x} {y} c d f g) env s w r = value_kept (value_of_core code.functions env e) _ r (λ v q. list_kept env x y c d f g w r v)
    first_kept (fine_pair {e} {x} {y} c d g) env s w r = value_kept (value_of_core code.functions env e) _ r (λ v q. pair_kept env x y c d g w r v)
    first_kept (fine_call {f} {es}) env s w r = values_kept (values_of_exs code.functions env es) _ r (called_kept r (action_named f code.actions) (def_fine f code.actions fc))
    first_kept (fine_primitive {w = p} {es} h) env s w r = values_kept (values_of_core code.functions env es) _ r (λ vs. stay (held_op (fine_call_op p vs h) r))
    first_kept (fine_put {e} {h}) env s w r = put_kept (value_of_ex code.functions env e) (values_of_core code.functions env (h ∷ [])) s r
    first_kept (fine_put_back {h}) env s w r =
        put_kept (value_of_core code.functions env (Read (Added TheCell))) (values_of_core code.functions env (h ∷ []))
        (λ v g. subst (OfValues values) (read_gives (value_at (Added TheCell) env) v g) w) r
    first_kept (fine_fork f) env s w r = stay (held_op (f, w) r)
    first_kept (fine_fork_unmask c f) env s w r = stay (held_op (c, f, w) r)
    first_kept (fine_catch c f g) env s w r = stay (held_do f w (below_catch c g w r))
    first_kept (fine_mask {r = x} c f) env s w {fs} r = stay (held_do f (clean_with x (Restore (mask_at fs)) env c w) (below_mask r))
    first_kept (fine_mask_hard {r = x} c f) env s w {fs} r = stay (held_do f (clean_with x (Restore (mask_at fs)) env c w) (below_mask r))
    first_kept (fine_restore {r = x} f) env s w r = restored_kept env f w r (value_at x env)
    first_kept (fine_scope c f g) env s w r = stay (held_new c f g w r)

    -- ---- give, keep and leave: a value
    ret_kept : (v : V) {fs : List Frame} {o : List ℕ} → Below values roles t j fs o → Goes (ret_step v fs) o
    ret_kept v (no_frames e) = tt
    ret_kept v (below_bind {x} {env = env} c f w r) = stay (held_do f (clean_with x v env c w) r)
    ret_kept v (below_catch c f w r) = stay (held_ret r)
    ret_kept v (below_mask r) = stay (held_ret r)
    ret_kept v (below_guarded k n m r) = stay (held_result k n m r)
    ret_kept v (below_child e n s) = stay (held_ending e n s)

    -- ---- pass, handle and escape: an exception
    throw_kept : (e : Exn) {fs : List Frame} {o : List ℕ} → Below values roles t j fs o → Goes (throw_step e fs) o
    throw_kept e (no_frames q) = tt
    throw_kept e (below_bind c f w r) = stay (held_throw r)
    throw_kept e (below_catch {x} {env = env} c f w r) = stay (held_do f (clean_with x (Exception e) env c w) (below_mask r))
    throw_kept e (below_mask r) = stay (held_throw r)
    throw_kept e (below_guarded {m} {env} {fs} k n w r) = stay (held_handler k n (join_masked (mask_at fs)) n.0 w r)
    throw_kept e (below_child {s = m} q n s) = stay (held_fault q n (join_masked m) s)

    -- ---- STOP

    -- throwTo $t ThreadKilled, where $t is this thread
    kill_step : {c : ℕ} (env : Env) {fs : List Frame} (o : List ℕ) → value_at (Added Child) env ≡ Some (val.Thread c)
        → ((o' : List ℕ) × Keeps o o' × Held values roles t j (Performs (Calls ThrowTo (val.Thread c ∷ Exception ThreadKilled ∷ []))) fs o')
        → Goes (on_top fs (first_step code (mask_at fs) (Perform ThrowTo (Read (Added Child) ∷ Killed ∷ [])) env)) o
    kill_step env o at h = rw at h

    read_step : {m : ℕ} (env : Env) {fs : List Frame} (o : List ℕ) → IsCell env m → ((o' : List ℕ) × Keeps o o' × Held values roles t j (Performs (Calls ReadMVar (Cell m ∷ []))) fs o')
        → Goes (on_top fs (first_step code (mask_at fs) (Perform ReadMVar (Read (Added ScopeCell) ∷ [])) env)) o
    read_step env o at h = rw at h

    stop_kept : {m : ℕ} {p : Part} {fs gs : List Frame} {o : List ℕ} → IsOf t (roles m) → Stopping values roles t j m fs p gs → After values roles t j m fs o → Goes (local code p gs) o
    stop_kept k (stop_whole {env} n) a = stay (held_stop k (stop_kills n) a)
    stop_kept k (stop_kills n) a = stay (held_stop k (stop_throws n) a)
    stop_kept k (stop_throws {env} n) a = kill_step env _ n.2 (stay (held_stop k (stop_throwing n.0 n.3 n.4) a))
    stop_kept k (stop_throwing n c y) a = tt
    stop_kept k (stop_thrown n) a = stay (held_stop k (stop_awaits n) a)
    stop_kept k (stop_awaits n) a = stay (held_stop k (stop_reads n) a)
    stop_kept k (stop_reads {env} n) a = read_step env _ n (stay (held_stop k stop_reading a))
    stop_kept k stop_reading a = tt
    stop_kept k (stop_has_read e) a = stay (held_stop k (stop_gives e) a)
    stop_kept k (stop_gives e) a = stay (held_stop k (stop_leaves e) a)
    stop_kept k (stop_leaves e) a = stay (held_stopped e a)

    stopped_kept : {m : ℕ} (v : V) {fs : List Frame} {o : List ℕ} → roles m ≡ Ended t → After values roles t j m fs o → Goes (ret_step v fs) o
    stopped_kept v e (after_exit n w r) = drop e (held_return r)
    stopped_kept v e (after_handler s n w r) = stay (held_rethrow e s n w r)

    -- ---- the rest of a handler throws
    rethrow_kept : {m : ℕ} (env' : Env) (s : Mask) {fs : List Frame} {o : List ℕ} → roles m ≡ Ended t → IsCell env' m → IsMasked (mask_at fs) → Below values roles t j fs o → (q : Outcome) → ((v : V) → q ≡ Gives v → Unit {0})
        → Goes (on_top (MaskIn s ∷ BindTo (Added ScopeResult) scope_exit env' ∷ fs) (on_value q thrown)) (m ∷ o)
    rethrow_kept env' s e n w r (Gives v) g = throwing_kept (λ x. held_thrown e n w r) v
    rethrow_kept env' s e n w r (Throws x) g = stay (held_thrown e n w r)
    rethrow_kept env' s e n w r Stuck g = tt

    -- F: a value, or none
    return_kept : {fs : List Frame} {o : List ℕ} → Below values roles t j fs o → (q : Outcome) → Goes (on_top fs (on_value q (λ u. Some (term (Ret u) [])))) o
    return_kept r (Gives v) = stay (held_ret r)
    return_kept r (Throws e) = stay (held_throw r)
    return_kept r Stuck = tt

    -- ($t, $v)
    async_step : {m c : ℕ} (x : Name) {a : Core} (env : Env) {fs : List Frame} (o : List ℕ) → value_at (Added Child) env ≡ Some (val.Thread c) → IsCell env m
        → ((o' : List ℕ) × Keeps o o' × Held values roles t j (Do a (with_name x (Pair (val.Thread c) (Cell m)) env)) fs o')
        → Goes (on_top fs (first_step code (mask_at fs) (Let x (PairRead (Added Child) (Added ScopeCell)) a) env)) o
    async_step x env o p q h = rw p (rw q h)

    -- what a child has caught
    fault_kept : {m p : ℕ} (env : Env) (k s : Mask) → Owes values roles t j m p → IsCell env m → IsMasked k → IsMasked s → (o : Option V)
        → Goes (on_top (MaskIn k ∷ BindTo (Added ChildEnding) child_put env ∷ MaskIn s ∷ []) (on_value (read o (λ v. Gives (Left v))) (λ u. Some (term (Ret u) [])))) []
    fault_kept env k s e n q m None = tt
    fault_kept env k s e n q m (Some v) = stay (held_told e n q m)

    -- the put of a child
    ending_kept : {m p : ℕ} (s : Mask) (o : Option V) → Owes values roles t j m p → IsMasked s
        → Goes (on_top (MaskIn s ∷ []) (on_values (and_then (Gives (Cell m)) (and_then (read o Gives) (AllGive []))) (λ us. Some (term (Performs (Calls PutMVar us)) [])))) []
    ending_kept s None e w = tt
    ending_kept s (Some v) e w = stay (held_put_op e w)

    put_step : {m p : ℕ} (s : Mask) (env : Env) → IsCell env m → Owes values roles t j m p → IsMasked s → Goes (on_top (MaskIn s ∷ []) (first_step code s child_put env)) []
    put_step s env n e w = rw n (ending_kept s (value_at (Added ChildEnding) env) e w)

    pub local_kept : {p : Part} {fs : List Frame} {o : List ℕ} → Sure values code p → Held values roles t j p fs o → Goes (local code p fs) o
    local_kept s (held_ret {v} r) = ret_kept v r
    local_kept s (held_throw {e} r) = throw_kept e r
    local_kept s (held_do {a} {env} f w r) = first_kept f env s w r
    local_kept s (held_new c f g w r) = stay (held_new_op c f g w r)
    local_kept s (held_new_throw {e = e} r) = stay (held_throw r)
    local_kept s (held_new_cell {m} {env' = env'} e c f g w r) = stay (held_made e refl c f g w r)
    local_kept s (held_made {fs = fs} e n c f g w r) = stay (held_masked e n c f g w (join_masked (mask_at fs)) (below_mask r))
    local_kept s (held_masked e n c f g w m r) = stay (held_fork e n c f g w m r)
    local_kept s (held_fork e n c f g w m r) = stay (held_fork_op e n c f g w m r)
    local_kept s (held_forked {c = d} k n a y c g w m r) = stay (held_named k (n, d, refl, a, y) c g w m r)
    local_kept s (held_named {m} {x} {b} {env} k n c g w q r) =
        async_step x env _ n.2 n.0
        (stay (held_run k (named_with x (Pair (val.Thread n.1) (Cell m)) env c n) g (clean_with x (Pair (val.Thread n.1) (Cell m)) env c w) q r))
    local_kept s (held_run k n g w m r) = stay (held_guarded k n g w m r)
    local_kept s (held_guarded k n g w m r) = stay (held_do (fine_restore g) w (below_guarded k n m r))
    local_kept s (held_result k n m r) = stay (held_exit k n m r)
    local_kept s (held_exit k n m r) = stay (held_stop k (stop_whole n) (after_exit n.0 m r))
    local_kept s (held_handler k n q i m r) = stay (held_stop k (stop_whole n) (after_handler q i m r))
    local_kept s (held_stop k z a) = stop_kept k z a
    local_kept s (held_stopped {v = v} e a) = stopped_kept v e a
    local_kept s (held_return {env} r) = return_kept r (value_of_core code.functions env (Read (Added ScopeResult)))
    local_kept s (held_rethrow {env = env} {env'} {s = m} e q n w r) = rethrow_kept env' m e n w r (value_of_core code.functions env (Read (Added Caught))) (λ v g. tt)
    local_kept s (held_thrown e n w r) = stay (held_passing e n w r)
    local_kept s (held_passing e n w r) = drop e (held_throw r)
    local_kept s (held_child e n f w m) = stay (held_action e n f w m)
    local_kept s (held_action e n f w m) = stay (held_do (fine_bind tt (fine_restore f) (fine_return refl)) w (below_child e n m))
    local_kept s (held_fault {env} {env'} {q = k} {s = z} e n q m) = fault_kept env k z e n q m (value_at (Added Caught) env')
    local_kept s (held_told e n q m) = stay (held_ending e n m)
    local_kept s (held_ending e n m) = stay (held_put e n m)
    local_kept s (held_put {env = env} {s = q} e n m) = put_step q env n e m
    local_kept s _ = tt
