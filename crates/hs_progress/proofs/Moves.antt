-- A typed term moves to a typed term, or it is a value, an exception or an operation that no local rule moves.
use Rattle.std.proofs.Common.{◌≡◌, ℕ, zero, suc, List, [], ◌∷◌, true, false, Option, Some, None, refl, sym, subst}
use Rattle.hs_base.specs.declared.exn.Exn.{Exn}
use Rattle.hs_base.specs.declared.mask.Mask.{Mask}
use Rattle.hs_base.specs.declared.tree.script.Script.{Script}
use Rattle.rules_expansion.specs.trees.Trees.{T, bool, exn, pair, maybe, either, list, Exs, none, more}
use Rattle.rules_expansion.specs.trees.Programs.{Fn, script_of}
use Rattle.rules_expansion.specs.Names.{Name, Written, Added, Unread}
use Rattle.rules_meaning.specs.Values.{V, Truth, Nothing, Just, Left, Right, Pair, Nil, Cons, Exception, Restore, Env, with_name, value_at, Outcome, Gives, Throws, Stuck, Outcomes, AllGive, OneThrows, OneStuck, and_then}
use Rattle.rules_meaning.specs.Meaning.{functions_of, value_of_ex, values_of_exs}
use Rattle.rules_sorts.specs.Sorts.{Sort, a_value, a_masking_name, an_instance, a_scope_cell, SortedName}
use Rattle.rules_typing.specs.Typing as typing
use Rattle.rules_typing.specs.TypingScripts.{Accepted, sigs_from}
use Rattle.rules_sorts.specs.TypedMeaning.{AllOf, WellAll}
use Rattle.rules_expansion.specs.Core.{CoreEx, OfScript, Core, action_named}
use Rattle.rules_meaning.specs.CoreMeaning.{value_of_core, values_of_core, code_of}
use Rattle.rules_code.specs.CodeTrees.{is_unread}
use Rattle.rules_expansion.specs.Expansion.{actions_of}
use Rattle.hs_rules.specs.Terms.{Part, Ret, Throw, Do, Frame, Term, term, mask_at}
use Rattle.hs_rules.specs.LocalRules.{on_value, on_values, thrown, chosen, chosen_maybe, chosen_either, chosen_list, chosen_pair, with_params, entered, called, restored, first_step, ret_step, throw_step, on_top, local, on_term, locals}
use Rattle.hs_soundness.specs.CoreSorts.{written_in, CoreHas, of_masking, OfSort, FitsAt, FitsScope, GoodSort}
use Rattle.hs_soundness.proofs.CoreExpressions.{accepted_good}
use Rattle.hs_soundness.proofs.Growing.{scope_with}
use Rattle.hs_progress.specs.CoreTyping.{Binds, with_bound, CoreAllHave, no_more, one_more, Takes, takes_none, takes_one, Does, does_return, does_throw, does_let, does_bind, does_then, does_if, does_maybe, does_either, does_list, does_pair, does_call, does_perform, does_fork, does_fork_unmask, does_catch, does_mask, does_mask_hard, does_restore}
use Rattle.hs_progress.specs.GoingOn.{StepsOrStops}
use Rattle.hs_progress.specs.TypedStates.{ctx_of, HeadsKept, AllOfSorts, no_values, one_value, Runs, Awaits, calls_typed, forks_typed, forks_unmask_typed, PartTyped, ret_typed, throw_typed, do_typed, op_typed, FramesTyped, no_frames, bind_typed, then_typed, catch_typed, mask_typed, TermTyped}

-- ---- names that are bound

pub binds_read : (y : Name) (k : Sort) → Binds y k → is_unread y ≡ false
binds_read (Written x) k h = refl
binds_read Unread k h = absurd h
binds_read (Added z) k h = refl

module _ (cells : ℕ → T → Type 0) where
  pub binds_fits : (y : Name) (k : Sort) (v : V) → Binds y k → OfSort cells k v → FitsAt cells y (Some k) (Some v)
  binds_fits (Written x) (a_value t) v b h = h
  binds_fits (Written x) a_masking_name v b h = h
  binds_fits (Written x) an_instance v b h = absurd b
  binds_fits (Written x) (a_scope_cell t) v b h = absurd b
  binds_fits (Added z) k v b h = h
  binds_fits Unread k v b h = absurd b

  pub more_fits : (g : List SortedName) (env : Env) (y : Name) (k : Sort) (v : V) → Binds y k → OfSort cells k v → FitsScope cells g env → FitsScope cells (with_bound y k g) (with_name y v env)
  more_fits g env y k v b h f = scope_with cells g env y k v (binds_read y k b) (binds_fits y k v b h) f

  mask_of : (y : Name) (v : V) → FitsAt cells y (Some a_masking_name) (Some v) → of_masking v
  mask_of (Written x) v h = h
  mask_of (Added z) v h = h
  mask_of Unread v h = h

  -- ---- expressions of a primitive and of a call

  -- values for which P holds, or an exception
  abbrev pub AllAre : (List V → Type 0) → Outcomes → Type 0
  AllAre P (AllGive vs) = P vs
  AllAre P (OneThrows e) = Unit {0}
  AllAre P OneStuck = ⊥

  and_good : (k : Sort) (P Q : List V → Type 0) (o : Outcome) (r : Outcomes) → ((v : V) (vs : List V) → OfSort cells k v → P vs → Q (v ∷ vs)) → GoodSort cells k o → AllAre P r → AllAre Q (and_then o r)
  and_good k P Q (Gives v) (AllGive vs) f h g = f v vs h g
  and_good k P Q (Gives v) (OneThrows e) f h g = tt
  and_good k P Q (Gives v) OneStuck f h g = absurd g
  and_good k P Q (Throws e) r f h g = tt
  and_good k P Q Stuck r f h g = absurd h

  module _ (script : Script) (accepted : Accepted script) (here : ℕ) where
    pub exs_sorts : {g : List SortedName} {es : List CoreEx} {ks : List Sort} (env : Env) → FitsScope cells g env → CoreAllHave (ctx_of (script_of script) here) g es ks → AllAre (AllOfSorts cells ks) (values_of_core (functions_of (script_of script)) env es)
    exs_sorts env f no_more = no_values
    exs_sorts {g} env f (one_more {e} {k} {es} {ks} h hs) =
        and_good k (AllOfSorts cells ks) (AllOfSorts cells (k ∷ ks)) (value_of_core (functions_of (script_of script)) env e) (values_of_core (functions_of (script_of script)) env es) (λ v vs p q. one_value p q)
        (accepted_good cells script here g env e k accepted h f) (exs_sorts env f hs)

    pub args_good : (g : List SortedName) (env : Env) (es : Exs) (ts : List T) → FitsScope cells g env → WellAll es → typing.HaveTypes (ctx_of (script_of script) here) (written_in g) es ts → AllAre (AllOf cells ts) (values_of_exs (functions_of (script_of script)) env es)
    args_good g env none ts f w h = subst (λ z. AllAre (AllOf cells z) (values_of_exs (functions_of (script_of script)) env none)) (sym h) tt
    args_good g env (more e es) ts f w h =
        subst (λ z. AllAre (AllOf cells z) (values_of_exs (functions_of (script_of script)) env (more e es))) (sym h.4)
        (and_good (a_value h.0) (AllOf cells h.1) (AllOf cells (h.0 ∷ h.1)) (value_of_ex (functions_of (script_of script)) env e) (values_of_exs (functions_of (script_of script)) env es) (λ v vs p q. (p, q))
        (accepted_good cells script here g env (OfScript e) (a_value h.0) accepted (h.0, w.0, h.2, refl) f) (args_good g env es h.1 f w.1 h.3))

  -- ---- parameters

  abbrev Entered : List SortedName → Option Env → Type 0
  Entered g None = ⊥
  Entered g (Some env) = FitsScope cells g env

  takes_fit : {g h : List SortedName} {ps : List Name} {ts : List T} → Takes g ps ts h → (env : Env) (us : List V) → FitsScope cells g env → AllOf cells ts us → Entered h (with_params ps us env)
  takes_fit takes_none env [] f a = f
  takes_fit takes_none env (u ∷ us) f a = absurd a
  takes_fit (takes_one w) env [] f a = absurd a
  takes_fit {g} (takes_one {x} {t} w) env (u ∷ us) f a = takes_fit w (with_name (Written x) u env) us (more_fits g env (Written x) (a_value t) u tt a.0 f) a.1

module _ (cells : ℕ → T → Type 0) (script : Script) (accepted : Accepted script) (heads : HeadsKept (script_of script)) where
  abbrev ds : List Fn
  ds = script_of script

  -- a typed term is left
  abbrev Goes : Option Term → Type 0
  Goes None = ⊥
  Goes (Some t) = TermTyped cells ds t

  -- a value for the name that an action waits for
  pub awaited : {x : Name} {j : Sort} {a : Core} {env : Env} {k : Sort} → Awaits cells ds x j a env k → (v : V) → OfSort cells j v → Runs cells ds a (with_name x v env) k
  awaited {x} {j} {env} w v h = record { here = w.here; scope = with_bound x j w.scope; does = w.does; fits = more_fits cells w.scope env x j v w.binds h w.fits }

  module _ {k : Sort} {fs : List Frame} (b : FramesTyped cells ds k fs) where
    throws : (e : Exn) → TermTyped cells ds (term (Throw e) fs)
    throws e = record { sort = k; part = throw_typed; frames = b }

    goes_on : {a : Core} {env : Env} → Runs cells ds a env k → TermTyped cells ds (term (Do a env) fs)
    goes_on r = record { sort = k; part = do_typed r; frames = b }

    value_steps : (j : Sort) (o : Outcome) (g : V → Option Term) → GoodSort cells j o → ((v : V) → OfSort cells j v → Goes (on_top fs (g v))) → Goes (on_top fs (on_value o g))
    value_steps j (Gives v) g h w = w v h
    value_steps j (Throws x) g h w = throws x
    value_steps j Stuck g h w = absurd h

    values_step : (P : List V → Type 0) (o : Outcomes) (g : List V → Option Term) → AllAre cells P o → ((vs : List V) → P vs → Goes (on_top fs (g vs))) → Goes (on_top fs (on_values o g))
    values_step P (AllGive vs) g h w = w vs h
    values_step P (OneThrows x) g h w = throws x
    values_step P OneStuck g h w = absurd h

    throwing : (v : V) → OfSort cells (a_value exn) v → Goes (on_top fs (thrown v))
    throwing (Exception e) h = throws e
    throwing _ h = absurd h

    -- ---- a value that chooses
    chooses : {a c : Core} {env : Env} → Runs cells ds a env k → Runs cells ds c env k → (v : V) → OfSort cells (a_value bool) v → Goes (on_top fs (chosen a c env v))
    chooses p q (Truth true) h = goes_on p
    chooses p q (Truth false) h = goes_on q
    chooses p q _ h = absurd h

    chooses_maybe : {a c : Core} {x : Name} {t : T} {env : Env} → Runs cells ds a env k → Awaits cells ds x (a_value t) c env k → (v : V) → OfSort cells (a_value (maybe t)) v → Goes (on_top fs (chosen_maybe a x c env v))
    chooses_maybe p q Nothing h = goes_on p
    chooses_maybe p q (Just u) h = goes_on (awaited q u h)
    chooses_maybe p q _ h = absurd h

    chooses_either : {a c : Core} {x y : Name} {s t : T} {env : Env} → Awaits cells ds x (a_value s) a env k → Awaits cells ds y (a_value t) c env k → (v : V) → OfSort cells (a_value (either s t)) v → Goes (on_top fs (chosen_either x a y c env v))
    chooses_either p q (Left u) h = goes_on (awaited p u h)
    chooses_either p q (Right u) h = goes_on (awaited q u h)
    chooses_either p q _ h = absurd h

    module _ (here : ℕ) (g : List SortedName) (x y : Name) (env : Env) (f : FitsScope cells g env) where
      -- an action that waits for two values
      two : {i j : Sort} {a : Core} → Binds x i → Binds y j → Does (ctx_of ds here) (with_bound y j (with_bound x i g)) a k → (u w : V) → OfSort cells i u → OfSort cells j w → Runs cells ds a (with_name y w (with_name x u env)) k
      two {i} {j} p q d u w hu hw = record { here = here; scope = with_bound y j (with_bound x i g); does = d; fits = more_fits cells (with_bound x i g) (with_name x u env) y j w q hw (more_fits cells g env x i u p hu f) }

      chooses_list : {a c : Core} {t : T} → Runs cells ds a env k → Binds x (a_value t) → Binds y (a_value (list t)) → Does (ctx_of ds here) (with_bound y (a_value (list t)) (with_bound x (a_value t) g)) c k
          → (v : V) → OfSort cells (a_value (list t)) v → Goes (on_top fs (chosen_list a x y c env v))
      chooses_list p q r d Nil h = goes_on p
      chooses_list p q r d (Cons u w) h = goes_on (two q r d u w h.0 h.1)
      chooses_list p q r d _ h = absurd h

      chooses_pair : {c : Core} {s t : T} → Binds x (a_value s) → Binds y (a_value t) → Does (ctx_of ds here) (with_bound y (a_value t) (with_bound x (a_value s) g)) c k → (v : V) → OfSort cells (a_value (pair s t)) v
          → Goes (on_top fs (chosen_pair x y c env v))
      chooses_pair q r d (Pair u w) h = goes_on (two q r d u w h.0 h.1)
      chooses_pair q r d _ h = absurd h

  module _ {k : Sort} {fs : List Frame} (b : FramesTyped cells ds k fs) where
    restores_at : (a : Core) (env : Env) → Runs cells ds a env k → (w : V) → of_masking w → Goes (on_top fs (restored a env (Some w)))
    restores_at a env p (Restore m) q = goes_on (mask_typed b) p
    restores_at a env p _ q = absurd q

    restores : (r : Name) {a : Core} {env : Env} → Runs cells ds a env k → (o : Option V) → FitsAt cells r (Some a_masking_name) o → Goes (on_top fs (restored a env o))
    restores r p None h = absurd h
    restores r {a} {env} p (Some v) h = restores_at a env p v (mask_of cells r v h)

    -- ---- a call
    enters : {g : List SortedName} (here : ℕ) (body : Core) (o : Option Env) → Does (ctx_of ds here) g body k → Entered cells g o → Goes (on_top fs (entered body o))
    enters here body None w f = absurd f
    enters {g} here body (Some env) w f = goes_on b (record { here = here; scope = g; does = w; fits = f })

  calls_function : {fs : List Frame} (f : List ℕ) (sig : typing.Sig) → typing.find (sigs_from 0 ds) f ≡ Some sig → sig.acts ≡ true → FramesTyped cells ds (a_value sig.result) fs → (us : List V) → AllOf cells sig.params us
      → Goes (on_top fs (called (action_named f (actions_of ds)) us))
  calls_function {fs} f sig e w b us a =
      let h = heads f sig e w in
      let p = h.2 in
      subst (λ z. Goes (on_top fs (called z us))) (sym h.1)
      (enters b p.here h.0.body (with_params h.0.params us []) p.does (takes_fit cells p.takes [] us (λ y. tt) a))

  -- ---- rules 1 to 11
  module _ (here : ℕ) (s : Mask) where
    value_good : (g : List SortedName) (env : Env) (e : CoreEx) (j : Sort) → FitsScope cells g env → CoreHas (ctx_of ds here) g e j → GoodSort cells j (value_of_core (functions_of ds) env e)
    value_good g env e j f h = accepted_good cells script here g env e j accepted h f

    runs : (g : List SortedName) {a : Core} {env : Env} {k : Sort} → FitsScope cells g env → Does (ctx_of ds here) g a k → Runs cells ds a env k
    runs g f d = record { here = here; scope = g; does = d; fits = f }

    waits : (g : List SortedName) {x : Name} {j : Sort} {a : Core} {env : Env} {k : Sort} → FitsScope cells g env → Binds x j → Does (ctx_of ds here) (with_bound x j g) a k → Awaits cells ds x j a env k
    waits g f b d = record { here = here; scope = g; binds = b; does = d; fits = f }

    first_goes : {g : List SortedName} {a : Core} {k : Sort} {fs : List Frame} (env : Env) → Does (ctx_of ds here) g a k → FitsScope cells g env → FramesTyped cells ds k fs → Goes (on_top fs (first_step (code_of ds) s a env))
    first_goes {g} {k} env (does_return {e} h) f b = value_steps b k (value_of_core (functions_of ds) env e) _ (value_good g env e k f h) (λ v q. record { sort = k; part = ret_typed q; frames = b })
    first_goes {g} env (does_throw {e} h) f b = value_steps b (a_value exn) (value_of_core (functions_of ds) env e) _ (value_good g env e (a_value exn) f h) (throwing b)
    first_goes {g} env (does_let {e} {j} p h d) f b = value_steps b j (value_of_core (functions_of ds) env e) _ (value_good g env e j f h) (λ v q. goes_on b (awaited (waits g f p d) v q))
    first_goes {g} env (does_bind p d w) f b = goes_on (bind_typed (waits g f p w) b) (runs g f d)
    first_goes {g} env (does_then d w) f b = goes_on (then_typed (runs g f w) b) (runs g f d)
    first_goes {g} env (does_if {e} h d w) f b = value_steps b (a_value bool) (value_of_core (functions_of ds) env e) _ (value_good g env e (a_value bool) f h) (chooses b (runs g f d) (runs g f w))
    first_goes {g} env (does_maybe {e} {t} p h d w) f b = value_steps b (a_value (maybe t)) (value_of_core (functions_of ds) env e) _ (value_good g env e (a_value (maybe t)) f h) (chooses_maybe b (runs g f d) (waits g f p w))
    first_goes {g} env (does_either {e} {s = i} {t} p q h d w) f b =
        value_steps b (a_value (either i t)) (value_of_core (functions_of ds) env e) _ (value_good g env e (a_value (either i t)) f h) (chooses_either b (waits g f p d) (waits g f q w))
    first_goes {g} env (does_list {e} {x} {y} {t} p q h d w) f b =
        value_steps b (a_value (list t)) (value_of_core (functions_of ds) env e) _ (value_good g env e (a_value (list t)) f h) (chooses_list b here g x y env f (runs g f d) p q w)
    first_goes {g} env (does_pair {e} {x} {y} {s = i} {t} p q h w) f b =
        value_steps b (a_value (pair i t)) (value_of_core (functions_of ds) env e) _ (value_good g env e (a_value (pair i t)) f h) (chooses_pair b here g x y env f p q w)
    first_goes {g} env (does_call {f = fn} {es} sig e w l h) f b =
        values_step b (AllOf cells sig.params) (values_of_exs (functions_of ds) env es) _ (args_good cells script accepted here g env es sig.params f l h) (calls_function fn sig e w b)
    first_goes {g} {k} env (does_perform {es} {ks} q h) f b =
        values_step b (AllOfSorts cells ks) (values_of_core (functions_of ds) env es) _ (exs_sorts cells script accepted here env f h) (λ us z. record { sort = k; part = op_typed (calls_typed q z); frames = b })
    first_goes {g} env (does_fork d) f b = record { sort = _; part = op_typed (forks_typed (runs g f d)); frames = b }
    first_goes {g} env (does_fork_unmask p d) f b = record { sort = _; part = op_typed (forks_unmask_typed (waits g f p d)); frames = b }
    first_goes {g} env (does_catch p d w) f b = goes_on (catch_typed (waits g f p w) b) (runs g f d)
    first_goes {g} env (does_mask p d) f b = goes_on (mask_typed b) (awaited (waits g f p d) (Restore s) tt)
    first_goes {g} env (does_mask_hard p d) f b = goes_on (mask_typed b) (awaited (waits g f p d) (Restore s) tt)
    first_goes {g} env (does_restore {r} {a} h d) f b = restores b r (runs g f d) (value_at r env) (subst (λ o. FitsAt cells r o (value_at r env)) h.1 (f r))

  -- ---- one local rule, and some in turn

  ret_goes : (v : V) {k : Sort} {fs : List Frame} → OfSort cells k v → FramesTyped cells ds k fs → StepsOrStops cells ds (Ret v) fs (ret_step v fs)
  ret_goes v h no_frames = refl
  ret_goes v h (bind_typed {j} w b) = record { sort = j; part = do_typed (awaited w v h); frames = b }
  ret_goes v h (then_typed {j} r b) = record { sort = j; part = do_typed r; frames = b }
  ret_goes v {k} h (catch_typed w b) = record { sort = k; part = ret_typed h; frames = b }
  ret_goes v {k} h (mask_typed b) = record { sort = k; part = ret_typed h; frames = b }

  throw_goes : (e : Exn) {k : Sort} {fs : List Frame} → FramesTyped cells ds k fs → StepsOrStops cells ds (Throw e) fs (throw_step e fs)
  throw_goes e no_frames = refl
  throw_goes e (bind_typed {j} w b) = record { sort = j; part = throw_typed; frames = b }
  throw_goes e (then_typed {j} r b) = record { sort = j; part = throw_typed; frames = b }
  throw_goes e {k} (catch_typed w b) = record { sort = k; part = do_typed (awaited w (Exception e) tt); frames = mask_typed b }
  throw_goes e {k} (mask_typed b) = record { sort = k; part = throw_typed; frames = b }

  goes_steps : (a : Core) (env : Env) (fs : List Frame) (o : Option Term) → Goes o → StepsOrStops cells ds (Do a env) fs o
  goes_steps a env fs None h = absurd h
  goes_steps a env fs (Some t) h = h

  pub local_goes : {p : Part} {k : Sort} {fs : List Frame} → PartTyped cells ds p k → FramesTyped cells ds k fs → StepsOrStops cells ds p fs (local (code_of ds) p fs)
  local_goes (ret_typed {v} h) b = ret_goes v h b
  local_goes (throw_typed {e}) b = throw_goes e b
  local_goes {fs} (do_typed {a} {env} r) b = goes_steps a env fs _ (first_goes r.here (mask_at fs) env r.does r.fits b)
  local_goes (op_typed h) b = tt

  abbrev pub KeepsTyped : Option Term → Type 0
  KeepsTyped None = Unit {0}
  KeepsTyped (Some t) = TermTyped cells ds t

  on_term_goes : (p : Part) (fs : List Frame) (o : Option Term) (k : Term → Option Term) → StepsOrStops cells ds p fs o → ((u : Term) → TermTyped cells ds u → KeepsTyped (k u)) → KeepsTyped (on_term o k)
  on_term_goes p fs None k h g = tt
  on_term_goes p fs (Some t) k h g = g t h

  pub locals_go : (k : ℕ) (t : Term) → TermTyped cells ds t → KeepsTyped (locals (code_of ds) k t)
  locals_go zero t h = h
  locals_go (suc k) t h = on_term_goes t.part t.frames (local (code_of ds) t.part t.frames) (λ u. locals (code_of ds) k u) (local_goes h.part h.frames) (λ u g. locals_go k u g)
