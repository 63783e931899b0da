-- Each local rule keeps what a term owes.
use Rattle.std.proofs.Common.{◌≡◌, ℕ, zero, suc, List, [], ◌∷◌, Bool, true, false, cond, Option, Some, None, refl, bytes_eq}
use Rattle.hs_base.specs.declared.mask.Mask.{Mask}
use Rattle.hs_base.specs.declared.exn.Exn.{Exn}
use Rattle.rules_expansion.specs.Names.{Name, Added}
use Rattle.rules_expansion.specs.declared.hidden.Hidden.TheVariants.{Instance, BracketResult, BracketFault}
use Rattle.rules_meaning.specs.Values.{V, Truth, Nothing, Just, Left, Right, Pair, Nil, Cons, Exception, Restore, Inst, Env, value_at, Outcome, Gives, Throws, Stuck, Outcomes, AllGive, OneThrows, OneStuck}
use Rattle.rules_expansion.specs.Core.{Read, Core, ActionFunction, action_named}
use Rattle.rules_expansion.specs.declared.primitive.Primitive.TheVariants.{Release}
use Rattle.rules_meaning.specs.CoreMeaning.{Code, value_of_core, values_of_core}
use Rattle.rules_meaning.specs.Meaning.{values_of_exs}
use Rattle.rules_expansion.specs.Expansion.{release, bracket_exit}
use Rattle.hs_rules.specs.Terms.{Calls, Part, Throw, Performs, Frame, BindTo, MaskIn, Term, mask_at}
use Rattle.hs_rules.specs.LocalRules.{on_value, on_values, thrown, chosen, chosen_maybe, chosen_either, chosen_list, chosen_pair, with_params, entered, called, restored, first_step, ret_step, throw_step, on_top, local, on_term, locals}
use Rattle.hs_laws.specs.BracketPhases.{Fine, fine_return, fine_throw, fine_let, fine_bind, fine_if, fine_maybe, fine_either, fine_list, fine_pair, fine_call, fine_primitive, fine_fork, fine_fork_unmask, fine_catch, fine_mask, fine_mask_hard, fine_restore, fine_bracket, FineCode}
use Rattle.hs_laws.specs.BracketLaw.{IsMasked}
use Rattle.hs_laws.proofs.Held.{join_masked}
use Rattle.hs_laws.specs.BracketPhases.{Below, no_frames, below_bind, below_catch, below_mask, below_number, below_guarded, below_throw, below_last, Held, held_ret, held_throw, held_do, held_op, held_masked, held_number, held_acquire, held_acquired, held_instance, held_keep, held_guarded, held_result, held_leave, held_leave_release, held_leave_op, held_handle, held_handle_release, held_handle_op, held_then_throw, held_last, held_thrown, held_passing}

abbrev pub Goes : Option Term → List ℕ → Type 0
Goes None o = Unit {0}
Goes (Some t) o = Held t.part t.frames o

abbrev pub FineDef : Option ActionFunction → Type 0
FineDef None = Unit {0}
FineDef (Some d) = Fine d.body

cond_def : (b : Bool) (d : ActionFunction) (o : Option ActionFunction) → Fine d.body → FineDef o → FineDef (cond b (Some d) o)
cond_def true d o f g = f
cond_def false d o f g = g

pub def_fine : (f : List ℕ) (ds : List ActionFunction) → FineCode ds → FineDef (action_named f ds)
def_fine f [] h = tt
def_fine f (d ∷ ds) h = cond_def (bytes_eq f d.name) d (action_named f ds) h.0 (def_fine f ds h.1)

-- ---- a value that an expression gives
value_kept : {fs : List Frame} {o : List ℕ} (r : Outcome) (k : V → Option Term) → Below fs o → ((v : V) → Goes (on_top fs (k v)) o) → Goes (on_top fs (on_value r k)) o
value_kept (Gives v) k b h = h v
value_kept (Throws e) k b h = held_throw b
value_kept Stuck k b h = tt

values_kept : {fs : List Frame} {o : List ℕ} (r : Outcomes) (k : List V → Option Term) → Below fs o → ((vs : List V) → Goes (on_top fs (k vs)) o) → Goes (on_top fs (on_values r k)) o
values_kept (AllGive vs) k b h = h vs
values_kept (OneThrows e) k b h = held_throw b
values_kept OneStuck k b h = tt

throwing_kept : {fs : List Frame} {o : List ℕ} → ((e : Exn) → Held (Throw e) fs o) → (v : V) → Goes (on_top fs (thrown v)) o
throwing_kept h (Exception e) = h e
throwing_kept h _ = tt

chosen_kept : (env : Env) {a b : Core} {fs : List Frame} {o : List ℕ} → Fine a → Fine b → Below fs o → (v : V) → Goes (on_top fs (chosen a b env v)) o
chosen_kept env f g r (Truth true) = held_do f r
chosen_kept env f g r (Truth false) = held_do g r
chosen_kept env f g r _ = tt

maybe_kept : (env : Env) {a b : Core} (x : Name) {fs : List Frame} {o : List ℕ} → Fine a → Fine b → Below fs o → (v : V) → Goes (on_top fs (chosen_maybe a x b env v)) o
maybe_kept env x f g r Nothing = held_do f r
maybe_kept env x f g r (Just v) = held_do g r
maybe_kept env x f g r _ = tt

either_kept : (env : Env) {a b : Core} (x y : Name) {fs : List Frame} {o : List ℕ} → Fine a → Fine b → Below fs o → (v : V) → Goes (on_top fs (chosen_either x a y b env v)) o
either_kept env x y f g r (Left v) = held_do f r
either_kept env x y f g r (Right v) = held_do g r
either_kept env x y f g r _ = tt

list_kept : (env : Env) {a b : Core} (x y : Name) {fs : List Frame} {o : List ℕ} → Fine a → Fine b → Below fs o → (v : V) → Goes (on_top fs (chosen_list a x y b env v)) o
list_kept env x y f g r Nil = held_do f r
list_kept env x y f g r (Cons v w) = held_do g r
list_kept env x y f g r _ = tt

pair_kept : (env : Env) {b : Core} (x y : Name) {fs : List Frame} {o : List ℕ} → Fine b → Below fs o → (v : V) → Goes (on_top fs (chosen_pair x y b env v)) o
pair_kept env x y g r (Pair v w) = held_do g r
pair_kept env x y g r _ = tt

restored_kept : (env : Env) {a : Core} {fs : List Frame} {o : List ℕ} → Fine a → Below fs o → (v : Option V) → Goes (on_top fs (restored a env v)) o
restored_kept env f r (Some (Restore s)) = held_do f (below_mask r)
restored_kept env f r _ = tt

entered_kept : {body : Core} {fs : List Frame} {o : List ℕ} → Fine body → Below fs o → (env : Option Env) → Goes (on_top fs (entered body env)) o
entered_kept f r None = tt
entered_kept f r (Some env) = held_do f r

called_kept : {fs : List Frame} {o : List ℕ} → Below fs o → (d : Option ActionFunction) → FineDef d → (vs : List V) → Goes (on_top fs (called d vs)) o
called_kept r None f vs = tt
called_kept r (Some d) f vs = entered_kept f r (with_params d.params vs [])

-- ---- return to restore: an action's first step
first_kept : (code : Code) → FineCode code.actions → {a : Core} → Fine a → (env : Env) {fs : List Frame} {o : List ℕ} → Below fs o → Goes (on_top fs (first_step code (mask_at fs) a env)) o
first_kept code fc (fine_return {e}) env r = value_kept (value_of_core code.functions env e) _ r (λ v. held_ret r)
first_kept code fc (fine_throw {e}) env r = value_kept (value_of_core code.functions env e) _ r (throwing_kept (λ e. held_throw r))
first_kept code fc (fine_let {x} {e} f) env r = value_kept (value_of_core code.functions env e) _ r (λ v. held_do f r)
first_kept code fc (fine_bind c f g) env r = held_do f (below_bind c g r)
first_kept code fc (fine_if {e} f g) env r = value_kept (value_of_core code.functions env e) _ r (chosen_kept env f g r)
first_kept code fc (fine_maybe {e} {x} f g) env r = value_kept (value_of_core code.functions env e) _ r (maybe_kept env x f g r)
first_kept code fc (fine_either {e} {x} {y} f g) env r = value_kept (value_of_core code.functions env e) _ r (either_kept env x y f g r)
first_kept code fc (fine_list {e} {x} {y} f g) env r = value_kept (value_of_core code.functions env e) _ r (list_kept env x y f g r)
first_kept code fc (fine_pair {e} {x} {y} g) env r = value_kept (value_of_core code.functions env e) _ r (pair_kept env x y g r)
first_kept code fc (fine_call {f} {es}) env r = values_kept (values_of_exs code.functions env es) _ r (called_kept r (action_named f code.actions) (def_fine f code.actions fc))
first_kept code fc (fine_primitive {w} {es} h) env r = values_kept (values_of_core code.functions env es) _ r (λ vs. held_op h r)
first_kept code fc (fine_fork f) env r = held_op f r
first_kept code fc (fine_fork_unmask f) env r = held_op f r
first_kept code fc (fine_catch c f g) env r = held_do f (below_catch c g r)
first_kept code fc (fine_mask f) env r = held_do f (below_mask r)
first_kept code fc (fine_mask_hard f) env r = held_do f (below_mask r)
first_kept code fc (fine_restore {r = x} f) env r = restored_kept env f r (value_at x env)
first_kept code fc (fine_bracket c f g h) env {fs} r = held_masked c f g h (join_masked (mask_at fs)) (below_mask r)

-- ---- give, keep and leave: a value
ret_kept : (v : V) {fs : List Frame} {o : List ℕ} → Below fs o → Goes (ret_step v fs) o
ret_kept v no_frames = tt
ret_kept v (below_bind c f r) = held_do f r
ret_kept v (below_catch c f r) = held_ret r
ret_kept v (below_mask r) = held_ret r
ret_kept v (below_number c f g m r) = held_number f g m r
ret_kept v (below_guarded at f m r) = held_result at f m r
ret_kept v (below_throw f w r) = held_then_throw f w r
ret_kept v (below_last w r) = held_last w r

-- ---- pass, handle and escape: an exception
throw_kept : (e : Exn) {fs : List Frame} {o : List ℕ} → Below fs o → Goes (throw_step e fs) o
throw_kept e no_frames = tt
throw_kept e (below_bind c f r) = held_throw r
throw_kept e (below_catch c f r) = held_do f (below_mask r)
throw_kept e (below_mask r) = held_throw r
throw_kept e (below_number c f g m r) = held_throw r
throw_kept e (below_guarded {b} {i} {env} {fs} at f m r) = held_handle at f (join_masked (mask_at fs)) m r
throw_kept e (below_throw f w r) = held_thrown w r
throw_kept e (below_last w r) = held_thrown w r

-- the rest of a handler throws
last_kept : (b' : Core) (env' : Env) (s : Mask) {fs : List Frame} {o : List ℕ} → IsMasked (mask_at fs) → Below fs o → (r : Outcome) →
    Goes (on_top (MaskIn s ∷ BindTo (Added BracketResult) (bracket_exit b') env' ∷ fs) (on_value r thrown)) o
last_kept b' env' s w r (Gives v) = throwing_kept (λ e. held_thrown w r) v
last_kept b' env' s w r (Throws e) = held_thrown w r
last_kept b' env' s w r Stuck = tt

-- release $i, where $i is this instance
release_step : {i : ℕ} (env : Env) {fs : List Frame} {o : List ℕ} (code : Code) → value_at (Added Instance) env ≡ Some (Inst i) → Held (Performs (Calls Release (Inst i ∷ []))) fs (i ∷ o) →
    Goes (on_top fs (first_step code (mask_at fs) release env)) (i ∷ o)
release_step {i} env {fs} {o} code at h =
    rw at h

pub local_kept : (code : Code) → FineCode code.actions → {p : Part} {fs : List Frame} {o : List ℕ} → Held p fs o → Goes (local code p fs) o
local_kept code fc (held_ret {v} r) = ret_kept v r
local_kept code fc (held_throw {e} r) = throw_kept e r
local_kept code fc (held_do {a} {env} f r) = first_kept code fc f env r
local_kept code fc (held_masked c f g h m r) = held_do f (below_number c g h m r)
local_kept code fc (held_number f g m r) = held_acquire f g m r
local_kept code fc (held_acquire f g m r) = held_acquired f g m r
local_kept code fc (held_instance f g m r) = held_keep refl f g m r
local_kept code fc (held_keep at f g m r) = held_guarded at f g m r
local_kept code fc (held_guarded at f g m r) = held_do (fine_restore g) (below_guarded at f m r)
local_kept code fc (held_result at f m r) = held_leave at f m r
local_kept code fc (held_leave at f m r) = held_leave_release at f m r
local_kept code fc (held_leave_release {env = env} at f m r) = release_step env code at (held_leave_op f m r)
local_kept code fc (held_handle at f m w r) = held_handle_release at f m w r
local_kept code fc (held_handle_release {env = env} at f m w r) = release_step env code at (held_handle_op f m w r)
local_kept code fc (held_then_throw f w r) = held_do f (below_last w r)
local_kept code fc (held_last {b'} {env} {env'} {s} w r) = last_kept b' env' s w r (value_of_core code.functions env (Read (Added BracketFault)))
local_kept code fc (held_thrown w r) = held_passing w r
local_kept code fc (held_passing w r) = held_throw r
local_kept code fc _ = tt

on_term_kept : (u : Option Term) (k : Term → Option Term) {o : List ℕ} → Goes u o → ((t : Term) → Held t.part t.frames o → Goes (k t) o) → Goes (on_term u k) o
on_term_kept None k h g = tt
on_term_kept (Some t) k h g = g t h

-- any number of local rules
pub locals_kept : (code : Code) → FineCode code.actions → (k : ℕ) (t : Term) {o : List ℕ} → Held t.part t.frames o → Goes (locals code k t) o
locals_kept code fc zero t h = h
locals_kept code fc (suc k) t h = on_term_kept (local code t.part t.frames) (λ u. locals code k u) (local_kept code fc h) (λ u g. locals_kept code fc k u g)
