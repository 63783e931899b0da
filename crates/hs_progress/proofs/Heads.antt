-- Each action function of an accepted script does what its head says, and `main` can begin.
use Rattle.std.proofs.Common.{◌≡◌, ℕ, ◌+◌, List, [], ◌∷◌, Bool, true, false, cond, map, Option, Some, None, refl, sym, ap, ◌∙◌, subst, bytes_eq}
use Rattle.std.specs.Prelude.{◌&&◌, codes}
use Rattle.std.proofs.lemmas.Bool.{and_parts}
use Rattle.plain_laws.proofs.Lists.{bytes_eq_sym}
use Rattle.hs_base.specs.declared.tree.script.Body.{Body}
use Rattle.hs_base.specs.declared.tree.script.Body.TheVariants as y
use Rattle.hs_base.specs.declared.tree.script.Def.{Def}
use Rattle.hs_base.specs.declared.tree.script.Script.{Script}
use Rattle.rules_expansion.specs.trees.Trees.{T, unit}
use Rattle.rules_expansion.specs.trees.Programs.{bl_of, bd_of, Par, Fn, fn_of, script_of}
use Rattle.rules_expansion.specs.Names.{Name, Written}
use Rattle.rules_sorts.specs.Sorts.{a_value, SortedName}
use Rattle.rules_typing.specs.Typing.{Sig}
use Rattle.rules_typing.specs.Typing as typing
use Rattle.rules_typing.specs.TypingScripts.{Accepted, sig_of_fn, sigs_from, params_in, param_types, result_of, BodyHas, is_unit, is_none, main_by}
use Rattle.rules_expansion.specs.Core.{Core, ActionFunction, action_named}
use Rattle.rules_expansion.specs.Expansion.{actions_of, param_names, block_core, body_of, main_of}
use Rattle.hs_soundness.specs.AcceptedBodies.{BodiesTyped}
use Rattle.hs_soundness.proofs.BodiesTyped.{bodies_typed}
use Rattle.hs_soundness.proofs.WellBlocks.{bl_well}
use Rattle.hs_progress.specs.CoreTyping.{with_bound, Sees, Does, Takes, takes_none, takes_one}
use Rattle.hs_progress.specs.TypedStates.{ctx_of, KeepsHead, HeadsKept, Runs}
use Rattle.hs_progress.proofs.Surface.{binds, bl_does}

-- ---- parameters

abbrev scope_with : List SortedName → List Par → List SortedName
scope_with g [] = g
scope_with g (p ∷ ps) = scope_with (with_bound (Written p.name.text) (a_value p.ty.ty) g) ps

params_take : (g : List SortedName) (ps : List Par) → Takes g (param_names ps) (param_types ps) (scope_with g ps)
params_take g [] = takes_none
params_take g (p ∷ ps) = takes_one (params_take (with_bound (Written p.name.text) (a_value p.ty.ty) g) ps)

params_see : (g : List SortedName) (s : List typing.TypedName) (ps : List Par) → Sees g s
    → Sees (scope_with g ps) (params_in s ps)
params_see g s [] w = w
params_see g s (p ∷ ps) w = params_see (with_bound (Written p.name.text) (a_value p.ty.ty) g) (typing.bound p.name p.ty.ty ∷ s) ps (binds p.name p.ty.ty w)

-- ---- one definition after another

-- a definition with this body
abbrev fn_with : Def → Body → Fn
fn_with d b = record { name = d.name; params = (fn_of d).params; body = bd_of b }

module _ (script : List Fn) where
  abbrev Found : Sig → Option ActionFunction → Type 0
  Found sig o = (d : ActionFunction) × (o ≡ Some d) × KeepsHead script sig d

  pure_step : (t : Bool) (first sig : Sig) (o : Option Sig) (q : Option ActionFunction) → first.acts ≡ false → cond t (Some first) o ≡ Some sig → sig.acts ≡ true → (o ≡ Some sig → Found sig q) → Found sig q
  pure_step true first sig o q p e a h = absurd (let z : first ≡ sig = cc in let w : false ≡ true = sym p ∙ (ap (λ (s : Sig). s.acts) z ∙ a) in cc w)
  pure_step false first sig o q p e a h = h e

  act_step : (t r : Bool) → t ≡ r → (first sig : Sig) (o : Option Sig) (d : ActionFunction) (q : Option ActionFunction) → KeepsHead script first d → cond t (Some first) o ≡ Some sig → (o ≡ Some sig → Found sig q) → Found sig (cond r (Some d) q)
  act_step true true same first sig o d q k e h = (d, refl, (let z : first ≡ sig = cc in subst (λ s. KeepsHead script s d) z k))
  act_step true false same first sig o d q k e h = absurd (cc same)
  act_step false true same first sig o d q k e h = absurd (cc same)
  act_step false false same first sig o d q k e h = h e

  heads_from : (k : ℕ) (ds : List Def) → BodiesTyped (sigs_from 0 script) k (map fn_of ds) → (f : List ℕ) (sig : Sig) → typing.find (sigs_from k (map fn_of ds)) f ≡ Some sig → sig.acts ≡ true → Found sig (action_named f (actions_of (map fn_of ds)))
  heads_from k [] h f sig e a = absurd (let z : None ≡ Some sig = e in cc z)
  heads_from k (d ∷ ds) h f sig e a = by d.body h.0 e (λ z. heads_from (k + 1) ds h.1 f sig z a)
    where
      by : (b : Body) → BodyHas (ctx_of script k) (params_in [] (fn_of d).params) (bd_of b) (result_of (bd_of b)).ty → cond (bytes_eq d.name.text f) (Some (sig_of_fn k (fn_with d b))) (typing.find (sigs_from (k + 1) (map fn_of ds)) f) ≡ Some sig
          → (typing.find (sigs_from (k + 1) (map fn_of ds)) f ≡ Some sig → Found sig (action_named f (actions_of (map fn_of ds)))) → Found sig (action_named f (actions_of (fn_with d b ∷ map fn_of ds)))
      by (y.Pure w x) q z r = pure_step (bytes_eq d.name.text f) (sig_of_fn k (fn_with d (y.Pure w x))) sig (typing.find (sigs_from (k + 1) (map fn_of ds)) f) (action_named f (actions_of (map fn_of ds))) refl z a r
      by (y.Action w x) q z r =
          act_step (bytes_eq d.name.text f) (bytes_eq f d.name.text) (bytes_eq_sym d.name.text f) (sig_of_fn k (fn_with d (y.Action w x))) sig (typing.find (sigs_from (k + 1) (map fn_of ds)) f)
          (record { name = d.name.text; params = param_names (fn_of d).params; body = block_core (bl_of x) }) (action_named f (actions_of (map fn_of ds)))
          (record {
            here = k;
            scope = scope_with [] (fn_of d).params;
            takes = params_take [] (fn_of d).params;
            does = bl_does (ctx_of script k) (params_in [] (fn_of d).params) (bl_of x) _ (bl_well x) q (scope_with [] (fn_of d).params) (params_see [] [] (fn_of d).params (record { tidy = tt; same = refl }));
          })
          z r

pub heads_kept : (s : Script) → Accepted s → HeadsKept (script_of s)
heads_kept s a f sig e w = heads_from (script_of s) 0 s.defs (bodies_typed s a) f sig e w

-- ---- `main`

pub no_types : (ts : List T) → is_none ts ≡ true → ts ≡ []
no_types [] e = refl
no_types (t ∷ ts) e = absurd (let z : false ≡ true = e in cc z)

pub unit_is : (t : T) → is_unit t ≡ true → t ≡ unit
unit_is unit e = refl
unit_is _ e = absurd (cc e)

-- a function without parameters, in the empty environment
runs_of : (s : Script) (sig : Sig) (d : ActionFunction) (ps : List Name) → d.params ≡ ps → sig.params ≡ [] → KeepsHead (script_of s) sig d → (cells : ℕ → T → Type 0) → Runs cells (script_of s) d.body [] (a_value sig.result)
runs_of s sig d ps e n h cells = by h.takes h.does n
  where
    by : {ps : List Name} {ts : List T} {g : List SortedName} → Takes [] ps ts g → Does (ctx_of (script_of s) h.here) g d.body (a_value sig.result) → ts ≡ [] → Runs cells (script_of s) d.body [] (a_value sig.result)
    by takes_none p e = record { here = h.here; scope = []; does = p; fits = λ y. tt }
    by (takes_one {t} {ts} x) p e = absurd (let z : t ∷ ts ≡ [] = e in cc z)

-- the body of `main` gives a unit
pub main_runs : (s : Script) → Accepted s → (a : Core) × (main_of (script_of s) ≡ Some a) × ((cells : ℕ → T → Type 0) → Runs cells (script_of s) a [] (a_value unit))
main_runs s a = by (typing.find (sigs_from 0 (script_of s)) (codes "main")) refl a.1
  where
    by : (o : Option Sig) → typing.find (sigs_from 0 (script_of s)) (codes "main") ≡ o → main_by o ≡ true
        → (a : Core) × (main_of (script_of s) ≡ Some a) × ((cells : ℕ → T → Type 0) → Runs cells (script_of s) a [] (a_value unit))
    by None e h = absurd (cc h)
    by (Some sig) e h =
        let q = and_parts sig.acts (is_none sig.params && is_unit sig.result) h in
        let r = and_parts (is_none sig.params) (is_unit sig.result) q.1 in
        let f = heads_kept s a (codes "main") sig e q.0 in
        let m : main_of (script_of s) ≡ Some f.0.body = ap body_of f.1 in (
          f.0.body,
          m,
          λ cells. subst (λ z. Runs cells (script_of s) f.0.body [] (a_value z)) (unit_is sig.result r.1) (runs_of s sig f.0 f.0.params refl (no_types sig.params r.0) f.2 cells),
        )
