-- Each definition of an accepted script has a body of the declared type.
use Rattle.std.proofs.Common.{◌≡◌, ℕ, ◌+◌, List, [], ◌∷◌, Bool, true, false, map, refl, sym, ◌∙◌, subst, inl, inr}
use Rattle.hs_base.specs.declared.tree.script.Body.{Body}
use Rattle.hs_base.specs.declared.tree.script.Body.TheVariants as y
use Rattle.hs_base.specs.declared.tree.script.Def.{Def}
use Rattle.hs_base.specs.declared.tree.script.Script.{Script}
use Rattle.rules_expansion.specs.trees.Programs.{Fn, bd_of, fn_of, script_of}
use Rattle.rules_typing.specs.Typing.{Fault, Need, is, Met, Ctx, Sig}
use Rattle.rules_typing.specs.TypingFaults.{In}
use Rattle.rules_typing.specs.TypingScripts.{result_of, params_in, head_faults, sigs_from, BodyHas, DefBreaks, AnyBreaks, Measured, unmeasured, measured_with, Accepted}
use Rattle.rules_sorts.specs.TypedMeaning.{BodyTyped, PureTyped}
use Rattle.typing_judge.specs.Judging.{met}
use Rattle.typing_judge.specs.JudgingScripts.{judge_body}
use Rattle.typing_judge.proofs.Laws.{met_true, true_met}
use Rattle.typing_judge.proofs.Scripts.{agree_body}
use Rattle.hs_soundness.specs.AcceptedBodies.{BodiesTyped}
use Rattle.hs_soundness.proofs.Faultless.{sure_body}
use Rattle.hs_soundness.proofs.Wells.{ex_well}

empty_where : (fs : List Fault) → ((f : Fault) → In fs f → ⊥) → fs ≡ []
empty_where [] h = refl
empty_where (f ∷ fs) h = absurd (h f (inl refl))

-- a need that isn't unmet is met
met_where : (n : Need) → ((Met n → ⊥) → ⊥) → Met n
met_where n h = by (met n) refl
  where
    by : (b : Bool) → met n ≡ b → Met n
    by true e = met_true n e
    by false e = absurd (h (λ m. let z : true ≡ false = sym (true_met n m) ∙ e in absurd (cc z)))

-- a body that breaks nothing has the declared type
body_has : (c : Ctx) (d : Fn) → ((f : Fault) → DefBreaks c d f → ⊥) → BodyHas c (params_in [] d.params) d.body (result_of d.body).ty
body_has c d none =
    let head : head_faults d ≡ [] = empty_where (head_faults d) (λ f h. none f (inr (inl h))) in
    let a = agree_body c (params_in [] d.params) d.body in
    let found = sure_body c (params_in [] d.params) d.body (empty_where (judge_body c (params_in [] d.params) d.body).faults (λ f h. none f (inr (inr (head, inl (a.broken f h)))))) in
    let has = a.typed found.0 found.1 in
    let same = met_where (is (result_of d.body).ty found.0) (λ m. none _ (inr (inr (head, inr (found.0, has, inl (m, refl)))))) in
    subst (BodyHas c (params_in [] d.params) d.body) (sym same) has

bodies_from : (sigs : List Sig) (m : Measured) (k : ℕ) (ds : List Fn) → ((f : Fault) → AnyBreaks sigs m k ds f → ⊥) → BodiesTyped sigs k ds
bodies_from sigs m k [] none = tt
bodies_from sigs m k (d ∷ ds) none = (
  body_has (record { sigs = sigs; here = k }) d (λ f h. none f (inl (inl h))),
  bodies_from sigs (measured_with sigs m d) (k + 1) ds (λ f h. none f (inr h)),
)

-- ---- the pure ones

pure_from : (sigs : List Sig) (k : ℕ) (ds : List Def) → BodiesTyped sigs k (map fn_of ds) → PureTyped sigs k (map fn_of ds)
pure_from sigs k [] h = tt
pure_from sigs k (d ∷ ds) h = (by d.body h.0, pure_from sigs (k + 1) ds h.1)
  where
    by : (b : Body) → BodyHas (record { sigs = sigs; here = k }) (params_in [] (fn_of d).params) (bd_of b) (result_of (bd_of b)).ty → BodyTyped (record { sigs = sigs; here = k }) (fn_of d) (bd_of b)
    by (y.Pure w e) q = (ex_well e, q)
    by (y.Action w a) q = tt

-- ---- accepted scripts

pub bodies_typed : (s : Script) → Accepted s → BodiesTyped (sigs_from 0 (script_of s)) 0 (script_of s)
bodies_typed s a = bodies_from (sigs_from 0 (script_of s)) unmeasured 0 (script_of s) a.0

pub pure_typed : (s : Script) → Accepted s → PureTyped (sigs_from 0 (script_of s)) 0 (script_of s)
pure_typed s a = pure_from (sigs_from 0 (script_of s)) 0 s.defs (bodies_typed s a)
