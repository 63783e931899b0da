-- The typing rules of definitions and scripts as a function.
use Rattle.std.specs.Prelude.{ℕ, ◌+◌, ◌||◌, List, [], ◌∷◌, ◌++◌, Bool, true, false, cond, ltb}
use Rattle.hs_base.specs.declared.tree.expr.Name.{Name}
use Rattle.hs_base.specs.declared.tree.script.Script.{Script}
use Rattle.rules_expansion.specs.trees.Trees.{T, Wr}
use Rattle.rules_expansion.specs.trees.Programs.{Bd, pure_body, io_body, Fn, script_of}
use Rattle.rules_expansion.specs.Sizes.{body_size}
use Rattle.rules_typing.specs.Typing.{Fault, large, is, TypedName, Sig, Ctx}
use Rattle.rules_typing.specs.TypingFaults.{In, Precedes}
use Rattle.rules_typing.specs.TypingSizes.{Extent, worst_body, param_names}
use Rattle.rules_typing.specs.TypingScripts.{result_of, params_in, head_faults, twice_faults, sigs_from, none_of, Measured, unmeasured, measured_with}
use Rattle.typing_judge.specs.Judging.{Found, good, lost, part, needing, judge}
use Rattle.typing_judge.specs.JudgingActions.{judge_bl}

abbrev pub judge_body : Ctx → List TypedName → Bd → Found
judge_body c s (pure_body w e) = judge c s e
judge_body c s (io_body w a) = judge_bl c s a

-- the body is to have the declared type
abbrev pub ends : Name → Wr → T → Found
ends x w u = needing x.pos (is w.ty u ∷ []) (good u)

-- the body, where the head is sound
abbrev pub def_found : Ctx → Fn → Found
def_found c d = cond (none_of (head_faults d)) (part (judge_body c (params_in [] d.params) d.body) (ends d.name (result_of d.body))) lost

-- Large aside
abbrev pub def_faults : Ctx → Fn → List Fault
def_faults c d = twice_faults c d.name ++ (head_faults d ++ (def_found c d).faults)

abbrev pub is_far : Extent → Bool
is_far x = ltb 100000 x.size || ltb 1000 x.height

abbrev pub is_large : List Sig → Measured → Fn → Bool
is_large gs m d = is_far (worst_body gs m.extents (param_names [] d.params) d.body) || ltb 1000000 (m.total + body_size d.body)

abbrev pub large_faults : Ctx → Measured → Fn → List Fault
large_faults c m d = cond (none_of (def_faults c d)) (cond (is_large c.sigs m d) (large d.name.pos ∷ []) []) []

abbrev pub faults_from : List Sig → Measured → ℕ → List Fn → List Fault
faults_from sigs m k [] = []
faults_from sigs m k (d ∷ ds) = (def_faults (record { sigs = sigs; here = k }) d ++ large_faults (record { sigs = sigs; here = k }) m d) ++ faults_from sigs (measured_with sigs m d) (k + 1) ds

abbrev pub script_faults : List Fn → List Fault
script_faults ds = faults_from (sigs_from 0 ds) unmeasured 0 ds

abbrev pub NoFaults : Script → Type 0
NoFaults s = (f : Fault) → In (script_faults (script_of s)) f → ⊥

-- the rule is in the list and comes before each in it
abbrev pub IsLeast : Script → Fault → Type 0
IsLeast s f = In (script_faults (script_of s)) f × ((g : Fault) → In (script_faults (script_of s)) g → Precedes f g)
