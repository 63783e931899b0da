-- What judging the head and the body of a definition does to the checker.
use Rattle.std.specs.Prelude.{◌≡◌, List, [], ◌∷◌, ◌++◌, Bool, map}
use Rattle.hs_base.specs.declared.tree.script.Def.{Def}
use Rattle.hs_base.specs.declared.tree.script.Param.{Param}
use Rattle.rules_expansion.specs.trees.Trees.{wr_of}
use Rattle.rules_expansion.specs.trees.Programs.{fn_of, par_of}
use Rattle.rules_typing.specs.Typing.{Ctx, Fault, TypedName, bound}
use Rattle.rules_typing.specs.TypingScripts.{head_faults, none_of, param_faults, params_in, result_of, room_faults, twice_faults, wide_faults}
use Rattle.typing_judge.specs.Judging.{Found, part}
use Rattle.typing_judge.specs.JudgingScripts.{ends, judge_body}
use Rattle.typing_judge.specs.Least.{least}
use Rattle.typing_table.specs.declared.table.TypeNode.{TypeNode}
use Rattle.typing_parts.specs.Contexts.{ctx_of}
use Rattle.typing_parts.specs.Judged.{names, kept}
use Rattle.typing_parts.specs.declared.checker.Checker.{Checker}
use Rattle.typing_parts.specs.declared.funs.Funs.{Funs}

-- this is the scope then, these broken rules were noted, and b says whether there were none
abbrev pub Entered : List TypeNode → Checker → Checker → Bool → List TypedName → List Fault → Type 0
Entered ms old new b s fs = (names ms new ≡ s) × (kept ms new ≡ least (kept ms old) fs) × (b ≡ none_of fs)

-- a parameter was bound: its type may be too wide, and the scope may have no room for it
abbrev pub ParamEntered : List TypeNode → Checker → Checker → Bool → Param → Type 0
ParamEntered ms old new b p = Entered ms old new b (bound p.name (wr_of p.ty).ty ∷ names ms old) (wide_faults (wr_of p.ty) ++ room_faults (names ms old) p.name)

abbrev pub ParamsEntered : List TypeNode → Checker → Checker → Bool → List Param → Type 0
ParamsEntered ms old new b ps = Entered ms old new b (params_in (names ms old) (map par_of ps)) (param_faults (names ms old) (map par_of ps))

-- The parameters are the scope then. An earlier definition of the name was noted, and what the head breaks; b says whether
-- the head is sound.
abbrev pub HeadEntered : Funs → Checker → Checker → Bool → Def → Type 0
HeadEntered f old new b d = (names f.types.nodes new ≡ params_in [] (fn_of d).params) × (kept f.types.nodes new ≡ least (kept f.types.nodes old) (twice_faults (ctx_of f) d.name ++ head_faults (fn_of d))) × (b ≡ none_of (head_faults (fn_of d)))

-- the body under the parameters, and whether its type is the declared one
abbrev pub body_found : Ctx → Def → Found
body_found c d = part (judge_body c (params_in [] (fn_of d).params) (fn_of d).body) (ends d.name (result_of (fn_of d).body))
