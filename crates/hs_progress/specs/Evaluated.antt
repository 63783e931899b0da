-- What an action's first step evaluates, and when it may be evaluated (own).
use Rattle.std.specs.Prelude.{◌≢◌, ℕ, List, [], ◌∷◌}
use Rattle.rules_expansion.specs.trees.Trees.{Exs, none, more}
use Rattle.rules_expansion.specs.trees.Programs.{Fn}
use Rattle.rules_meaning.specs.Values.{Env, Stuck}
use Rattle.rules_meaning.specs.Meaning.{Functions}
use Rattle.rules_meaning.specs.CoreMeaning.{value_of_core}
use Rattle.rules_sorts.specs.Sorts.{Sort, SortedName}
use Rattle.rules_sorts.specs.TypedMeaning.{any_cell}
use Rattle.rules_typing.specs.Typing.{Ctx}
use Rattle.rules_expansion.specs.Core.{CoreEx, OfScript, Core, Return, ThrowIo, Let, Bind, If, CaseMaybe, CaseEither, CaseList, CasePair, Call, Perform, Fork, ForkUnmask, Catch, MaskWith, MaskHard, Restore}
use Rattle.hs_soundness.specs.CoreSorts.{CoreHas, FitsScope}
use Rattle.hs_progress.specs.TypedStates.{ctx_of}

abbrev pub of_script : Exs → List CoreEx
of_script none = []
of_script (more e es) = OfScript e ∷ of_script es

-- the expressions that an action's first local rule evaluates, from the left to the right
abbrev pub evaluated : Core → List CoreEx
evaluated (Return e) = e ∷ []
evaluated (ThrowIo e) = e ∷ []
evaluated (Let x e a) = e ∷ []
evaluated (Bind x a b) = []
evaluated (If e a b) = e ∷ []
evaluated (CaseMaybe e a x b) = e ∷ []
evaluated (CaseEither e x a y b) = e ∷ []
evaluated (CaseList e a x y b) = e ∷ []
evaluated (CasePair e x y b) = e ∷ []
evaluated (Call f es) = of_script es
evaluated (Perform p es) = es
evaluated (Fork a) = []
evaluated (ForkUnmask r a) = []
evaluated (Catch a x b) = []
evaluated (MaskWith r a) = []
evaluated (MaskHard r a) = []
evaluated (Restore r a) = []

-- each of these expressions has a sort in this scope
abbrev pub HaveSorts : Ctx → List SortedName → List CoreEx → Type 0
HaveSorts c g [] = Unit {0}
HaveSorts c g (e ∷ es) = ((k : Sort) × CoreHas c g e k) × HaveSorts c g es

-- What an action's first step evaluates may be evaluated in an environment: each expression has a sort in one scope, in a
-- definition that `here` others precede, and the environment fits that scope.
pub record MayEvaluate (ds : List Fn) (a : Core) (env : Env) : Type 0 where
  pub here : ℕ
  pub scope : List SortedName
  pub sorts : HaveSorts (ctx_of ds here) scope (evaluated a)
  pub fits : FitsScope any_cell scope env

-- each of these expressions gives a value or an exception, and never nothing
abbrev pub AllAnswer : Functions → Env → List CoreEx → Type 0
AllAnswer fs env [] = Unit {0}
AllAnswer fs env (e ∷ es) = (value_of_core fs env e ≢ Stuck) × AllAnswer fs env es
