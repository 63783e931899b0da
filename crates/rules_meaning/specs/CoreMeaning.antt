-- The code of a script (own): what its pure functions answer, its action functions, and what an expression of a core
-- action gives.
use Rattle.std.specs.Prelude.{ℕ, pos, List, [], ◌∷◌, Option, Some, None}
use Rattle.hs_base.specs.declared.exn.Exn.TheVariants as exn
use Rattle.hs_base.specs.declared.tree.forms.UnaryForm.TheVariants as u
use Rattle.hs_base.specs.declared.tree.forms.BinaryForm.TheVariants as b
use Rattle.rules_expansion.specs.trees.Programs.{Fn}
use Rattle.rules_expansion.specs.Names.{Name}
use Rattle.rules_expansion.specs.Core.{CoreEx, OfScript, Read, JustRead, NoValue, BelowZero, IsZero, SameExn, Killed, Nil, LeftRead, RightRead, RightLeft, RightRight, RightNil, PairRead, FirstOf, SecondOf, ActionFunction}
use Rattle.rules_expansion.specs.Expansion.{actions_of}
use Rattle.rules_meaning.specs.Values.{V, UnitValue, Int, Just, Nothing, Left, Right, Exception, Env, value_at, Outcome, Gives, Stuck, Outcomes, AllGive, and_then}
use Rattle.rules_meaning.specs.Meaning.{Functions, functions_of, value_of_ex, unary_of, binary_of}

-- what a script defines: what its pure functions answer, and its action functions
pub record Code : Type 0 where
  pub functions : Functions
  pub actions : List ActionFunction

abbrev pub code_of : List Fn → Code
code_of ds = record { functions = functions_of ds; actions = actions_of ds }

-- ---- what expressions give

abbrev pub read : Option V → (V → Outcome) → Outcome
read None k = Stuck
read (Some v) k = k v

-- what an expression of a core action gives
abbrev pub value_of_core : Functions → Env → CoreEx → Outcome
value_of_core fs env (OfScript e) = value_of_ex fs env e
value_of_core fs env (Read x) = read (value_at x env) Gives
value_of_core fs env (JustRead x) = read (value_at x env) (λ v. Gives (Just v))
value_of_core fs env NoValue = Gives Nothing
value_of_core fs env (BelowZero x) = read (value_at x env) (λ v. binary_of b.Less v (Int (pos 0)))
value_of_core fs env (IsZero x) = read (value_at x env) (λ v. binary_of b.Equal v (Int (pos 0)))
value_of_core fs env (SameExn x y) = read (value_at x env) (λ v. read (value_at y env) (λ w. binary_of b.Equal v w))
value_of_core fs env Killed = Gives (Exception exn.ThreadKilled)
value_of_core fs env Nil = Gives UnitValue
value_of_core fs env (LeftRead x) = read (value_at x env) (λ v. Gives (Left v))
value_of_core fs env (RightRead x) = read (value_at x env) (λ v. Gives (Right v))
value_of_core fs env (RightLeft x) = read (value_at x env) (λ v. Gives (Right (Left v)))
value_of_core fs env (RightRight x) = read (value_at x env) (λ v. Gives (Right (Right v)))
value_of_core fs env RightNil = Gives (Right UnitValue)
value_of_core fs env (PairRead x y) = read (value_at x env) (λ v. read (value_at y env) (λ w. binary_of b.Pair v w))
value_of_core fs env (FirstOf x) = read (value_at x env) (unary_of u.Fst)
value_of_core fs env (SecondOf x) = read (value_at x env) (unary_of u.Snd)

-- from the left to the right, up to the first exception
abbrev pub values_of_core : Functions → Env → List CoreEx → Outcomes
values_of_core fs env [] = AllGive []
values_of_core fs env (e ∷ es) = and_then (value_of_core fs env e) (values_of_core fs env es)
