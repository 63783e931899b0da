-- What an expression of a code is, when values of slots are an environment that fits its scope, and what an answer
-- stands for (own).
use Rattle.std.specs.Prelude.{◌≡◌, ℕ, List}
use Rattle.rules_code.specs.declared.code.CodeBody.{CodeBody}
use Rattle.rules_code.specs.declared.node.ExprId.{ExprId}
use Rattle.rules_expansion.specs.trees.Programs.{script_of}
use Rattle.rules_meaning.specs.Values as val
use Rattle.rules_meaning.specs.Values.{V, Env, value_of}
use Rattle.rules_meaning.specs.Meaning.{functions_of}
use Rattle.rules_sorts.specs.Sorts.{Sort, SortedName}
use Rattle.rules_typing.specs.TypingScripts.{sigs_from}
use Rattle.rules_sorts.specs.TypedMeaning.{any_cell}
use Rattle.rules_code.specs.Slots.{roots_of, tree_at}
use Rattle.rules_expansion.specs.Core.{CoreEx}
use Rattle.rules_meaning.specs.CoreMeaning.{value_of_core}
use Rattle.rules_code.specs.CodeTrees.{slotted_core_ex}
use Rattle.hs_soundness.specs.CoreSorts.{names_of, CoreHas, SlotsFit}
use Rattle.hs_eval.specs.declared.outcome.Outcome.{Outcome}
use Rattle.hs_eval.specs.declared.outcome.Outcome.TheVariants as o

abbrev pub outcome_of : Outcome → val.Outcome
outcome_of (o.Value v) = val.Gives (value_of v)
outcome_of (o.Throws e) = val.Throws e

-- The node stands for an expression e of an action of the code's script, with slots for the names of the scope g. The
-- expression has the sort k there, in a definition that `here` others precede.
pub record IsExpression (code : CodeBody) (at : ExprId) (here : ℕ) (g : List SortedName) (e : CoreEx) (k : Sort) : Type 0 where
  pub stands : tree_at code.nodes at ≡ slotted_core_ex (roots_of (script_of code.of.value)) (names_of g) e
  pub has : CoreHas (record { sigs = sigs_from 0 (script_of code.of.value); here = here }) g e k

-- A reading of a node and of values of slots: the node is an expression of the code, in a scope that the values fit. Where
-- there are several, the answer is right of each of them.
pub record Reading (code : CodeBody) (at : ExprId) (vs : List V) : Type 0 where
  pub here : ℕ
  pub scope : List SortedName
  pub expression : CoreEx
  pub sort : Sort
  pub names : Env
  pub stands : IsExpression code at here scope expression sort
  pub fits : SlotsFit any_cell scope names vs

-- what the expression means with names, in that environment
abbrev pub meaning : (code : CodeBody) (at : ExprId) (vs : List V) → Reading code at vs → val.Outcome
meaning code at vs r = value_of_core (functions_of (script_of code.of.value)) r.names r.expression
