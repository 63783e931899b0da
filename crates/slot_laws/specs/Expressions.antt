-- The expressions with slots that a thread's next local rule evaluates, and when they may be evaluated (own).
--
-- `hs_eval::eval` answers for a node of a code where there is a reading of it and of the values of slots. Those readings
-- are said by the parts of `Evaluable`, of the tree that the node stands for.
use Rattle.std.specs.Prelude.{◌≡◌, ℕ, List, [], ◌∷◌, Some, slice_get}
use Rattle.rules_expansion.specs.trees.Programs.{Fn}
use Rattle.rules_expansion.specs.Core.{CoreEx, Core}
use Rattle.rules_meaning.specs.Values.{V, Env}
use Rattle.rules_sorts.specs.Sorts.{Sort, SortedName}
use Rattle.rules_sorts.specs.TypedMeaning.{any_cell}
use Rattle.rules_code.specs.declared.act.Act.{Act}
use Rattle.rules_code.specs.declared.act.Act.TheVariants as a
use Rattle.rules_code.specs.declared.node.ExprId.{ExprId}
use Rattle.rules_code.specs.Slots.{Sx, Sxs, s_none, s_more, roots_of}
use Rattle.rules_code.specs.CodeTrees.{Sa, a_return, a_throw, a_let, a_bind, a_then, a_if, a_maybe, a_either, a_list, a_pair, a_call, a_perform, a_fork, a_fork_unmask, a_catch, a_mask, a_mask_hard, a_restore, a_bad, slotted_core_ex}
use Rattle.hs_rules.specs.Terms.{Part, Do}
use Rattle.hs_soundness.specs.CoreSorts.{names_of, CoreHas, SlotsFit}
use Rattle.hs_progress.specs.Evaluated.{evaluated}
use Rattle.hs_progress.specs.TypedStates.{ctx_of}

abbrev pub each_of : Sxs → List Sx
each_of s_none = []
each_of (s_more e es) = e ∷ each_of es

-- the expressions with slots that an action's first local rule evaluates, from the left to the right
abbrev pub slots_evaluated : Sa → List Sx
slots_evaluated (a_return e) = e ∷ []
slots_evaluated (a_throw e) = e ∷ []
slots_evaluated (a_let e a) = e ∷ []
slots_evaluated (a_bind a b) = []
slots_evaluated (a_then a b) = []
slots_evaluated (a_if e a b) = e ∷ []
slots_evaluated (a_maybe e a b) = e ∷ []
slots_evaluated (a_either e a b) = e ∷ []
slots_evaluated (a_list e a b) = e ∷ []
slots_evaluated (a_pair e a) = e ∷ []
slots_evaluated (a_call f es) = each_of es
slots_evaluated (a_perform p es) = each_of es
slots_evaluated (a_fork a) = []
slots_evaluated (a_fork_unmask a) = []
slots_evaluated (a_catch a b) = []
slots_evaluated (a_mask a) = []
slots_evaluated (a_mask_hard a) = []
slots_evaluated (a_restore k a) = []
slots_evaluated a_bad = []

-- the numbers of the expressions that the first local rule of an action's node evaluates, from the left to the right
abbrev pub nodes_evaluated : Act → List ExprId
nodes_evaluated (a.Return e) = e ∷ []
nodes_evaluated (a.Throw e) = e ∷ []
nodes_evaluated (a.Let e i) = e ∷ []
nodes_evaluated (a.Bind i j) = []
nodes_evaluated (a.Then i j) = []
nodes_evaluated (a.If e i j) = e ∷ []
nodes_evaluated (a.CaseMaybe e i j) = e ∷ []
nodes_evaluated (a.CaseEither e i j) = e ∷ []
nodes_evaluated (a.CaseList e i j) = e ∷ []
nodes_evaluated (a.CasePair e i) = e ∷ []
nodes_evaluated (a.Call f es) = es
nodes_evaluated (a.Perform p es) = es
nodes_evaluated (a.Fork i) = []
nodes_evaluated (a.ForkUnmask i) = []
nodes_evaluated (a.Catch i j) = []
nodes_evaluated (a.Mask i) = []
nodes_evaluated (a.UninterruptibleMask i) = []
nodes_evaluated (a.Restore k i) = []

-- A tree is the one of number n among the expressions that the first local rule of a named part evaluates, with slots for
-- the names of a scope. There it has a sort, in a definition that `here` others precede, and the values of the slots are
-- the part's environment and fit that scope.
pub record Evaluable (ds : List Fn) (q : Part) (n : ℕ) (tree : Sx) (vs : List V) : Type 0 where
  pub action : Core
  pub names : Env
  pub part : q ≡ Do action names
  pub expression : CoreEx
  pub among : slice_get (evaluated action) n ≡ Some expression
  pub here : ℕ
  pub scope : List SortedName
  pub sort : Sort
  pub stands : tree ≡ slotted_core_ex (roots_of ds) (names_of scope) expression
  pub has : CoreHas (ctx_of ds here) scope expression sort
  pub fits : SlotsFit any_cell scope names vs
