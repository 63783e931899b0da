-- What binding a name does where the scope takes it, and where it is full.
use Rattle.std.specs.Prelude.{List, ◌≡◌, [], ◌∷◌, Bool, true, false}
use Rattle.hs_base.specs.declared.tree.expr.Name.{Name}
use Rattle.rules_expansion.specs.trees.Trees.{T}
use Rattle.rules_typing.specs.Typing.{bound, scope}
use Rattle.typing_judge.specs.Judging.{full}
use Rattle.typing_judge.specs.Least.{least}
use Rattle.typing_table.specs.declared.table.TypeNode.{TypeNode}
use Rattle.typing_parts.specs.Judged.{names, kept}
use Rattle.typing_parts.specs.declared.checker.Checker.{Checker}

abbrev pub EnteredBy : List TypeNode → Bool → Checker → Checker → Bool → Name → T → Type 0
EnteredBy ms true old new b x t = (b ≡ false) × (names ms new ≡ names ms old) × (kept ms new ≡ least (kept ms old) (scope x.pos ∷ []))
EnteredBy ms false old new b x t = (b ≡ true) × (names ms new ≡ bound x t ∷ names ms old) × (kept ms new ≡ kept ms old)

abbrev pub Entered : List TypeNode → Checker → Checker → Bool → Name → T → Type 0
Entered ms old new b x t = EnteredBy ms (full (names ms old)) old new b x t
