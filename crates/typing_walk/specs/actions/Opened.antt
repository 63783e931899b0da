-- A name was bound for a block, or it was noted that the scope takes no more names.
use Rattle.std.specs.Prelude.{List, ◌≡◌, [], ◌∷◌, Bool, true, false}
use Rattle.hs_base.specs.declared.tree.expr.Name.{Name}
use Rattle.rules_typing.specs.Typing.{TypedName, scope}
use Rattle.typing_judge.specs.Judging.{full}
use Rattle.typing_judge.specs.Least.{least}
use Rattle.typing_table.specs.declared.table.TypeNode.{TypeNode}
use Rattle.typing_parts.specs.Judged.{names, kept}
use Rattle.typing_parts.specs.declared.checker.Checker.{Checker}

abbrev pub Opened : List TypeNode → Bool → Checker → Checker → Name → TypedName → Type 0
Opened ms true old new x b = (full (names ms old) ≡ false) × (names ms new ≡ b ∷ names ms old) × (kept ms new ≡ kept ms old)
Opened ms false old new x b = (full (names ms old) ≡ true) × (names ms new ≡ names ms old) × (kept ms new ≡ least (kept ms old) (scope x.pos ∷ []))
