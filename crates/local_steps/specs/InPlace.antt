-- The two rules that loops do most, by what they change: the action that goes on, and its environment (own).
use Rattle.std.specs.Prelude.{◌≡◌, ℕ, List, slice_get}
use Rattle.rules_meaning.specs.Values.{V}
use Rattle.rules_code.specs.declared.act.ActId.{ActId}
use Rattle.rules_code.specs.declared.code.CodeBody.{CodeBody}
use Rattle.rules_code.specs.declared.node.ExprId.{ExprId}
use Rattle.rules_code.specs.Slots.{run, run_all, trees, tree_at, trees_in}
use Rattle.slot_laws.specs.SlotRules.{called, chosen, doing, just_part, on_value, on_values}
use Rattle.local_steps.specs.Machine.{act_of, below_of, funs_of}

-- an `if` with the number `above` goes on with the action `to`, which is the arm that its test chooses among these values
abbrev pub GoesToArm : CodeBody → ℕ → ExprId → ActId → ActId → List V → ActId → Type 0
GoesToArm b above e i j vs to = on_value (run (tree_at b.nodes e) vs) (chosen (below_of b above i) (below_of b above j) vs) ≡ just_part (doing (act_of b to) vs)

-- a call of the function of a number with these arguments goes on with the action `to`, its body, whose values `us` are those of
-- the arguments
abbrev pub GoesToBody : CodeBody → ℕ → List ExprId → List V → ActId → List V → Type 0
GoesToBody b function args vs to us = on_values (run_all (trees_in (trees b.nodes) args) vs) (called (slice_get (funs_of b) function)) ≡ just_part (doing (act_of b to) us)
