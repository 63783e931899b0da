-- What an evaluator has of a node's parts, and of the values of slots.
use Rattle.std.specs.Prelude.{ℕ, List, take}
use Rattle.hs_base.specs.declared.value.Value.{Value}
use Rattle.rules_code.specs.declared.node.ExprId.{ExprId}
use Rattle.rules_meaning.specs.Values.{V, Outcome}
use Rattle.rules_code.specs.Slots.{Sx, run, trees}
use Rattle.hs_eval.specs.declared.evaluate.Evaluator.{Evaluator}
use Rattle.hs_eval.specs.Evaluation.{part_of, slots}

-- the trees of the nodes below one
abbrev pub trees_below : Evaluator → ℕ → List Sx
trees_below e above = take above (trees e.nodes.now)

-- the values of the slots: its outer ones, and those that the expression bound
abbrev pub slots_of : Evaluator → List Value → List V
slots_of e inner = slots e.outer.now inner

-- what a part of a node gives, with these values of the slots
abbrev pub run_part : Evaluator → ℕ → ExprId → List V → Outcome
run_part e above i vs = run (part_of e.nodes.now above i) vs
