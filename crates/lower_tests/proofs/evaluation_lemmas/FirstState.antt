-- The first state of a run: what the action that is the body of `main` evaluates has a reading, in no values.
use Rattle.std.proofs.Common.{◌≡◌, ◌≤◌, ℕ, List, [], ◌∷◌, length, Some, None, refl, sym, subst, arith, slice_get, slice_index_or}
use Rattle.rules_expansion.specs.trees.Trees.{unit}
use Rattle.rules_expansion.specs.trees.Programs.{script_of}
use Rattle.rules_expansion.specs.Core.{Core}
use Rattle.rules_meaning.specs.Values.{V}
use Rattle.rules_sorts.specs.Sorts.{a_value}
use Rattle.rules_code.specs.declared.code.CodeBody.{CodeBody}
use Rattle.rules_code.specs.declared.node.ExprId.{ExprId}
use Rattle.rules_code.specs.Slots.{tree_at}
use Rattle.rules_code.specs.CodeTrees.{act_tree_at, main_tree, StandsFor}
use Rattle.hs_rules.specs.Terms.{Part, Do, term}
use Rattle.hs_eval.specs.Readings.{Reading}
use Rattle.slot_laws.specs.SlotRules.{doing, at}
use Rattle.slot_laws.specs.Standing.{cells_of, Reads, do_stands, none_stand, Stands}
use Rattle.slot_laws.specs.Expressions.{Evaluable}

-- the node of `main`'s body, alone, stands for the term of the first thread
pub first_stands : (b : CodeBody) → StandsFor b.nodes b.acts b.funs b.main b.of.value → (a : Core) → Reads (cells_of None) (script_of b.of.value) (main_tree (script_of b.of.value)) [] a [] (a_value unit)
    → Stands (cells_of None) (script_of b.of.value) (at (doing (act_tree_at b.nodes b.acts b.main) []) []) (term (Do a []) [])
first_stands b w a r = subst (λ z. Stands (cells_of None) (script_of b.of.value) (at (doing z []) []) (term (Do a []) [])) (sym w.main_is) (record { sort = a_value unit; part = do_stands r; frames = none_stand })

-- what may be evaluated has a reading
pub reading_of : (b : CodeBody) (q : Part) (n : ℕ) (e : ExprId) (vs : List V) → Evaluable (script_of b.of.value) q n (tree_at b.nodes e) vs → Reading b e vs
reading_of b q n e vs r = record {
  here = r.here;
  scope = r.scope;
  expression = r.expression;
  sort = r.sort;
  names = r.names;
  stands = record { stands = r.stands; has = r.has };
  fits = r.fits;
}

-- the only item of a list
pub first_item : (es : List ExprId) (d : ExprId) → 1 ≤ length es → slice_get es 0 ≡ Some (slice_index_or es 0 d)
first_item [] d h = absurd (omega (arith, h))
first_item (e ∷ es) d h = refl
