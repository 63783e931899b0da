-- A node that has a reading gives what the expression means, and so is never stuck.
use Rattle.std.proofs.Common.{◌≡◌, List, sym, ap, ◌∙◌, subst}
use Rattle.std.proofs.Math.Bool.{Bool-set}
use Rattle.std.proofs.Math.Logic.{∥∥₁_elim}
use Rattle.hs_base.specs.declared.tree.script.Script.{Script}
use Rattle.rules_code.specs.declared.code.CodeBody.{CodeBody}
use Rattle.rules_code.specs.declared.node.ExprId.{ExprId}
use Rattle.rules_expansion.specs.trees.Programs.{script_of}
use Rattle.rules_meaning.specs.Values.{V, Outcome, Stuck}
use Rattle.rules_typing.specs.TypingScripts.{Accepted, sigs_from}
use Rattle.rules_sorts.specs.TypedMeaning.{any_cell}
use Rattle.rules_code.specs.Slots.{run, tree_at}
use Rattle.hs_soundness.specs.CoreSorts.{GoodSort}
use Rattle.hs_soundness.proofs.CoreExpressions.{accepted_good}
use Rattle.hs_soundness.proofs.CoreSlots.{core_slots}
use Rattle.hs_eval.specs.Readings.{Reading, meaning}

accepted_prop : (s : Script) → IsProp (Accepted s)
accepted_prop s = hlevel (Bool-set)

-- the script of a code is accepted
accepted : (code : CodeBody) → Accepted code.of.value
accepted code = ∥∥₁_elim code.stands (accepted_prop code.of.value) (λ h. h.accepted)

pub means : (code : CodeBody) (at : ExprId) (vs : List V) (o : Outcome) → o ≡ run (tree_at code.nodes at) vs → (r : Reading code at vs) → o ≡ meaning code at vs r
means code at vs o e r =
    e ∙ (ap (λ t. run t vs) r.stands.stands
    ∙ core_slots any_cell (script_of code.of.value) (record { sigs = sigs_from 0 (script_of code.of.value); here = r.here }) r.scope r.names vs r.expression r.sort r.stands.has r.fits)

pub good : (code : CodeBody) (at : ExprId) (vs : List V) (o : Outcome) → o ≡ run (tree_at code.nodes at) vs → (r : Reading code at vs) → GoodSort any_cell r.sort o
good code at vs o e r = subst (GoodSort any_cell r.sort) (sym (means code at vs o e r)) (accepted_good any_cell code.of.value r.here r.scope r.names r.expression r.sort (accepted code) r.stands.has r.fits.sorts)

pub never_stuck : (code : CodeBody) (at : ExprId) (vs : List V) (o : Outcome) → o ≡ run (tree_at code.nodes at) vs → ∥ Reading code at vs ∥₁ → o ≡ Stuck → ⊥
never_stuck code at vs o e h s = ∥∥₁_elim h (λ x y. absurd x) (λ r. subst (GoodSort any_cell r.sort) s (good code at vs o e r))
