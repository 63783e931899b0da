-- The smallest code stands for its script, and its one expression has a reading.
use Rattle.std.proofs.Common.{◌≡◌, List, [], ◌∷◌, codes, true, refl, sym, ap, ◌∙◌, subst}
use Rattle.hs_base.specs.declared.pos.Pos.{Pos}
use Rattle.hs_base.specs.declared.tree.action.Action.TheVariants as a
use Rattle.hs_base.specs.declared.tree.expr.Expr.TheVariants as e
use Rattle.hs_base.specs.declared.tree.forms.UnaryAction.TheVariants as u
use Rattle.hs_base.specs.declared.tree.script.Script.{Script}
use Rattle.rules_code.specs.declared.node.Node.{Node}
use Rattle.rules_code.specs.declared.act.Act.{Act}
use Rattle.rules_code.specs.declared.code.Fun.{Fun}
use Rattle.rules_code.specs.declared.code.CodeBody.{CodeBody}
use Rattle.rules_expansion.specs.trees.Trees.{T, unit, lit, nothing_more}
use Rattle.rules_expansion.specs.trees.Programs.{Bl, last, unary_act, bl_of, io_body, Fn, script_of}
use Rattle.rules_sorts.specs.Sorts.{a_value}
use Rattle.rules_typing.specs.TypingScripts.{Accepted, NothingBroken, has_main}
use Rattle.rules_sorts.specs.TypedMeaning.{any_cell}
use Rattle.rules_code.specs.Slots.{tree_at}
use Rattle.rules_expansion.specs.Core.{OfScript}
use Rattle.rules_code.specs.CodeTrees.{code_trees, main_tree, StandsFor}
use Rattle.rules_expansion.proofs.trees_lemmas.Equations.{ty-Unit, ex-Unit}
use Rattle.rules_expansion.proofs.trees_lemmas.EquationsOfActions.{bl_is, act-Unary}
use Rattle.typing_judge.proofs.Scripts.{script_breaks}
use Rattle.hs_soundness.proofs.Growing.{fits_none}
use Rattle.hs_eval.specs.Readings.{Reading}
use Rattle.lower_tests.specs.evaluation.SmallestCode.{smallest_script, smallest_nodes, smallest_acts, smallest_funs}

abbrev returns_unit : Pos → Bl
returns_unit p = last (unary_act u.Return p (lit p nothing_more))

block_is : (p : Pos) → bl_of (record { stmts = []; last = a.Unary u.Return p (e.Unit p) }) ≡ returns_unit p
block_is p = bl_is _ ∙ ap last (act-Unary u.Return p (e.Unit p) ∙ ap (unary_act u.Return p) (ex-Unit p))

-- the head is main's, whatever the type and the block are
abbrev with_parts : Pos → T → Bl → List Fn
with_parts p t c = record { name = record { text = codes "main"; pos = p }; params = []; body = io_body (record { ty = t; pos = p }) c } ∷ []

script_is : (p : Pos) → script_of (smallest_script p) ≡ with_parts p unit (returns_unit p)
script_is p = ap (λ z. with_parts p z (bl_of (record { stmts = []; last = a.Unary u.Return p (e.Unit p) }))) ty-Unit ∙ ap (with_parts p unit) (block_is p)

pub smallest_accepted : (p : Pos) → Accepted (smallest_script p)
smallest_accepted p = (
  subst NothingBroken (sym (script_is p)) (λ f h. script_breaks (with_parts p unit (returns_unit p)) f h),
  subst (λ ds. has_main ds ≡ true) (sym (script_is p)) refl,
)

pub smallest_stands : (p : Pos) → StandsFor smallest_nodes smallest_acts smallest_funs (record { 0 = 0 }) (smallest_script p)
smallest_stands p = record {
  accepted = smallest_accepted p;
  functions = sym (ap code_trees (script_is p));
  main_is = sym (ap main_tree (script_is p));
}

pub smallest_reading : (code : CodeBody) (p : Pos) → code.nodes ≡ smallest_nodes → Reading code (record { 0 = 0 }) []
smallest_reading code p is = record {
  here = 0;
  scope = [];
  expression = OfScript (lit p nothing_more);
  sort = a_value unit;
  names = [];
  stands = record { stands = ap (λ ns. tree_at ns (record { 0 = 0 })) is; has = (unit, tt, refl, refl) };
  fits = fits_none any_cell;
}

pub stands_where : (p : Pos) (ns : List Node) (acts : List Act) (funs : List Fun) (s : Script) → ns ≡ smallest_nodes → acts ≡ smallest_acts → funs ≡ smallest_funs → s ≡ smallest_script p
    → ∥ StandsFor ns acts funs (record { 0 = 0 }) s ∥₁
stands_where p ns acts funs s n a f e =
    ∣ subst (λ z. StandsFor z acts funs (record { 0 = 0 }) s) (sym n)
    (subst (λ z. StandsFor smallest_nodes z funs (record { 0 = 0 }) s) (sym a)
    (subst (λ z. StandsFor smallest_nodes smallest_acts z (record { 0 = 0 }) s) (sym f)
    (subst (λ z. StandsFor smallest_nodes smallest_acts smallest_funs (record { 0 = 0 }) z) (sym e) (smallest_stands p)))) ∣₁
