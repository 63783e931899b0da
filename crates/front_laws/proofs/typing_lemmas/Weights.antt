-- How often the trees that a grammar's rules spell have a position.
use Rattle.std.proofs.Common.{◌≡◌, ℕ, ◌+◌, ◌≤◌, List, [], ◌∷◌, map, Option, Some, None, refl, ap, arith, ◌⊎◌}
use Rattle.hs_base.specs.declared.pos.Pos.{Pos}
use Rattle.hs_base.specs.declared.tree.action.Action.{Action}
use Rattle.hs_base.specs.declared.tree.action.Block.{Block}
use Rattle.hs_base.specs.declared.tree.action.BlockArms.{BlockArms}
use Rattle.hs_base.specs.declared.tree.action.Stmt.{Stmt}
use Rattle.hs_base.specs.declared.tree.expr.CompareOp.{CompareOp}
use Rattle.hs_base.specs.declared.tree.expr.Expr.{Expr}
use Rattle.hs_base.specs.declared.tree.expr.ExprArms.{ExprArms}
use Rattle.hs_base.specs.declared.tree.expr.Link.{Link}
use Rattle.hs_base.specs.declared.tree.expr.ListLink.{ListLink}
use Rattle.hs_base.specs.declared.tree.expr.Name.{Name}
use Rattle.hs_base.specs.declared.tree.expr.SumLink.{SumLink}
use Rattle.hs_base.specs.declared.tree.script.Body.{Body}
use Rattle.hs_base.specs.declared.tree.script.Def.{Def}
use Rattle.hs_base.specs.declared.tree.script.Param.{Param}
use Rattle.hs_base.specs.declared.tree.ty.Written.{Written}
use Rattle.hs_base.specs.declared.tree.forms.BinaryForm.{BinaryForm}
use Rattle.rules_expansion.specs.trees.Trees.{Ex, Arms, ex_of, arms_of, exs_of, links_of, list_links_of, sum_links_of}
use Rattle.rules_expansion.specs.trees.Programs.{SurfaceAction, Bl, ActArms, before, act_of, bl_of, stmt_of, act_arms_of, par_of, bd_of, fn_of}
use Rattle.rules_grammar.specs.GrammarParts.{OpenerPart, type_in_parens, type_in_brackets, param_in_parens, block_in_braces, block_if, block_case, block_arms, let_stmt, no_items, two_names, expr_if, expr_case, expr_arms, expr_let, expr_in_parens, items_in_brackets, items_or_none}
use Rattle.front_laws.specs.typing.Positions.{ex_positions, exs_positions, link_positions, arm_positions, act_positions, bl_positions, act_arm_positions, par_positions, body_positions, fn_positions}
use Rattle.front_laws.proofs.typing_lemmas.Counts.{here, times, times-append}
use Rattle.front_laws.proofs.typing_lemmas.Fits.{Weighing, Weighs, Free, Sum}

module _ (q : Pos) where
  abbrev pub name_weight : Name → ℕ
  name_weight x = here q x.pos

  abbrev pub written_weight : Written → ℕ
  written_weight w = here q w.pos

  -- ---- expressions
  abbrev pub expr_weight : Expr → ℕ
  expr_weight x = times q (ex_positions (ex_of x))

  abbrev pub exprs_weight : List Expr → ℕ
  exprs_weight xs = times q (exs_positions (exs_of xs))

  abbrev pub arms_weight : ExprArms → ℕ
  arms_weight r = times q (arm_positions (arms_of r))

  abbrev pub links_weight : List Link → ℕ
  links_weight [] = 0
  links_weight (k ∷ ks) = (here q k.pos + expr_weight k.operand) + links_weight ks

  abbrev pub list_links_weight : List ListLink → ℕ
  list_links_weight [] = 0
  list_links_weight (k ∷ ks) = (here q k.pos + expr_weight k.operand) + list_links_weight ks

  abbrev pub sum_links_weight : List SumLink → ℕ
  sum_links_weight [] = 0
  sum_links_weight (k ∷ ks) = (here q k.pos + expr_weight k.operand) + sum_links_weight ks

  abbrev pub compared_weight : Option (CompareOp × Pos × Expr) → ℕ
  compared_weight None = 0
  compared_weight (Some c) = here q c.1 + expr_weight c.2

  -- what waits for the position of its opener
  abbrev pub InParens : Weighing (Pos → Expr)
  InParens f n = (p : Pos) → (n ≤ expr_weight (f p)) × (expr_weight (f p) ≤ here q p + n)

  -- an expression and what the rules see of it
  pub weigh_ex : (e : Expr) (x : Ex) (n : ℕ) → ex_of e ≡ x → times q (ex_positions x) ≡ n → expr_weight e ≡ n
  weigh_ex e x n i h = omega (arith, ap (λ z. times q (ex_positions z)) i, h)

  pub weigh_arms : (r : ExprArms) (x : Arms) (n : ℕ) → arms_of r ≡ x → times q (arm_positions x) ≡ n → arms_weight r ≡ n
  weigh_arms r x n i h = omega (arith, ap (λ z. times q (arm_positions z)) i, h)

  pub links_are : (f : BinaryForm) (ks : List Link) → times q (link_positions (links_of f ks)) ≡ links_weight ks
  links_are f [] = refl
  links_are f (k ∷ ks) = omega (arith, links_are f ks, times-append q (ex_positions (ex_of k.operand)) (link_positions (links_of f ks)))

  pub list_links_are : (ks : List ListLink) → times q (link_positions (list_links_of ks)) ≡ list_links_weight ks
  list_links_are [] = refl
  list_links_are (k ∷ ks) = omega (arith, list_links_are ks, times-append q (ex_positions (ex_of k.operand)) (link_positions (list_links_of ks)))

  pub sum_links_are : (ks : List SumLink) → times q (link_positions (sum_links_of ks)) ≡ sum_links_weight ks
  sum_links_are [] = refl
  sum_links_are (k ∷ ks) = omega (arith, sum_links_are ks, times-append q (ex_positions (ex_of k.operand)) (link_positions (sum_links_of ks)))

  -- ---- actions
  abbrev pub action_weight : Action → ℕ
  action_weight a = times q (act_positions (act_of a))

  abbrev pub block_weight : Block → ℕ
  block_weight b = times q (bl_positions (bl_of b))

  abbrev pub block_arms_weight : BlockArms → ℕ
  block_arms_weight r = times q (act_arm_positions (act_arms_of r))

  -- statements, by what they add to a block
  abbrev pub Stated : Weighing Stmt
  Stated s n = (c : Bl) → times q (bl_positions (stmt_of s c)) ≡ n + times q (bl_positions c)

  abbrev pub AllStated : Weighing (List Stmt)
  AllStated ss n = (c : Bl) → times q (bl_positions (before (map stmt_of ss) c)) ≡ n + times q (bl_positions c)

  abbrev pub BlockItem : Weighing (Stmt ⊎ Action)
  BlockItem = Sum Stated (Weighs action_weight)

  pub weigh_act : (a : Action) (x : SurfaceAction) (n : ℕ) → act_of a ≡ x → times q (act_positions x) ≡ n → action_weight a ≡ n
  weigh_act a x n i h = omega (arith, ap (λ z. times q (act_positions z)) i, h)

  pub weigh_act_arms : (r : BlockArms) (x : ActArms) (n : ℕ) → act_arms_of r ≡ x → times q (act_arm_positions x) ≡ n → block_arms_weight r ≡ n
  weigh_act_arms r x n i h = omega (arith, ap (λ z. times q (act_arm_positions z)) i, h)

  pub weigh_stmt : (s : Stmt) (f : Bl → Bl) (n : ℕ) → stmt_of s ≡ f → ((c : Bl) → times q (bl_positions (f c)) ≡ n + times q (bl_positions c)) → Stated s n
  weigh_stmt s f n i h c = omega (arith, ap (λ z. times q (bl_positions (z c))) i, h c)

  -- ---- scripts
  abbrev pub param_weight : Param → ℕ
  param_weight p = here q p.name.pos + here q p.ty.pos

  abbrev pub params_weight : List Param → ℕ
  params_weight ps = times q (par_positions (map par_of ps))

  abbrev pub body_weight : Body → ℕ
  body_weight b = times q (body_positions (bd_of b))

  abbrev pub def_weight : Def → ℕ
  def_weight d = here q d.name.pos + params_weight d.params + body_weight d.body

  abbrev pub defs_weight : List Def → ℕ
  defs_weight ds = times q (fn_positions (map fn_of ds))

  -- ---- what stands in an opener
  abbrev pub part_weighing : {B : Type 0} → OpenerPart B → Weighing B
  part_weighing type_in_parens = Free
  part_weighing type_in_brackets = Free
  part_weighing param_in_parens = Weighs param_weight
  part_weighing block_in_braces = Weighs block_weight
  part_weighing block_if = Weighs (λ x. expr_weight x.0 + block_weight x.1 + block_weight x.2)
  part_weighing block_case = Weighs (λ x. expr_weight x.0 + block_arms_weight x.1)
  part_weighing block_arms = Weighs block_arms_weight
  part_weighing let_stmt = Weighs (λ x. name_weight x.0 + expr_weight x.1)
  part_weighing no_items = Free
  part_weighing two_names = Weighs (λ x. name_weight x.0 + name_weight x.1)
  part_weighing expr_if = Weighs (λ x. expr_weight x.0 + expr_weight x.1 + expr_weight x.2)
  part_weighing expr_case = Weighs (λ x. expr_weight x.0 + arms_weight x.1)
  part_weighing expr_arms = Weighs arms_weight
  part_weighing expr_let = Weighs (λ x. name_weight x.0 + expr_weight x.1 + expr_weight x.2)
  part_weighing expr_in_parens = InParens
  part_weighing items_in_brackets = Weighs exprs_weight
  part_weighing items_or_none = Sum Free (Weighs exprs_weight)
