-- The rules of actions, blocks and scripts, weighed by their tokens.
use Rattle.std.proofs.Common.{◌≡◌, ℕ, zero, suc, ◌+◌, ◌≤◌, List, [], ◌∷◌, ◌++◌, map, refl, subst, false, ap, arith, ◌⊎◌}
use Rattle.hs_base.specs.declared.pos.Pos.{Pos}
use Rattle.hs_base.specs.declared.tree.action.Action.{Action}
use Rattle.hs_base.specs.declared.tree.action.Action.TheVariants as a
use Rattle.hs_base.specs.declared.tree.action.Block.{Block}
use Rattle.hs_base.specs.declared.tree.action.BlockArms.{BlockArms}
use Rattle.hs_base.specs.declared.tree.action.BlockArms.TheVariants as block_arm
use Rattle.hs_base.specs.declared.tree.action.Stmt.{Stmt}
use Rattle.hs_base.specs.declared.tree.action.Stmt.TheVariants as s
use Rattle.hs_base.specs.declared.tree.expr.Expr.{Expr}
use Rattle.hs_base.specs.declared.tree.expr.ExprArms.TheVariants as expr_arm
use Rattle.hs_base.specs.declared.tree.expr.Name.{Name}
use Rattle.hs_base.specs.declared.tree.script.Def.{Def}
use Rattle.hs_base.specs.declared.tree.script.Script.{Script}
use Rattle.hs_base.specs.declared.tree.forms.UnaryAction.{UnaryAction}
use Rattle.hs_base.specs.declared.tree.forms.BinaryAction.{BinaryAction}
use Rattle.hs_base.specs.declared.tree.forms.BareAction.{BareAction}
use Rattle.hs_base.specs.declared.tree.forms.BlockAction.{BlockAction}
use Rattle.hs_base.specs.declared.tree.forms.MaskingAction.{MaskingAction}
use Rattle.hs_base.specs.declared.tree.forms.GuardAction.{GuardAction}
use Rattle.rules_expansion.specs.trees.Trees.{wr_of, ex_of, exs_of, maybe_arms, either_arms, list_arms, pair_arms}
use Rattle.rules_expansion.specs.trees.Programs.{Fn, before, stmt_of, bare, unary_act, binary_act, throw_io, new_empty, call, choose_act, case_act, modify, scoped, masking, restore, catch, guard, bracket, timeout, with_async, last, then, bind, let_in, maybe_acts, either_acts, list_acts, pair_acts, act_of, bl_of, act_arms_of, fn_of}
use Rattle.rules_expansion.proofs.trees_lemmas.Equations.{arms-OfMaybe, arms-OfEither, arms-OfList, arms-OfPair}
use Rattle.rules_expansion.proofs.trees_lemmas.EquationsOfActions as eq
use Rattle.rules_grammar.specs.Grammar as g
use Rattle.rules_grammar.specs.Grammar.{many, alts, arms, rule_of, SpelledIn, SpelledBy}
use Rattle.rules_grammar.specs.GrammarForms.{Rule, Item, Spelling}
use Rattle.rules_grammar.specs.GrammarKinds as k
use Rattle.rules_grammar.specs.GrammarParts.{TokenKind, OpenerPart, type_in_parens, type_in_brackets, param_in_parens, block_in_braces, block_if, block_case, block_arms, let_stmt, no_items, two_names, expr_if, expr_case, expr_arms, expr_let, expr_in_parens, items_in_brackets, items_or_none}
use Rattle.front_laws.specs.typing.Positions.{has_node, ex_positions, act_positions, bl_positions, act_arm_positions, par_positions, body_positions, fn_positions, positions_of}
use Rattle.front_laws.proofs.typing_lemmas.Counts.{here, times, times-append}
use Rattle.front_laws.proofs.typing_lemmas.Fits.{Weighing, Weighs, Free, seen, made, Heavy, Fits, fit_give, fit_word, fit_part, fit_skip, fit_alt, fit_map, fit_many, fit_within, fit_inside, fit_ended}
use Rattle.front_laws.proofs.typing_lemmas.Weights.{expr_weight, exprs_weight, arms_weight, action_weight, block_weight, block_arms_weight, Stated, AllStated, BlockItem, param_weight, params_weight, body_weight, def_weight, defs_weight, weigh_arms, weigh_act, weigh_act_arms, weigh_stmt, part_weighing}
use Rattle.front_laws.proofs.typing_lemmas.FitExprs.{unit_weighs, fit_at, fit_end, fit_name, fit_exprs, fit_atype, fit_type, part_type, fit_type_end, fit_arg, fit_two_args, fit_expr, fit_expr_end, fit_items}

-- ---- what the constructors weigh
module _ (q : Pos) where
  unary_weighs : (o : UnaryAction) (p : Pos) (x : Expr) (n : ℕ) → here q p + expr_weight q x ≡ n → action_weight q (a.Unary o p x) ≡ n
  unary_weighs o p x n h = weigh_act q (a.Unary o p x) (unary_act o p (ex_of x)) n (eq.act-Unary o p x) (omega (arith, h))

  binary_weighs : (o : BinaryAction) (p : Pos) (x y : Expr) (n : ℕ) → here q p + expr_weight q x + expr_weight q y ≡ n → action_weight q (a.Binary o p x y) ≡ n
  binary_weighs o p x y n h = weigh_act q (a.Binary o p x y) (binary_act o p (ex_of x) (ex_of y)) n (eq.act-Binary o p x y) (omega (arith, h, times-append q (ex_positions (ex_of x)) (ex_positions (ex_of y))))

  bare_weighs : (o : BareAction) (p : Pos) (n : ℕ) → here q p ≡ n → action_weight q (a.Bare o p) ≡ n
  bare_weighs o p n h = weigh_act q (a.Bare o p) (bare o p) n (eq.act-Bare o p) (omega (arith, h))

  call_weighs : (x : Name) (es : List Expr) (n : ℕ) → here q x.pos + exprs_weight q es ≡ n → action_weight q (a.Call x es) ≡ n
  call_weighs x es n h = weigh_act q (a.Call x es) (call x (exs_of es)) n (eq.act-Call x es) (omega (arith, h))

  scoped_weighs : (o : BlockAction) (p : Pos) (c : Block) (n : ℕ) → here q p + block_weight q c ≡ n → action_weight q (a.Scoped o p c) ≡ n
  scoped_weighs o p c n h = weigh_act q (a.Scoped o p c) (scoped o p (bl_of c)) n (eq.act-Scoped o p c) (omega (arith, h))

  masking_weighs : (o : MaskingAction) (p : Pos) (x : Name) (c : Block) (n : ℕ) → here q p + here q x.pos + block_weight q c ≡ n → action_weight q (a.Masking o p x c) ≡ n
  masking_weighs o p x c n h = weigh_act q (a.Masking o p x c) (masking o p x (bl_of c)) n (eq.act-Masking o p x c) (omega (arith, h))

  guard_weighs : (o : GuardAction) (p : Pos) (c d : Block) (n : ℕ) → here q p + block_weight q c + block_weight q d ≡ n → action_weight q (a.Guard o p c d) ≡ n
  guard_weighs o p c d n h = weigh_act q (a.Guard o p c d) (guard o p (bl_of c) (bl_of d)) n (eq.act-Guard o p c d) (omega (arith, h, times-append q (bl_positions (bl_of c)) (bl_positions (bl_of d))))

  if_weighs : (p : Pos) (x : Expr) (c d : Block) (n : ℕ) → expr_weight q x + block_weight q c + block_weight q d ≡ n → action_weight q (a.If p x c d) ≡ here q p + n
  if_weighs p x c d n h =
      weigh_act q (a.If p x c d) (choose_act p (ex_of x) (bl_of c) (bl_of d)) (here q p + n) (eq.act-If p x c d)
      (omega (arith, h, times-append q (ex_positions (ex_of x)) (bl_positions (bl_of c) ++ bl_positions (bl_of d)), times-append q (bl_positions (bl_of c)) (bl_positions (bl_of d))))

  case_weighs : (p : Pos) (x : Expr) (r : BlockArms) (n : ℕ) → expr_weight q x + block_arms_weight q r ≡ n → action_weight q (a.Case p x r) ≡ here q p + n
  case_weighs p x r n h = weigh_act q (a.Case p x r) (case_act p (ex_of x) (act_arms_of r)) (here q p + n) (eq.act-Case p x r) (omega (arith, h, times-append q (ex_positions (ex_of x)) (act_arm_positions (act_arms_of r))))

  modify_weighs : (p : Pos) (x : Expr) (y : Name) (c : Block) (n : ℕ) → here q p + expr_weight q x + here q y.pos + block_weight q c ≡ n → action_weight q (a.ModifyMVar p x y c) ≡ n
  modify_weighs p x y c n h = weigh_act q (a.ModifyMVar p x y c) (modify p (ex_of x) y (bl_of c)) n (eq.act-ModifyMVar p x y c) (omega (arith, h, times-append q (ex_positions (ex_of x)) (y.pos ∷ bl_positions (bl_of c))))

  catch_weighs : (p : Pos) (c : Block) (y : Name) (d : Block) (n : ℕ) → here q p + block_weight q c + here q y.pos + block_weight q d ≡ n → action_weight q (a.Catch p c y d) ≡ n
  catch_weighs p c y d n h = weigh_act q (a.Catch p c y d) (catch p (bl_of c) y (bl_of d)) n (eq.act-Catch p c y d) (omega (arith, h, times-append q (bl_positions (bl_of c)) (y.pos ∷ bl_positions (bl_of d))))

  bracket_weighs : (p : Pos) (c : Block) (y : Name) (d f : Block) (n : ℕ) → here q p + block_weight q c + here q y.pos + block_weight q d + block_weight q f ≡ n → action_weight q (a.Bracket p c y d f) ≡ n
  bracket_weighs p c y d f n h =
      weigh_act q (a.Bracket p c y d f) (bracket p (bl_of c) y (bl_of d) (bl_of f)) n (eq.act-Bracket p c y d f)
      (omega (arith, h, times-append q (bl_positions (bl_of c)) (y.pos ∷ (bl_positions (bl_of d) ++ bl_positions (bl_of f))), times-append q (bl_positions (bl_of d)) (bl_positions (bl_of f))))

  timeout_weighs : (p : Pos) (x : Expr) (c : Block) (n : ℕ) → here q p + expr_weight q x + block_weight q c ≡ n → action_weight q (a.Timeout p x c) ≡ n
  timeout_weighs p x c n h = weigh_act q (a.Timeout p x c) (timeout p (ex_of x) (bl_of c)) n (eq.act-Timeout p x c) (omega (arith, h, times-append q (ex_positions (ex_of x)) (bl_positions (bl_of c))))

  with_async_weighs : (p : Pos) (c : Block) (y : Name) (d : Block) (n : ℕ) → here q p + block_weight q c + here q y.pos + block_weight q d ≡ n → action_weight q (a.WithAsync p c y d) ≡ n
  with_async_weighs p c y d n h = weigh_act q (a.WithAsync p c y d) (with_async p (bl_of c) y (bl_of d)) n (eq.act-WithAsync p c y d) (omega (arith, h, times-append q (bl_positions (bl_of c)) (y.pos ∷ bl_positions (bl_of d))))

  -- ---- statements and blocks
  bind_weighs : (x : Name) (c : Action) (n : ℕ) → here q x.pos + action_weight q c ≡ n → Stated q (s.Bind x c) n
  bind_weighs x c n h = weigh_stmt q (s.Bind x c) (bind x (act_of c)) n (eq.stmt-Bind x c) (λ r. omega (arith, h, times-append q (act_positions (act_of c)) (bl_positions r)))

  let_weighs : (x : Name) (y : Expr) (n : ℕ) → here q x.pos + expr_weight q y ≡ n → Stated q (s.Let x y) n
  let_weighs x y n h = weigh_stmt q (s.Let x y) (let_in x (ex_of y)) n (eq.stmt-Let x y) (λ r. omega (arith, h, times-append q (ex_positions (ex_of y)) (bl_positions r)))

  do_weighs : (c : Action) (n : ℕ) → action_weight q c ≡ n → Stated q (s.Do c) n
  do_weighs c n h = weigh_stmt q (s.Do c) (then (act_of c)) n (eq.stmt-Do c) (λ r. omega (arith, h, times-append q (act_positions (act_of c)) (bl_positions r)))

  block_weighs : (ss : List Stmt) (c : Action) (m n : ℕ) → AllStated q ss m → action_weight q c ≡ n → block_weight q (record { stmts = ss; last = c }) ≡ m + n
  block_weighs ss c m n h w = omega (arith, ap (λ v. times q (bl_positions v)) (eq.bl_is (record { stmts = ss; last = c })), h (last (act_of c)), w)

  item_same : (i : Stmt ⊎ Action) (m n : ℕ) → m ≡ n → BlockItem q i m → BlockItem q i n
  item_same i m n e h = subst (BlockItem q i) e h

  -- ---- arms
  ex_maybe : (x : Expr) (y : Name) (z : Expr) (n : ℕ) → expr_weight q x + here q y.pos + expr_weight q z ≡ n → arms_weight q (expr_arm.OfMaybe x y z) ≡ n
  ex_maybe x y z n h = weigh_arms q (expr_arm.OfMaybe x y z) (maybe_arms (ex_of x) y (ex_of z)) n (arms-OfMaybe x y z) (omega (arith, h, times-append q (ex_positions (ex_of x)) (y.pos ∷ ex_positions (ex_of z))))

  ex_either : (y : Name) (x : Expr) (v : Name) (z : Expr) (n : ℕ) → here q y.pos + expr_weight q x + here q v.pos + expr_weight q z ≡ n → arms_weight q (expr_arm.OfEither y x v z) ≡ n
  ex_either y x v z n h =
      weigh_arms q (expr_arm.OfEither y x v z) (either_arms y (ex_of x) v (ex_of z)) n (arms-OfEither y x v z) (omega (arith, h, times-append q (y.pos ∷ ex_positions (ex_of x)) (v.pos ∷ ex_positions (ex_of z))))

  ex_list : (x : Expr) (y v : Name) (z : Expr) (n : ℕ) → expr_weight q x + here q y.pos + here q v.pos + expr_weight q z ≡ n → arms_weight q (expr_arm.OfList x y v z) ≡ n
  ex_list x y v z n h =
      weigh_arms q (expr_arm.OfList x y v z) (list_arms (ex_of x) y v (ex_of z)) n (arms-OfList x y v z) (omega (arith, h, times-append q (ex_positions (ex_of x)) (y.pos ∷ v.pos ∷ ex_positions (ex_of z))))

  ex_pair : (y v : Name) (x : Expr) (n : ℕ) → here q y.pos + here q v.pos + expr_weight q x ≡ n → arms_weight q (expr_arm.OfPair y v x) ≡ n
  ex_pair y v x n h = weigh_arms q (expr_arm.OfPair y v x) (pair_arms y v (ex_of x)) n (arms-OfPair y v x) (omega (arith, h))

  act_maybe : (x : Block) (y : Name) (z : Block) (n : ℕ) → block_weight q x + here q y.pos + block_weight q z ≡ n → block_arms_weight q (block_arm.OfMaybe x y z) ≡ n
  act_maybe x y z n h = weigh_act_arms q (block_arm.OfMaybe x y z) (maybe_acts (bl_of x) y (bl_of z)) n (eq.acts-OfMaybe x y z) (omega (arith, h, times-append q (bl_positions (bl_of x)) (y.pos ∷ bl_positions (bl_of z))))

  act_either : (y : Name) (x : Block) (v : Name) (z : Block) (n : ℕ) → here q y.pos + block_weight q x + here q v.pos + block_weight q z ≡ n → block_arms_weight q (block_arm.OfEither y x v z) ≡ n
  act_either y x v z n h =
      weigh_act_arms q (block_arm.OfEither y x v z) (either_acts y (bl_of x) v (bl_of z)) n (eq.acts-OfEither y x v z) (omega (arith, h, times-append q (y.pos ∷ bl_positions (bl_of x)) (v.pos ∷ bl_positions (bl_of z))))

  act_list : (x : Block) (y v : Name) (z : Block) (n : ℕ) → block_weight q x + here q y.pos + here q v.pos + block_weight q z ≡ n → block_arms_weight q (block_arm.OfList x y v z) ≡ n
  act_list x y v z n h =
      weigh_act_arms q (block_arm.OfList x y v z) (list_acts (bl_of x) y v (bl_of z)) n (eq.acts-OfList x y v z) (omega (arith, h, times-append q (bl_positions (bl_of x)) (y.pos ∷ v.pos ∷ bl_positions (bl_of z))))

  act_pair : (y v : Name) (x : Block) (n : ℕ) → here q y.pos + here q v.pos + block_weight q x ≡ n → block_arms_weight q (block_arm.OfPair y v x) ≡ n
  act_pair y v x n h = weigh_act_arms q (block_arm.OfPair y v x) (pair_acts y v (bl_of x)) n (eq.acts-OfPair y v x) (omega (arith, h))

  -- ---- scripts
  def_weighs : (d : Def) (ds : List Def) (m n : ℕ) → def_weight q d ≡ m → defs_weight q ds ≡ n → defs_weight q (d ∷ ds) ≡ m + n
  def_weighs d ds m n h w =
      let f = fn_of d in
      omega (arith, h, w, times-append q (f.name.pos ∷ (par_positions f.params ++ body_positions f.body)) (fn_positions (map_fn ds)), times-append q (par_positions f.params) (body_positions f.body))
    where
      map_fn : List Def → List Fn
      map_fn xs = map fn_of xs

-- ---- the rules
module _ (q : Pos) (inner : (B : Type 0) → OpenerPart B → Spelling B) (parts : (B : Type 0) (part : OpenerPart B) → Heavy q (part_weighing q part) (inner B part)) where
  abbrev Fit : {A : Type 0} → Rule A → Weighing A → Type 0
  Fit r W = Fits q inner r W

  abbrev FitsAction : Rule Action → Type 0
  FitsAction r = Fits q inner r (Weighs (action_weight q))

  -- ---- arms of a case, over what stands behind their arrows
  module _ {X R : Type 0} (w : X → ℕ) (v : R → ℕ) (x : Rule X) (hx : Fit x (Weighs w)) where
    fit_bare_arm : (l : TokenKind) → has_node l ≡ false → Fit (g.bare_arm l x) (Weighs w)
    unfolding g.bare_arm
    fit_bare_arm l aside = fit_part hx (fit_skip refl (fit_skip aside (fit_give (λ y n h. omega (arith, h)))))

    fit_named_arm : (l : TokenKind) → has_node l ≡ false → Fit (g.named_arm l x) (Weighs (λ y. here q y.0.pos + w y.1))
    unfolding g.named_arm
    fit_named_arm l aside = fit_part hx (fit_skip refl (fit_part (fit_name q inner) (fit_skip aside (fit_give (λ y m h z n i. omega (arith, h, i))))))

    fit_empty_arm : Fit (g.empty_arm x) (Weighs w)
    unfolding g.empty_arm
    fit_empty_arm = fit_part hx (fit_skip refl (fit_part (fit_inside {W = Free} refl (parts _ no_items) (λ p u n h. h)) (fit_give (λ u m h y n i. omega (arith, h, i)))))

    fit_cons_arm : Fit (g.cons_arm x) (Weighs (λ y. here q y.0.pos + here q y.1.pos + w y.2))
    unfolding g.cons_arm
    fit_cons_arm = fit_part hx (fit_skip refl (fit_part (fit_name q inner) (fit_skip refl (fit_part (fit_name q inner) (fit_give (λ y m h z n i u l j. omega (arith, h, i, j)))))))

    fit_maybe_arms : (f : X → Name → X → R) → ((c : X) (y : Name) (d : X) (n : ℕ) → w c + here q y.pos + w d ≡ n → v (f c y d) ≡ n) → Fit (g.maybe_arms f x) (Weighs v)
    unfolding g.maybe_arms
    fit_maybe_arms f i = fit_part (fit_named_arm k.Just refl) (fit_skip refl (fit_part (fit_bare_arm k.Nothing refl) (fit_give (λ c m h d n j. i c d.0 d.1 (0 + m + n) (omega (arith, h, j))))))

    fit_either_arms : (f : Name → X → Name → X → R) → ((y : Name) (c : X) (z : Name) (d : X) (n : ℕ) → here q y.pos + w c + here q z.pos + w d ≡ n → v (f y c z d) ≡ n) → Fit (g.either_arms f x) (Weighs v)
    unfolding g.either_arms
    fit_either_arms f i = fit_part (fit_named_arm k.Right refl) (fit_skip refl (fit_part (fit_named_arm k.Left refl) (fit_give (λ c m h d n j. i c.0 c.1 d.0 d.1 (0 + m + n) (omega (arith, h, j))))))

    fit_list_arms : (f : X → Name → Name → X → R) → ((c : X) (y z : Name) (d : X) (n : ℕ) → w c + here q y.pos + here q z.pos + w d ≡ n → v (f c y z d) ≡ n) → Fit (g.list_arms f x) (Weighs v)
    unfolding g.list_arms
    fit_list_arms f i = fit_part fit_cons_arm (fit_skip refl (fit_part fit_empty_arm (fit_give (λ c m h d n j. i c d.0 d.1 d.2 (0 + m + n) (omega (arith, h, j))))))

    fit_pair_arm : (f : Name → Name → X → R) → ((y z : Name) (d : X) (n : ℕ) → here q y.pos + here q z.pos + w d ≡ n → v (f y z d) ≡ n) → Fit (g.pair_arm f x) (Weighs v)
    unfolding g.pair_arm
    fit_pair_arm f i =
        fit_part hx
        (fit_skip refl (fit_part (fit_inside {W = Weighs (λ y. here q y.0.pos + here q y.1.pos)} refl (parts _ two_names) (λ p y n h. h)) (fit_give (λ y m h d n j. i y.0 y.1 d (0 + m + n) (omega (arith, h, j))))))

    fit_alts : (f0 : X → Name → X → R) (f1 : Name → X → Name → X → R) (f2 : X → Name → Name → X → R) (f3 : Name → Name → X → R)
        → Fit (g.maybe_arms f0 x) (Weighs v) → Fit (g.either_arms f1 x) (Weighs v) → Fit (g.list_arms f2 x) (Weighs v) → Fit (g.pair_arm f3 x) (Weighs v) → Fit (alts f0 f1 f2 f3 x) (Weighs v)
    fit_alts f0 f1 f2 f3 h0 h1 h2 h3 =
        fit_part (fit_alt {W = Free} (fit_map (fit_end q inner refl) (λ p n h. h)) (fit_give refl)) (fit_part (fit_alt h0 (fit_alt h1 (fit_alt h2 h3))) (fit_give (λ r m h u n t. omega (arith, h, t))))

  -- ---- actions
  fit_block : Fit g.block (Weighs (block_weight q))
  unfolding g.block
  fit_block = fit_inside refl (parts _ block_in_braces) (λ p c n h. h)

  fit_named_block : Fit g.named_block (Weighs (λ x. here q x.0.pos + block_weight q x.1))
  unfolding g.named_block
  fit_named_block = fit_part fit_block (fit_part (fit_name q inner) (fit_give (λ x m h c n i. omega (arith, h, i))))

  fit_two_blocks : Fit g.two_blocks (Weighs (λ x. block_weight q x.0 + block_weight q x.1))
  unfolding g.two_blocks
  fit_two_blocks = fit_part fit_block (fit_part fit_block (fit_give (λ c m h d n i. omega (arith, h, i))))

  fit_guarded_block : Fit g.guarded_block (Weighs (λ x. block_weight q x.0 + here q x.1.pos + block_weight q x.2))
  unfolding g.guarded_block
  fit_guarded_block = fit_part fit_named_block (fit_part fit_block (fit_give (λ c m h d n i. omega (arith, h, i))))

  -- the forms of one shape, whatever their word
  fit_bare_word : Fit g.bare_action_word (Weighs (λ w. here q w.1))
  unfolding g.bare_action_word
  fit_bare_word = search (fit_alt, fit_word) depth 12

  fit_bare_action : FitsAction g.bare_action
  unfolding g.bare_action
  fit_bare_action = fit_map fit_bare_word (λ w n h. bare_weighs q w.0 w.1 n h)

  fit_unary_word : Fit g.unary_action_word (Weighs (λ w. here q w.1))
  unfolding g.unary_action_word
  fit_unary_word = search (fit_alt, fit_word) depth 14

  fit_unary_action : FitsAction g.unary_action
  unfolding g.unary_action
  fit_unary_action = fit_part (fit_arg q inner parts) (fit_part fit_unary_word (fit_give (λ w m h x n i. unary_weighs q w.0 w.1 x (0 + m + n) (omega (arith, h, i)))))

  fit_binary_word : Fit g.binary_action_word (Weighs (λ w. here q w.1))
  unfolding g.binary_action_word
  fit_binary_word = search (fit_alt, fit_word) depth 12

  fit_binary_action : FitsAction g.binary_action
  unfolding g.binary_action
  fit_binary_action = fit_part (fit_two_args q inner parts) (fit_part fit_binary_word (fit_give (λ w m h x n i. binary_weighs q w.0 w.1 x.0 x.1 (0 + m + n) (omega (arith, h, i)))))

  fit_scoped_word : Fit g.scoped_action_word (Weighs (λ w. here q w.1))
  unfolding g.scoped_action_word
  fit_scoped_word = search (fit_alt, fit_word) depth 12

  fit_scoped_action : FitsAction g.scoped_action
  unfolding g.scoped_action
  fit_scoped_action = fit_part fit_block (fit_part fit_scoped_word (fit_give (λ w m h c n i. scoped_weighs q w.0 w.1 c (0 + m + n) (omega (arith, h, i)))))

  fit_masking_word : Fit g.masking_action_word (Weighs (λ w. here q w.1))
  unfolding g.masking_action_word
  fit_masking_word = search (fit_alt, fit_word) depth 12

  fit_masking_action : FitsAction g.masking_action
  unfolding g.masking_action
  fit_masking_action = fit_part fit_named_block (fit_part fit_masking_word (fit_give (λ w m h c n i. masking_weighs q w.0 w.1 c.0 c.1 (0 + m + n) (omega (arith, h, i)))))

  fit_guard_word : Fit g.guard_action_word (Weighs (λ w. here q w.1))
  unfolding g.guard_action_word
  fit_guard_word = search (fit_alt, fit_word) depth 12

  fit_guard_action : FitsAction g.guard_action
  unfolding g.guard_action
  fit_guard_action = fit_part fit_two_blocks (fit_part fit_guard_word (fit_give (λ w m h c n i. guard_weighs q w.0 w.1 c.0 c.1 (0 + m + n) (omega (arith, h, i)))))

  -- the forms that are a shape of their own
  fit_error_line : FitsAction g.error_line
  unfolding g.error_line
  fit_error_line = fit_part (fit_arg q inner parts) (fit_skip refl (fit_part (fit_at q inner) (fit_give (λ p m h y n i. unary_weighs q _ p y (0 + m + n) (omega (arith, h, i))))))

  fit_throw_form : FitsAction g.throw_form
  unfolding g.throw_form
  fit_throw_form =
      fit_part (fit_arg q inner parts)
      (fit_part (fit_atype q inner parts) (fit_skip refl (fit_part (fit_at q inner) (fit_give (λ p m h w n i y l j. weigh_act q (a.ThrowIo p w y) (throw_io p (wr_of w) (ex_of y)) (0 + m + n + l) (eq.act-ThrowIo p w y) (omega (arith, h, i, j)))))))

  fit_new_empty_form : FitsAction g.new_empty_form
  unfolding g.new_empty_form
  fit_new_empty_form = fit_part (fit_atype q inner parts) (fit_skip refl (fit_part (fit_at q inner) (fit_give (λ p m h w n i. weigh_act q (a.NewEmptyMVar p w) (new_empty p (wr_of w)) (0 + m + n) (eq.act-NewEmptyMVar p w) (omega (arith, h, i))))))

  fit_modify_form : FitsAction g.modify_form
  unfolding g.modify_form
  fit_modify_form = fit_part fit_named_block (fit_part (fit_arg q inner parts) (fit_part (fit_at q inner) (fit_give (λ p m h x n i c l j. modify_weighs q p x c.0 c.1 (0 + m + n + l) (omega (arith, h, i, j))))))

  fit_restore_form : FitsAction g.restore_form
  unfolding g.restore_form
  fit_restore_form = fit_part fit_named_block (fit_part (fit_at q inner) (fit_give (λ p m h c n i. weigh_act q (a.Restore p c.0 c.1) (restore p c.0 (bl_of c.1)) (0 + m + n) (eq.act-Restore p c.0 c.1) (omega (arith, h, i)))))

  fit_catch_form : FitsAction g.catch_form
  unfolding g.catch_form
  fit_catch_form = fit_part fit_guarded_block (fit_part (fit_at q inner) (fit_give (λ p m h c n i. catch_weighs q p c.0 c.1 c.2 (0 + m + n) (omega (arith, h, i)))))

  fit_bracket_form : FitsAction g.bracket_form
  unfolding g.bracket_form
  fit_bracket_form = fit_part fit_block (fit_part fit_guarded_block (fit_part (fit_at q inner) (fit_give (λ p m h c n i d l j. bracket_weighs q p c.0 c.1 c.2 d (0 + m + n + l) (omega (arith, h, i, j))))))

  fit_timeout_form : FitsAction g.timeout_form
  unfolding g.timeout_form
  fit_timeout_form = fit_part fit_block (fit_part (fit_arg q inner parts) (fit_part (fit_at q inner) (fit_give (λ p m h x n i c l j. timeout_weighs q p x c (0 + m + n + l) (omega (arith, h, i, j))))))

  fit_with_async_form : FitsAction g.with_async_form
  unfolding g.with_async_form
  fit_with_async_form = fit_part fit_guarded_block (fit_part (fit_at q inner) (fit_give (λ p m h c n i. with_async_weighs q p c.0 c.1 c.2 (0 + m + n) (omega (arith, h, i)))))

  fit_plain_action : FitsAction g.plain_action
  unfolding g.plain_action
  fit_plain_action = fit_alt fit_bare_action (fit_alt fit_unary_action (fit_alt fit_binary_action (fit_alt fit_error_line (fit_alt fit_throw_form fit_new_empty_form))))

  fit_word_action : FitsAction g.word_action
  unfolding g.word_action
  fit_word_action =
      fit_alt fit_scoped_action
      (fit_alt fit_masking_action
      (fit_alt fit_guard_action
      (fit_alt fit_modify_form
      (fit_alt fit_restore_form
      (fit_alt fit_catch_form
      (fit_alt fit_bracket_form
      (fit_alt fit_timeout_form
      (fit_alt fit_with_async_form
      fit_plain_action))))))))

  fit_other_action : FitsAction g.other_action
  unfolding g.other_action
  fit_other_action =
      fit_alt (fit_within (parts _ block_if) (λ p x n h. if_weighs q p x.0 x.1 x.2 n h))
      (fit_alt (fit_within (parts _ block_case) (λ p x n h. case_weighs q p x.0 x.1 n h))
      fit_word_action)

  fit_args : Fit (many g.arg) (Weighs (exprs_weight q))
  fit_args = fit_exprs q inner (fit_arg q inner parts)

  fit_action : FitsAction g.action
  unfolding g.action
  fit_action = fit_alt (fit_part fit_args (fit_part (fit_name q inner) (fit_give (λ x m h es n i. call_weighs q x es (0 + m + n) (omega (arith, h, i)))))) fit_other_action

  -- ---- statements
  fit_after_name : Fit g.after_name (λ f n. (x : Name) → BlockItem q (f x) (here q x.pos + n))
  unfolding g.after_name
  fit_after_name =
      fit_alt (fit_part fit_action (fit_skip refl (fit_give (λ c n h x. bind_weighs q x c (here q x.pos + (0 + n)) (omega (arith, h))))))
      (fit_part fit_args (fit_give (λ es n h x. call_weighs q x es (here q x.pos + (0 + n)) (omega (arith, h)))))

  fit_block_item : Fit g.block_item (BlockItem q)
  unfolding g.block_item
  fit_block_item =
      fit_alt (fit_part fit_after_name (fit_part (fit_name q inner) (fit_give (λ x m h f n i. item_same q (f x) (here q x.pos + n) (0 + m + n) (omega (arith, h)) (i x)))))
      (fit_alt (fit_inside refl (parts _ let_stmt) (λ p x n h. let_weighs q x.0 x.1 n h))
      (fit_map fit_other_action (λ c n h. h)))

  fit_block_in_braces : Fit (rule_of block_in_braces) (Weighs (block_weight q))
  unfolding rule_of
  fit_block_in_braces = fit_ended {Vs = AllStated q} refl refl fit_block_item (do_weighs q) (λ c. omega arith) (λ x xs m n v w c. omega (arith, v (before (map stmt_of xs) c), w c)) (block_weighs q)

  -- ---- definitions
  fit_param : Fit g.param (Weighs (param_weight q))
  unfolding g.param
  fit_param = fit_inside refl (parts _ param_in_parens) (λ p x n h. h)

  fit_def_body : Fit g.def_body (Weighs (body_weight q))
  unfolding g.def_body
  fit_def_body =
      fit_alt (fit_part fit_block (fit_skip refl (fit_part (fit_atype q inner parts) (fit_skip refl (fit_give (λ w m h c n i. omega (arith, h, i)))))))
      (fit_part (fit_expr q inner parts) (fit_skip refl (fit_part (fit_type q inner parts) (fit_give (λ w m h x n i. omega (arith, h, i))))))

  fit_def : Fit g.def (Weighs (def_weight q))
  unfolding g.def
  fit_def =
      fit_skip refl
      (fit_part fit_def_body
      (fit_skip refl (fit_part (fit_many {W = Weighs (params_weight q)} fit_param refl (λ p ps m n v w. omega (arith, v, w))) (fit_part (fit_name q inner) (fit_give (λ x m h ps n i c l j. omega (arith, h, i, j)))))))

  fit_script : Fit g.script (Weighs (λ x. times q (positions_of x)))
  unfolding g.script
  fit_script = fit_map (fit_many {W = Weighs (defs_weight q)} fit_def refl (def_weighs q)) (λ ds n h. h)

  -- ---- what stands in each opener
  fit_rule_of : {B : Type 0} (part : OpenerPart B) → Fit (rule_of part) (part_weighing q part)
  unfolding rule_of
  fit_rule_of type_in_parens = fit_alt (fit_map (fit_end q inner refl) (λ p n h. h)) (fit_part (fit_type_end q inner parts) (fit_part (part_type q inner parts) (fit_give (λ t m h f n i. omega (arith, h, i)))))
  fit_rule_of type_in_brackets = fit_skip refl (fit_part (part_type q inner parts) (fit_give (λ t n h. omega (arith, h))))
  fit_rule_of param_in_parens = fit_skip refl (fit_part (fit_type q inner parts) (fit_skip refl (fit_part (fit_name q inner) (fit_give (λ x m h t n i. omega (arith, h, i))))))
  fit_rule_of block_in_braces = fit_block_in_braces
  fit_rule_of block_if = fit_part fit_block (fit_skip refl (fit_part fit_block (fit_skip refl (fit_part (fit_expr q inner parts) (fit_give (λ c m h x n i y l j. omega (arith, h, i, j)))))))
  fit_rule_of block_case =
      fit_part (fit_inside {W = Weighs (block_arms_weight q)} refl (parts _ block_arms) (λ p r n h. h)) (fit_skip refl (fit_part (fit_expr q inner parts) (fit_give (λ x m h r n i. omega (arith, h, i)))))
  fit_rule_of block_arms =
      fit_skip refl
      (fit_alts (block_weight q) (block_arms_weight q) g.block fit_block block_arm.OfMaybe block_arm.OfEither block_arm.OfList block_arm.OfPair
      (fit_maybe_arms (block_weight q) (block_arms_weight q) g.block fit_block block_arm.OfMaybe (act_maybe q))
      (fit_either_arms (block_weight q) (block_arms_weight q) g.block fit_block block_arm.OfEither (act_either q))
      (fit_list_arms (block_weight q) (block_arms_weight q) g.block fit_block block_arm.OfList (act_list q))
      (fit_pair_arm (block_weight q) (block_arms_weight q) g.block fit_block block_arm.OfPair (act_pair q)))
  fit_rule_of let_stmt = fit_part (fit_expr q inner parts) (fit_skip refl (fit_part (fit_name q inner) (fit_give (λ x m h y n i. omega (arith, h, i)))))
  fit_rule_of no_items = fit_map (fit_end q inner refl) (λ p n h. h)
  fit_rule_of two_names = fit_skip refl (fit_part (fit_name q inner) (fit_skip refl (fit_part (fit_name q inner) (fit_give (λ x m h y n i. omega (arith, h, i))))))
  fit_rule_of expr_if = fit_part (fit_expr q inner parts) (fit_skip refl (fit_part (fit_expr q inner parts) (fit_skip refl (fit_part (fit_expr q inner parts) (fit_give (λ c m h x n i y l j. omega (arith, h, i, j)))))))
  fit_rule_of expr_case =
      fit_part (fit_inside {W = Weighs (arms_weight q)} refl (parts _ expr_arms) (λ p r n h. h)) (fit_skip refl (fit_part (fit_expr q inner parts) (fit_give (λ x m h r n i. omega (arith, h, i)))))
  fit_rule_of expr_arms =
      fit_skip refl
      (fit_alts (expr_weight q) (arms_weight q) g.expr (fit_expr q inner parts) expr_arm.OfMaybe expr_arm.OfEither expr_arm.OfList expr_arm.OfPair
      (fit_maybe_arms (expr_weight q) (arms_weight q) g.expr (fit_expr q inner parts) expr_arm.OfMaybe (ex_maybe q))
      (fit_either_arms (expr_weight q) (arms_weight q) g.expr (fit_expr q inner parts) expr_arm.OfEither (ex_either q))
      (fit_list_arms (expr_weight q) (arms_weight q) g.expr (fit_expr q inner parts) expr_arm.OfList (ex_list q))
      (fit_pair_arm (expr_weight q) (arms_weight q) g.expr (fit_expr q inner parts) expr_arm.OfPair (ex_pair q)))
  fit_rule_of expr_let = fit_part (fit_expr q inner parts) (fit_skip refl (fit_part (fit_expr q inner parts) (fit_skip refl (fit_part (fit_name q inner) (fit_give (λ x m h y n i z l j. omega (arith, h, i, j)))))))
  fit_rule_of expr_in_parens =
      fit_alt (fit_map (fit_end q inner refl) (λ c n h p. let w = unit_weighs q p (here q p) refl in (omega (arith, h), omega (arith, w))))
      (fit_part (fit_expr_end q inner parts) (fit_part (fit_expr q inner parts) (fit_give (λ x m h f n i p. let w = i x m p h in (omega (arith, w.0), omega (arith, w.1))))))
  fit_rule_of items_in_brackets = fit_items q inner parts
  fit_rule_of items_or_none = fit_alt (fit_map (fit_end q inner refl) (λ p n h. h)) (fit_map (fit_items q inner parts) (λ xs n h. h))

-- what stands in an opener, however deep it nests
parts_heavy : (q : Pos) (n j : ℕ) (B : Type 0) (part : OpenerPart B) → Heavy q (part_weighing q part) (SpelledIn n j B part)
parts_heavy q zero j B part x from to h = absurd h
parts_heavy q (suc n) j B part x from to h = (fit_rule_of q (SpelledIn n (suc j)) (parts_heavy q n (suc j)) part).holds (suc j) x from to h

-- a script has no position more often than the tokens that spell it, and no less often than those that are always a node's
pub script_weighs : (q : Pos) (n : ℕ) (x : Script) (items : List Item) → SpelledBy n x items → (times q (positions_of x) ≤ seen q items) × (made q items ≤ times q (positions_of x))
script_weighs q n x items h = let w = (fit_script q (SpelledIn n 0) (parts_heavy q n 0)).holds 0 x items [] h in (omega (arith, w.1, w.2), omega (arith, w.1, w.3))
