-- The rules of types and expressions, weighed by their tokens.
use Rattle.std.proofs.Common.{◌≡◌, ℕ, ◌+◌, ◌≤◌, false, List, [], ◌∷◌, ◌++◌, Option, Some, None, refl, arith, ◌⊎◌, inl, inr}
use Rattle.hs_base.specs.declared.pos.Pos.{Pos}
use Rattle.hs_base.specs.declared.tree.expr.CompareOp.{CompareOp}
use Rattle.hs_base.specs.declared.tree.expr.Expr.{Expr}
use Rattle.hs_base.specs.declared.tree.expr.Expr.TheVariants as e
use Rattle.hs_base.specs.declared.tree.expr.ExprArms.{ExprArms}
use Rattle.hs_base.specs.declared.tree.expr.Link.{Link}
use Rattle.hs_base.specs.declared.tree.expr.ListLink.{ListLink}
use Rattle.hs_base.specs.declared.tree.expr.Name.{Name}
use Rattle.hs_base.specs.declared.tree.expr.SumLink.{SumLink}
use Rattle.hs_base.specs.declared.tree.ty.Ty.{Ty}
use Rattle.hs_base.specs.declared.tree.ty.Written.{Written}
use Rattle.hs_base.specs.declared.tree.forms.UnaryForm.{UnaryForm}
use Rattle.hs_base.specs.declared.tree.forms.BinaryForm.{BinaryForm}
use Rattle.hs_base.specs.declared.tree.forms.BinaryForm.TheVariants as b
use Rattle.hs_base.specs.declared.tree.forms.SideForm.{SideForm}
use Rattle.hs_base.specs.declared.tree.forms.EmptyForm.{EmptyForm}
use Rattle.rules_expansion.specs.trees.Trees.{lit, Lit, number, letters, nothing_more, constant_of, name, unary, binary, chain, conses, choose, items, empty, side, given, case, compare_form, wr_of, ex_of, arms_of, exs_of, links_of, list_links_of, sum_links_of}
use Rattle.rules_expansion.proofs.trees_lemmas.Equations.{ex-If, ex-Case, ex-Let, ex-Or, ex-And, ex-Product, ex-Sum, ex-Cons, ex-Compare, ex-Call, ex-Unary, ex-Empty, ex-Side, ex-Div, ex-Mod, ex-Pair, ex-Int, ex-Text, ex-Constant, ex-Unit, ex-List}
use Rattle.rules_grammar.specs.Grammar as g
use Rattle.rules_grammar.specs.Grammar.{number_of, text_of, type_word, many, or_tree, and_tree, cons_tree, sum_tree, product_tree, compare_tree, link}
use Rattle.rules_grammar.specs.GrammarForms.{Rule, at, Spelling}
use Rattle.rules_grammar.specs.GrammarParts.{TokenKind, OpenerPart, type_in_parens, type_in_brackets, expr_if, expr_case, expr_let, expr_in_parens, items_in_brackets, items_or_none}
use Rattle.front_laws.specs.typing.Positions.{has_node, ex_positions, exs_positions, link_positions, arm_positions}
use Rattle.front_laws.proofs.typing_lemmas.Counts.{here, times-append}
use Rattle.front_laws.proofs.typing_lemmas.Fits.{Weighing, Weighs, Free, Sum, Heavy, Fits, fit_give, fit_one, fit_word, fit_part, fit_skip, fit_alt, fit_map, fit_go_on, fit_many, fit_within, fit_aside, fit_inside, fit_either}
use Rattle.front_laws.proofs.typing_lemmas.Weights.{name_weight, written_weight, expr_weight, exprs_weight, arms_weight, links_weight, list_links_weight, sum_links_weight, compared_weight, weigh_ex, links_are, list_links_are, sum_links_are, part_weighing}

-- ---- what the constructors weigh
module _ (q : Pos) where
  unary_weighs : (o : UnaryForm) (p : Pos) (x : Expr) (n : ℕ) → here q p + expr_weight q x ≡ n → expr_weight q (e.Unary o p x) ≡ n
  unary_weighs o p x n h = weigh_ex q (e.Unary o p x) (unary o p (ex_of x)) n (ex-Unary o p x) (omega (arith, h))

  empty_weighs : (o : EmptyForm) (p : Pos) (w : Written) (n : ℕ) → here q p + here q w.pos ≡ n → expr_weight q (e.Empty o p w) ≡ n
  empty_weighs o p w n h = weigh_ex q (e.Empty o p w) (empty o p (wr_of w)) n (ex-Empty o p w) (omega (arith, h))

  binary_weighs : (f : Pos → Expr → Expr → Expr) (o : BinaryForm) → ((p : Pos) (x y : Expr) → ex_of (f p x y) ≡ binary o p (ex_of x) (ex_of y))
      → (p : Pos) (x y : Expr) (n : ℕ) → here q p + expr_weight q x + expr_weight q y ≡ n → expr_weight q (f p x y) ≡ n
  binary_weighs f o i p x y n h = weigh_ex q (f p x y) (binary o p (ex_of x) (ex_of y)) n (i p x y) (omega (arith, h, times-append q (ex_positions (ex_of x)) (ex_positions (ex_of y))))

  lit_weighs : (x : Expr) (p : Pos) (l : Lit) (n : ℕ) → ex_of x ≡ lit p l → here q p ≡ n → expr_weight q x ≡ n
  lit_weighs x p l n i h = weigh_ex q x (lit p l) n i (omega (arith, h))

  pub unit_weighs : (p : Pos) (n : ℕ) → here q p ≡ n → expr_weight q (e.Unit p) ≡ n
  unit_weighs p n h = lit_weighs (e.Unit p) p nothing_more n (ex-Unit p) h

  pub call_weighs : (x : Name) (es : List Expr) (n : ℕ) → here q x.pos + exprs_weight q es ≡ n → expr_weight q (e.Call x es) ≡ n
  call_weighs x es n h = weigh_ex q (e.Call x es) (name x (exs_of es)) n (ex-Call x es) (omega (arith, h))

  list_weighs : (p : Pos) (es : List Expr) (n : ℕ) → here q p + exprs_weight q es ≡ n → expr_weight q (e.List p es) ≡ n
  list_weighs p es n h = weigh_ex q (e.List p es) (items p (exs_of es)) n (ex-List p es) (omega (arith, h))

  side_weighs : (o : SideForm) (p : Pos) (w v : Written) (x : Expr) (n : ℕ) → (here q p + here q w.pos + here q v.pos) + expr_weight q x ≡ n → expr_weight q (e.Side o p w v x) ≡ n
  side_weighs o p w v x n h = weigh_ex q (e.Side o p w v x) (side o p (wr_of w) (wr_of v) (ex_of x)) n (ex-Side o p w v x) (omega (arith, h))

  if_weighs : (p : Pos) (x y z : Expr) (n : ℕ) → expr_weight q x + expr_weight q y + expr_weight q z ≡ n → expr_weight q (e.If p x y z) ≡ here q p + n
  if_weighs p x y z n h =
      weigh_ex q (e.If p x y z) (choose p (ex_of x) (ex_of y) (ex_of z)) (here q p + n) (ex-If p x y z)
      (omega (arith, h, times-append q (ex_positions (ex_of x)) (ex_positions (ex_of y) ++ ex_positions (ex_of z)), times-append q (ex_positions (ex_of y)) (ex_positions (ex_of z))))

  case_weighs : (p : Pos) (x : Expr) (r : ExprArms) (n : ℕ) → expr_weight q x + arms_weight q r ≡ n → expr_weight q (e.Case p x r) ≡ here q p + n
  case_weighs p x r n h = weigh_ex q (e.Case p x r) (case p (ex_of x) (arms_of r)) (here q p + n) (ex-Case p x r) (omega (arith, h, times-append q (ex_positions (ex_of x)) (arm_positions (arms_of r))))

  let_weighs : (p : Pos) (y : Name) (x z : Expr) (n : ℕ) → name_weight q y + expr_weight q x + expr_weight q z ≡ n → expr_weight q (e.Let p y x z) ≡ n
  let_weighs p y x z n h = weigh_ex q (e.Let p y x z) (given y (ex_of x) (ex_of z)) n (ex-Let p y x z) (omega (arith, h, times-append q (ex_positions (ex_of x)) (ex_positions (ex_of z))))

  -- chains
  product_weighs : (x : Expr) (ks : List Link) (n : ℕ) → expr_weight q x + links_weight q ks ≡ n → expr_weight q (product_tree x ks) ≡ n
  product_weighs x [] n h = omega (arith, h)
  product_weighs x (l ∷ ls) n h =
      weigh_ex q (e.Product x (l ∷ ls)) (chain (ex_of x) (links_of b.Times (l ∷ ls))) n (ex-Product x (l ∷ ls)) (omega (arith, h, times-append q (ex_positions (ex_of x)) (link_positions (links_of b.Times (l ∷ ls))), links_are q b.Times (l ∷ ls)))

  and_weighs : (x : Expr) (ks : List Link) (n : ℕ) → expr_weight q x + links_weight q ks ≡ n → expr_weight q (and_tree x ks) ≡ n
  and_weighs x [] n h = omega (arith, h)
  and_weighs x (l ∷ ls) n h =
      weigh_ex q (e.And x (l ∷ ls)) (chain (ex_of x) (links_of b.And (l ∷ ls))) n (ex-And x (l ∷ ls)) (omega (arith, h, times-append q (ex_positions (ex_of x)) (link_positions (links_of b.And (l ∷ ls))), links_are q b.And (l ∷ ls)))

  or_weighs : (x : Expr) (ks : List Link) (n : ℕ) → expr_weight q x + links_weight q ks ≡ n → expr_weight q (or_tree x ks) ≡ n
  or_weighs x [] n h = omega (arith, h)
  or_weighs x (l ∷ ls) n h =
      weigh_ex q (e.Or x (l ∷ ls)) (chain (ex_of x) (links_of b.Or (l ∷ ls))) n (ex-Or x (l ∷ ls)) (omega (arith, h, times-append q (ex_positions (ex_of x)) (link_positions (links_of b.Or (l ∷ ls))), links_are q b.Or (l ∷ ls)))

  sum_weighs : (x : Expr) (ks : List SumLink) (n : ℕ) → expr_weight q x + sum_links_weight q ks ≡ n → expr_weight q (sum_tree x ks) ≡ n
  sum_weighs x [] n h = omega (arith, h)
  sum_weighs x (l ∷ ls) n h =
      weigh_ex q (e.Sum x (l ∷ ls)) (chain (ex_of x) (sum_links_of (l ∷ ls))) n (ex-Sum x (l ∷ ls)) (omega (arith, h, times-append q (ex_positions (ex_of x)) (link_positions (sum_links_of (l ∷ ls))), sum_links_are q (l ∷ ls)))

  cons_weighs : (x : Expr) (ks : List ListLink) (n : ℕ) → expr_weight q x + list_links_weight q ks ≡ n → expr_weight q (cons_tree x ks) ≡ n
  cons_weighs x [] n h = omega (arith, h)
  cons_weighs x (l ∷ ls) n h =
      weigh_ex q (e.Cons x (l ∷ ls)) (conses (ex_of x) (list_links_of (l ∷ ls))) n (ex-Cons x (l ∷ ls)) (omega (arith, h, times-append q (ex_positions (ex_of x)) (link_positions (list_links_of (l ∷ ls))), list_links_are q (l ∷ ls)))

  compare_weighs : (x : Expr) (c : Option (CompareOp × Pos × Expr)) (n : ℕ) → expr_weight q x + compared_weight q c ≡ n → expr_weight q (compare_tree x c) ≡ n
  compare_weighs x None n h = omega (arith, h)
  compare_weighs x (Some c) n h =
      weigh_ex q (e.Compare x c.0 c.1 c.2) (binary (compare_form c.0) c.1 (ex_of x) (ex_of c.2)) n (ex-Compare x c.0 c.1 c.2) (omega (arith, h, times-append q (ex_positions (ex_of x)) (ex_positions (ex_of c.2))))

  -- a list, or brackets that wait for a type
  list_or_empty_weighs : (p : Pos) (xs : Unit {0} ⊎ List Expr) (n : ℕ) → Sum Free (Weighs (exprs_weight q)) xs n → Sum (Weighs (here q)) (Weighs (expr_weight q)) (elim xs [ inl u ↦ inl p | inr as' ↦ inr (e.List p as') ]) (here q p + n)
  list_or_empty_weighs p (inl u) n h = omega (arith, h)
  list_or_empty_weighs p (inr es) n h = list_weighs p es (here q p + n) (omega (arith, h))

-- ---- the rules
module _ (q : Pos) (inner : (B : Type 0) → OpenerPart B → Spelling B) where
  abbrev Fit : {A : Type 0} → Rule A → Weighing A → Type 0
  Fit r W = Fits q inner r W

  abbrev FitsExpr : Rule Expr → Type 0
  FitsExpr r = Fits q inner r (Weighs (expr_weight q))

  pub fit_at : {w : TokenKind} → Fit (at w) (Weighs (here q))
  fit_at = fit_one (λ t. refl)

  pub fit_end : {w : TokenKind} → has_node w ≡ false → Fit (at w) Free
  fit_end aside = fit_aside aside

  pub fit_name : Fit g.name (Weighs (name_weight q))
  fit_name = fit_one (λ t. refl)

  pub fit_exprs : {p : Rule Expr} → FitsExpr p → Fit (many p) (Weighs (exprs_weight q))
  fit_exprs h = fit_many h refl (λ x xs m n v w. omega (arith, v, w, times-append q (ex_positions (ex_of x)) (exs_positions (exs_of xs))))

  module _ (parts : (B : Type 0) (part : OpenerPart B) → Heavy q (part_weighing q part) (inner B part)) where
    -- ---- types: the first token counts, or none where the type is a part of another
    fit_type_word : {w : TokenKind} {t : Ty} → Fit (type_word w t) (Weighs (written_weight q))
    fit_type_word = fit_map fit_at (λ p n h. h)

    part_word : {w : TokenKind} {t : Ty} → has_node w ≡ false → Fit (type_word w t) Free
    part_word aside = fit_map (fit_end aside) (λ p n h. h)

    pub fit_atype : Fit g.atype (Weighs (written_weight q))
    unfolding g.atype
    fit_atype =
        fit_alt fit_type_word
        (fit_alt fit_type_word
        (fit_alt fit_type_word
        (fit_alt fit_type_word
        (fit_alt fit_type_word
        (fit_alt (fit_within (parts _ type_in_parens) (λ p t n h. omega (arith, h)))
        (fit_within (parts _ type_in_brackets) (λ p t n h. omega (arith, h))))))))

    part_atype : Fit g.atype Free
    unfolding g.atype
    part_atype =
        fit_alt (part_word refl)
        (fit_alt (part_word refl)
        (fit_alt (part_word refl)
        (fit_alt (part_word refl)
        (fit_alt (part_word refl)
        (fit_alt (fit_inside refl (parts _ type_in_parens) (λ p t n h. h))
        (fit_inside refl (parts _ type_in_brackets) (λ p t n h. h)))))))

    pub fit_type : Fit g.type (Weighs (written_weight q))
    unfolding g.type
    fit_type =
        fit_alt (fit_part part_atype (fit_part fit_at (fit_give (λ p m h t n w. omega (arith, h, w)))))
        (fit_alt (fit_part part_atype (fit_part part_atype (fit_part fit_at (fit_give (λ p m h s n v t l w. omega (arith, h, v, w))))))
        (fit_alt (fit_part part_atype (fit_part fit_at (fit_give (λ p m h t n w. omega (arith, h, w)))))
        (fit_alt (fit_part part_atype (fit_part fit_at (fit_give (λ p m h t n w. omega (arith, h, w)))))
        fit_atype)))

    pub part_type : Fit g.type Free
    unfolding g.type
    part_type =
        fit_alt (fit_part part_atype (fit_part (fit_end refl) (fit_give (λ p m h t n w. omega (arith, h, w)))))
        (fit_alt (fit_part part_atype (fit_part part_atype (fit_part (fit_end refl) (fit_give (λ p m h s n v t l w. omega (arith, h, v, w))))))
        (fit_alt (fit_part part_atype (fit_part (fit_end refl) (fit_give (λ p m h t n w. omega (arith, h, w)))))
        (fit_alt (fit_part part_atype (fit_part (fit_end refl) (fit_give (λ p m h t n w. omega (arith, h, w)))))
        part_atype)))

    pub fit_type_end : Fit g.type_end Free
    unfolding g.type_end
    fit_type_end = fit_alt (fit_map (fit_end refl) (λ p n h. h)) (fit_skip refl (fit_part part_type (fit_skip refl (fit_give (λ t n w. omega (arith, w))))))

    -- ---- atoms and arguments
    fit_constant_word : Fit g.constant_word (Weighs (λ w. here q w.1))
    unfolding g.constant_word
    fit_constant_word = search (fit_alt, fit_word) depth 12

    pub fit_plain_atom : FitsExpr g.plain_atom
    unfolding g.plain_atom
    fit_plain_atom =
        fit_alt (fit_one (λ t. lit_weighs q (e.Int t.pos (number_of t.tok)) t.pos (number (number_of t.tok)) (here q t.pos) (ex-Int t.pos (number_of t.tok)) refl))
        (fit_alt (fit_one (λ t. lit_weighs q (e.Text t.pos (text_of t.tok)) t.pos (letters (text_of t.tok)) (here q t.pos) (ex-Text t.pos (text_of t.tok)) refl))
        (fit_alt (fit_map fit_constant_word (λ w n h. lit_weighs q (e.Constant w.1 w.0) w.1 (constant_of w.0) n (ex-Constant w.1 w.0) h))
        (fit_either refl (parts _ expr_in_parens) (λ p f n h. (expr_weight q (f p), refl, (h p).0, (h p).1)))))

    fit_atom : FitsExpr g.atom
    unfolding g.atom
    fit_atom = fit_alt (fit_within (parts _ items_in_brackets) (λ p xs n h. list_weighs q p xs (here q p + n) (omega (arith, h)))) fit_plain_atom

    pub fit_arg : FitsExpr g.arg
    unfolding g.arg
    fit_arg = fit_alt (fit_map fit_name (λ x n h. call_weighs q x [] n (omega (arith, h)))) fit_atom

    pub fit_two_args : Fit g.two_args (Weighs (λ x. expr_weight q x.0 + expr_weight q x.1))
    unfolding g.two_args
    fit_two_args = fit_part fit_arg (fit_part fit_arg (fit_give (λ x m h y n v. omega (arith, h, v))))

    -- ---- applications
    fit_list_or_empty : Fit g.list_or_empty (Sum (Weighs (here q)) (Weighs (expr_weight q)))
    unfolding g.list_or_empty
    fit_list_or_empty = fit_within (parts _ items_or_none) (λ p xs n h. list_or_empty_weighs q p xs n h)

    fit_call : FitsExpr g.call
    unfolding g.call
    fit_call = fit_part (fit_exprs fit_arg) (fit_part fit_name (fit_give (λ x m h es n v. call_weighs q x es (0 + m + n) (omega (arith, h, v)))))

    fit_unary_word : Fit g.unary_word (Weighs (λ w. here q w.1))
    unfolding g.unary_word
    fit_unary_word = search (fit_alt, fit_word) depth 12

    fit_unary_expr : FitsExpr g.unary_expr
    unfolding g.unary_expr
    fit_unary_expr = fit_part fit_arg (fit_part fit_unary_word (fit_give (λ w m h x n v. unary_weighs q w.0 w.1 x (0 + m + n) (omega (arith, h, v)))))

    fit_side_word : Fit g.side_word (Weighs (λ w. here q w.1))
    unfolding g.side_word
    fit_side_word = search (fit_alt, fit_word) depth 12

    fit_side_types : Fit g.side_types (Weighs (λ s. here q s.1 + here q s.2.pos + here q s.3.pos))
    unfolding g.side_types
    fit_side_types = fit_part fit_atype (fit_skip refl (fit_part fit_atype (fit_skip refl (fit_part fit_side_word (fit_give (λ p m h s n v t l w. omega (arith, h, v, w)))))))

    fit_side_expr : FitsExpr g.side_expr
    unfolding g.side_expr
    fit_side_expr = fit_part fit_arg (fit_part fit_side_types (fit_give (λ s m h x n v. side_weighs q s.0 s.1 s.2 s.3 x (0 + m + n) (omega (arith, h, v)))))

    fit_nothing_form : FitsExpr g.nothing_form
    unfolding g.nothing_form
    fit_nothing_form = fit_part fit_atype (fit_skip refl (fit_part fit_at (fit_give (λ p m h w n v. empty_weighs q _ p w (0 + m + n) (omega (arith, h, v))))))

    fit_div_form : FitsExpr g.div_form
    unfolding g.div_form
    fit_div_form = fit_part fit_two_args (fit_part fit_at (fit_give (λ p m h x n v. binary_weighs q e.Div b.Div ex-Div p x.0 x.1 (0 + m + n) (omega (arith, h, v)))))

    fit_mod_form : FitsExpr g.mod_form
    unfolding g.mod_form
    fit_mod_form = fit_part fit_two_args (fit_part fit_at (fit_give (λ p m h x n v. binary_weighs q e.Mod b.Mod ex-Mod p x.0 x.1 (0 + m + n) (omega (arith, h, v)))))

    fit_list_form : FitsExpr g.list_form
    unfolding g.list_form
    fit_list_form =
        fit_go_on {U = Weighs (written_weight q)} fit_list_or_empty (fit_part fit_atype (fit_skip refl (fit_give (λ t n v. omega (arith, v)))))
        (λ p w m n h v. empty_weighs q _ p w (m + n) (omega (arith, h, v)))

    fit_app : FitsExpr g.app
    unfolding g.app
    fit_app = fit_alt fit_call (fit_alt fit_unary_expr (fit_alt fit_side_expr (fit_alt fit_list_form (fit_alt fit_nothing_form (fit_alt fit_div_form (fit_alt fit_mod_form fit_plain_atom))))))

    -- ---- chains
    fit_link : {w : TokenKind} {p : Rule Expr} → FitsExpr p
        → Fit (link w p) (Weighs (λ l. here q l.pos + expr_weight q l.operand))
    fit_link h = fit_part h (fit_part fit_at (fit_give (λ p m i x n v. omega (arith, i, v))))

    fit_links : {p : Rule Link} → Fit p (Weighs (λ l. here q l.pos + expr_weight q l.operand)) → Fit (many p) (Weighs (links_weight q))
    fit_links h = fit_many h refl (λ l ls m n v w. omega (arith, v, w))

    fit_product_link : Fit g.product_link (Weighs (λ l. here q l.pos + expr_weight q l.operand))
    unfolding g.product_link
    fit_product_link = fit_link fit_app

    fit_product : FitsExpr g.product
    unfolding g.product
    fit_product = fit_part (fit_links fit_product_link) (fit_part fit_app (fit_give (λ x m h ls n v. product_weighs q x ls (0 + m + n) (omega (arith, h, v)))))

    fit_first_term : FitsExpr g.first_term
    unfolding g.first_term
    fit_first_term = fit_alt (fit_part fit_product (fit_part fit_at (fit_give (λ p m h x n v. unary_weighs q _ p x (0 + m + n) (omega (arith, h, v)))))) fit_product

    fit_sum_operator : Fit g.sum_operator (Weighs (λ o. here q o.1))
    unfolding g.sum_operator
    fit_sum_operator = search (fit_alt, fit_word)

    fit_sum_link : Fit g.sum_link (Weighs (λ l. here q l.pos + expr_weight q l.operand))
    unfolding g.sum_link
    fit_sum_link = fit_part fit_product (fit_part fit_sum_operator (fit_give (λ o m h x n v. omega (arith, h, v))))

    fit_sum : FitsExpr g.sum
    unfolding g.sum
    fit_sum =
        fit_part (fit_many {W = Weighs (sum_links_weight q)} fit_sum_link refl (λ l ls m n v w. omega (arith, v, w)))
        (fit_part fit_first_term (fit_give (λ x m h ls n v. sum_weighs q x ls (0 + m + n) (omega (arith, h, v)))))

    fit_cons_operator : Fit g.cons_operator (Weighs (λ o. here q o.1))
    unfolding g.cons_operator
    fit_cons_operator = search (fit_alt, fit_word)

    fit_cons_link : Fit g.cons_link (Weighs (λ l. here q l.pos + expr_weight q l.operand))
    unfolding g.cons_link
    fit_cons_link = fit_part fit_sum (fit_part fit_cons_operator (fit_give (λ o m h x n v. omega (arith, h, v))))

    fit_cons : FitsExpr g.cons
    unfolding g.cons
    fit_cons =
        fit_part (fit_many {W = Weighs (list_links_weight q)} fit_cons_link refl (λ l ls m n v w. omega (arith, v, w)))
        (fit_part fit_sum (fit_give (λ x m h ls n v. cons_weighs q x ls (0 + m + n) (omega (arith, h, v)))))

    fit_compare_operator : Fit g.compare_operator (Weighs (λ o. here q o.1))
    unfolding g.compare_operator
    fit_compare_operator = search (fit_alt, fit_word) depth 12

    fit_compare_end : Fit g.compare_end (Weighs (compared_weight q))
    unfolding g.compare_end
    fit_compare_end = fit_part fit_cons (fit_part fit_compare_operator (fit_give (λ o m h x n v. omega (arith, h, v))))

    fit_comparison : FitsExpr g.comparison
    unfolding g.comparison
    fit_comparison =
        fit_part (fit_alt fit_compare_end (fit_give refl))
        (fit_part fit_cons (fit_give (λ x m h c n v. compare_weighs q x c (0 + m + n) (omega (arith, h, v)))))

    fit_and_link : Fit g.and_link (Weighs (λ l. here q l.pos + expr_weight q l.operand))
    unfolding g.and_link
    fit_and_link = fit_link fit_comparison

    fit_and : FitsExpr g.and
    unfolding g.and
    fit_and = fit_part (fit_links fit_and_link) (fit_part fit_comparison (fit_give (λ x m h ls n v. and_weighs q x ls (0 + m + n) (omega (arith, h, v)))))

    fit_or_link : Fit g.or_link (Weighs (λ l. here q l.pos + expr_weight q l.operand))
    unfolding g.or_link
    fit_or_link = fit_link fit_and

    fit_or : FitsExpr g.or
    unfolding g.or
    fit_or = fit_part (fit_links fit_or_link) (fit_part fit_and (fit_give (λ x m h ls n v. or_weighs q x ls (0 + m + n) (omega (arith, h, v)))))

    pub fit_expr : FitsExpr g.expr
    unfolding g.expr
    fit_expr =
        fit_alt (fit_within (parts _ expr_if) (λ p x n h. if_weighs q p x.0 x.1 x.2 n h))
        (fit_alt (fit_within (parts _ expr_case) (λ p x n h. case_weighs q p x.0 x.1 n h))
        (fit_alt (fit_inside refl (parts _ expr_let) (λ p x n h. let_weighs q p x.0 x.1 x.2 n h))
        fit_or))

    -- ---- behind the first expression of a (, and in a [
    pub fit_expr_end : Fit g.expr_end (λ f n. (x : Expr) (m : ℕ) (p : Pos) → expr_weight q x ≡ m → (m + n ≤ expr_weight q (f x p)) × (expr_weight q (f x p) ≤ here q p + (m + n)))
    unfolding g.expr_end
    fit_expr_end =
        fit_alt (fit_map (fit_end refl) (λ c n h x m p w. (omega (arith, h, w), omega (arith, w))))
        (fit_skip refl (fit_part fit_expr (fit_skip refl (fit_give (λ y n v x m p w. by x y p m n v w)))))
      where
        by : (x y : Expr) (p : Pos) (m n : ℕ) → expr_weight q y ≡ n → expr_weight q x ≡ m → (m + (0 + n) ≤ expr_weight q (e.Pair p x y)) × (expr_weight q (e.Pair p x y) ≤ here q p + (m + (0 + n)))
        by x y p m n v w =
            let i : expr_weight q (e.Pair p x y) ≡ here q p + (m + n) = binary_weighs q e.Pair b.Pair ex-Pair p x y (here q p + (m + n)) (omega (arith, v, w)) in
            (omega (arith, i), omega (arith, i))

    fit_next_item : FitsExpr g.next_item
    unfolding g.next_item
    fit_next_item = fit_part fit_expr (fit_skip refl (fit_give (λ x n h. omega (arith, h))))

    pub fit_items : Fit g.items (Weighs (exprs_weight q))
    unfolding g.items
    fit_items =
        fit_skip refl
        (fit_part (fit_exprs fit_next_item)
        (fit_part fit_expr (fit_give (λ x m h xs n v. omega (arith, h, v, times-append q (ex_positions (ex_of x)) (exs_positions (exs_of xs)))))))
