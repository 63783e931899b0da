-- Expressions with slots in place of names, and nodes that stand for them (own).
--
-- The slot of a name is how many names stand before it in its scope. A node is read with the trees of the nodes before
-- it, and a call holds the tree of its function's body, so that the meaning needs no table of functions.
use Rattle.std.specs.Prelude.{ℕ, ◌+◌, ◌==◌, List, [], ◌∷◌, ◌++◌, length, cond, Option, Some, None, slice_get, slice_index_or, bytes_eq}
use Rattle.hs_base.specs.declared.tree.forms.UnaryForm.{UnaryForm}
use Rattle.hs_base.specs.declared.tree.forms.BinaryForm.{BinaryForm}
use Rattle.hs_base.specs.declared.tree.forms.EmptyForm.{EmptyForm}
use Rattle.hs_base.specs.declared.tree.forms.SideForm.{SideForm}
use Rattle.rules_code.specs.declared.node.ExprId.{ExprId}
use Rattle.rules_code.specs.declared.node.NodeLink.{NodeLink}
use Rattle.rules_code.specs.declared.node.Node.{Node}
use Rattle.rules_code.specs.declared.node.Node.TheVariants as n
use Rattle.rules_expansion.specs.trees.Trees.{Ex, Exs, Links, Arms, Lit, number, letters, truth, nothing_more, exception, lit, name, unary, binary, chain, conses, choose, items, empty, side, given, case, none, more, end, link, maybe_arms, either_arms, list_arms, pair_arms}
use Rattle.rules_expansion.specs.trees.Programs.{Bd, pure_body, io_body, Fn}
use Rattle.rules_expansion.specs.Names.{Name, Written, same_name}
use Rattle.rules_meaning.specs.Values.{V, list_of, Outcome, Gives, Stuck, Outcomes, AllGive, and_then}
use Rattle.rules_meaning.specs.Meaning.{then, then_all, literal, empty_of, side_of, unary_of, binary_of, linked, on_truth, on_maybe, on_either, on_list, on_pair, texts_of}

mutual
  pub data Sx : Type 0 where
    s_literal : Lit → Sx
    s_empty : EmptyForm → Sx
    s_slot : ℕ → Sx
    s_unary : UnaryForm → Sx → Sx
    s_side : SideForm → Sx → Sx
    s_binary : BinaryForm → Sx → Sx → Sx
    s_chain : Sx → Slinks → Sx
    s_conses : Sx → Slinks → Sx
    s_items : Sxs → Sx
    s_choose : Sx → Sx → Sx → Sx
    s_given : Sx → Sx → Sx
    s_maybe : Sx → Sx → Sx → Sx
    s_either : Sx → Sx → Sx → Sx
    s_list : Sx → Sx → Sx → Sx
    s_pair : Sx → Sx → Sx
    s_call : Sx → Sxs → Sx
    -- what no node stands for
    s_bad : Sx
    deriving IsSet as ex_set

  pub data Sxs : Type 0 where
    s_none : Sxs
    s_more : Sx → Sxs → Sxs
    deriving IsSet as exs_set

  pub data Slinks : Type 0 where
    s_end : Slinks
    s_link : BinaryForm → Sx → Slinks → Slinks
    deriving IsSet as links_set

-- ---- what they mean, with the values of the slots

abbrev pub at_slot : Option V → Outcome
at_slot None = Stuck
at_slot (Some v) = Gives v

abbrev mutual
  pub run : Sx → List V → Outcome
  run (s_literal l) vs = literal l
  run (s_empty f) vs = Gives (empty_of f)
  run (s_slot k) vs = at_slot (slice_get vs k)
  run (s_unary f a) vs = then (run a vs) (unary_of f)
  run (s_side f a) vs = then (run a vs) (λ v. Gives (side_of f v))
  run (s_binary f a b) vs = then (run a vs) (λ v. then (run b vs) (binary_of f v))
  run (s_chain a ks) vs = run_left vs (run a vs) ks
  run (s_conses a ks) vs = run_right vs (run a vs) ks
  run (s_items es) vs = then_all (run_all es vs) (λ us. Gives (list_of us))
  run (s_choose c a b) vs = then (run c vs) (on_truth (λ t. cond t (run a vs) (run b vs)))
  run (s_given a b) vs = then (run a vs) (λ v. run b (vs ++ v ∷ []))
  run (s_maybe c a b) vs = then (run c vs) (on_maybe (run a vs) (λ v. run b (vs ++ v ∷ [])))
  run (s_either c a b) vs = then (run c vs) (on_either (λ v. run a (vs ++ v ∷ [])) (λ v. run b (vs ++ v ∷ [])))
  run (s_list c a b) vs = then (run c vs) (on_list (run a vs) (λ v w. run b ((vs ++ v ∷ []) ++ w ∷ [])))
  run (s_pair c a) vs = then (run c vs) (on_pair (λ v w. run a ((vs ++ v ∷ []) ++ w ∷ [])))
  run (s_call f es) vs = then_all (run_all es vs) (run f)
  run s_bad vs = Stuck

  pub run_all : Sxs → List V → Outcomes
  run_all s_none vs = AllGive []
  run_all (s_more e es) vs = and_then (run e vs) (run_all es vs)

  pub run_left : List V → Outcome → Slinks → Outcome
  run_left vs o s_end = o
  run_left vs o (s_link f e ks) = run_left vs (linked f o (run e vs)) ks

  pub run_right : List V → Outcome → Slinks → Outcome
  run_right vs o s_end = o
  run_right vs o (s_link f e ks) = then o (λ v. then (run_right vs (run e vs) ks) (binary_of f v))

-- ---- from names to slots

-- a scope: its names, the last bound first
abbrev pub Scope : Type 0
Scope = List Name

abbrev pub slot_of : Scope → Name → Option ℕ
slot_of [] y = None
slot_of (c ∷ cs) y = cond (same_name y c) (Some (length cs)) (slot_of cs y)

-- the pure functions so far, each with the number of its parameters and the tree of its body
pub record Root : Type 0 where
  pub text : List ℕ
  pub params : ℕ
  pub tree : Sx

-- The body that a call with so many arguments means: the first function of that name.
abbrev pub body_of : List Root → List ℕ → ℕ → Sx
body_of [] f k = s_bad
body_of (r ∷ rs) f k = cond (bytes_eq r.text f) (cond (r.params == k) r.tree s_bad) (body_of rs f k)

abbrev pub read_or : Option ℕ → Sx → Sx
read_or None t = t
read_or (Some k) t = s_slot k

abbrev pub count : Exs → ℕ
count none = 0
count (more e es) = 1 + count es

abbrev mutual
  pub slotted : List Root → Scope → Ex → Sx
  slotted rs s (lit p l) = s_literal l
  slotted rs s (name f es) = read_or (slot_of s (Written f.text)) (s_call (body_of rs f.text (count es)) (slotted_all rs s es))
  slotted rs s (unary f p e) = s_unary f (slotted rs s e)
  slotted rs s (binary f p e g) = s_binary f (slotted rs s e) (slotted rs s g)
  slotted rs s (chain e ks) = s_chain (slotted rs s e) (slotted_links rs s ks)
  slotted rs s (conses e ks) = s_conses (slotted rs s e) (slotted_links rs s ks)
  slotted rs s (choose p e f g) = s_choose (slotted rs s e) (slotted rs s f) (slotted rs s g)
  slotted rs s (items p es) = s_items (slotted_all rs s es)
  slotted rs s (empty f p w) = s_empty f
  slotted rs s (side f p w v e) = s_side f (slotted rs s e)
  slotted rs s (given y e f) = s_given (slotted rs s e) (slotted rs (Written y.text ∷ s) f)
  slotted rs s (case p e arms) = slotted_arms rs s (slotted rs s e) arms

  pub slotted_all : List Root → Scope → Exs → Sxs
  slotted_all rs s none = s_none
  slotted_all rs s (more e es) = s_more (slotted rs s e) (slotted_all rs s es)

  pub slotted_links : List Root → Scope → Links → Slinks
  slotted_links rs s end = s_end
  slotted_links rs s (link f p e ks) = s_link f (slotted rs s e) (slotted_links rs s ks)

  pub slotted_arms : List Root → Scope → Sx → Arms → Sx
  slotted_arms rs s c (maybe_arms e y f) = s_maybe c (slotted rs s e) (slotted rs (Written y.text ∷ s) f)
  slotted_arms rs s c (either_arms y e z f) = s_either c (slotted rs (Written y.text ∷ s) e) (slotted rs (Written z.text ∷ s) f)
  slotted_arms rs s c (list_arms e y z f) = s_list c (slotted rs s e) (slotted rs (Written z.text ∷ Written y.text ∷ s) f)
  slotted_arms rs s c (pair_arms y z e) = s_pair c (slotted rs (Written z.text ∷ Written y.text ∷ s) e)

-- the scope of parameters
abbrev pub scope_onto : Scope → List (List ℕ) → Scope
scope_onto s [] = s
scope_onto s (y ∷ ys) = scope_onto (Written y ∷ s) ys

-- the roots with that of one more definition, where it is a pure one
abbrev pub root_with : List Root → Fn → Bd → List Root
root_with rs f (pure_body w e) = rs ++ record { text = f.name.text; params = length (texts_of f.params); tree = slotted rs (scope_onto [] (texts_of f.params)) e } ∷ []
root_with rs f (io_body w a) = rs

abbrev pub roots_onto : List Root → List Fn → List Root
roots_onto rs [] = rs
roots_onto rs (f ∷ more_of) = roots_onto (root_with rs f f.body) more_of

-- the bodies of the pure functions of a script
abbrev pub roots_of : List Fn → List Root
roots_of script = roots_onto [] script

-- ---- numbered nodes

abbrev pub tree_in : List Sx → ExprId → Sx
tree_in ts i = slice_index_or ts i.0 s_bad

abbrev pub trees_in : List Sx → List ExprId → Sxs
trees_in ts [] = s_none
trees_in ts (i ∷ is) = s_more (tree_in ts i) (trees_in ts is)

abbrev pub links_in : List Sx → List NodeLink → Slinks
links_in ts [] = s_end
links_in ts (k ∷ ks) = s_link k.form (tree_in ts k.operand) (links_in ts ks)

-- a node, with the trees of the nodes before it
abbrev pub decode : List Sx → Node → Sx
decode ts (n.Int m) = s_literal (number m)
decode ts (n.Text t) = s_literal (letters t)
decode ts (n.Bool t) = s_literal (truth t)
decode ts (n.Exn e) = s_literal (exception e)
decode ts n.Unit = s_literal nothing_more
decode ts (n.Empty f) = s_empty f
decode ts (n.Slot k) = s_slot k
decode ts (n.Unary f i) = s_unary f (tree_in ts i)
decode ts (n.Side f i) = s_side f (tree_in ts i)
decode ts (n.Binary f i j) = s_binary f (tree_in ts i) (tree_in ts j)
decode ts (n.Chain i ks) = s_chain (tree_in ts i) (links_in ts ks)
decode ts (n.Conses i ks) = s_conses (tree_in ts i) (links_in ts ks)
decode ts (n.List is) = s_items (trees_in ts is)
decode ts (n.If h i j) = s_choose (tree_in ts h) (tree_in ts i) (tree_in ts j)
decode ts (n.Let i j) = s_given (tree_in ts i) (tree_in ts j)
decode ts (n.CaseMaybe h i j) = s_maybe (tree_in ts h) (tree_in ts i) (tree_in ts j)
decode ts (n.CaseEither h i j) = s_either (tree_in ts h) (tree_in ts i) (tree_in ts j)
decode ts (n.CaseList h i j) = s_list (tree_in ts h) (tree_in ts i) (tree_in ts j)
decode ts (n.CasePair h i) = s_pair (tree_in ts h) (tree_in ts i)
decode ts (n.Call i is) = s_call (tree_in ts i) (trees_in ts is)

abbrev pub trees_onto : List Node → List Sx → List Sx
trees_onto [] ts = ts
trees_onto (k ∷ ns) ts = trees_onto ns (ts ++ decode ts k ∷ [])

-- the trees of nodes
abbrev pub trees : List Node → List Sx
trees ns = trees_onto ns []

abbrev pub tree_at : List Node → ExprId → Sx
tree_at ns i = tree_in (trees ns) i
