-- The typing rules as a function: all broken rules of a part, and its type where it has one.
use Rattle.std.specs.Prelude.{◌&&◌, List, [], ◌∷◌, ◌++◌, length, Bool, true, false, cond, Option, Some, None, ltb}
use Rattle.hs_base.specs.declared.pos.Pos.{Pos}
use Rattle.hs_base.specs.declared.tree.expr.Name.{Name}
use Rattle.rules_expansion.specs.trees.Trees.{T, unit, int, bool, text, thread, exn, pair, maybe, either, list, cell, async, Wr, Ex, lit, name, unary, binary, chain, conses, choose, items, empty, side, given, case, Exs, none, more, Links, end, link, Arms, maybe_arms, either_arms, list_arms, pair_arms}
use Rattle.rules_typing.specs.Typing.{Form, a_maybe, an_either, a_list, a_pair, a_cell, an_async, equal, order, shown, Fault, scope, wide, nodes, Need, is, of, refusal, Row, type_of_lit, row_unary, row_binary, row_empty, row_side, row_choose, row_items, row_arms, form_of_arms, first_of, second_of, inner_of, Ctx, TypedName, bound, Meant, wrong, takes, meant, is_each, count}

abbrev pub same : T → T → Bool
same unit unit = true
same int int = true
same bool bool = true
same text text = true
same thread thread = true
same exn exn = true
same (pair a b) (pair c d) = same a c && same b d
same (maybe a) (maybe c) = same a c
same (either a b) (either c d) = same a c && same b d
same (list a) (list c) = same a c
same (cell a) (cell c) = same a c
same (async a) (async c) = same a c
same _ _ = false

abbrev pub has : Form → T → Bool
has a_maybe (maybe a) = true
has an_either (either a b) = true
has a_list (list a) = true
has a_pair (pair a b) = true
has a_cell (cell a) = true
has an_async (async a) = true
has equal int = true
has equal bool = true
has equal text = true
has equal thread = true
has equal exn = true
has order int = true
has order text = true
has shown int = true
has shown bool = true
has shown thread = true
has shown exn = true
has _ _ = false

abbrev pub met : Need → Bool
met (is want got) = same want got
met (of form got) = has form got

-- all broken rules of a part, and its type where it has one
pub record Found : Type 0 where
  pub faults : List Fault
  pub type : Option T

abbrev pub good : T → Found
good t = record { faults = []; type = Some t }

abbrev pub bad : Fault → Found
bad f = record { faults = f ∷ []; type = None }

abbrev pub lost : Found
lost = record { faults = []; type = None }

-- the same after other faults
abbrev pub after : List Fault → Found → Found
after fs x = record { faults = fs ++ x.faults; type = x.type }

abbrev pub with1 : Option T → (T → Found) → Found
with1 None k = lost
with1 (Some a) k = k a

abbrev pub with2 : Option T → Option T → (T → T → Found) → Found
with2 None b k = lost
with2 (Some a) b k = with1 b (k a)

abbrev pub with3 : Option T → Option T → Option T → (T → T → T → Found) → Found
with3 None b c k = lost
with3 (Some a) b c k = with2 b c (k a)

abbrev pub with_all : Option (List T) → (List T → Found) → Found
with_all None k = lost
with_all (Some ts) k = k ts

-- the first need that isn't met, else what follows
abbrev pub needing : Pos → List Need → Found → Found
needing p [] x = x
needing p (n ∷ ns) x = cond (met n) (needing p ns x) (bad (refusal p n))

abbrev pub made : Pos → Bool → T → Found
made p m t = cond (m && ltb 64 (nodes t)) (bad (wide p)) (good t)

-- a node with that row
abbrev pub own : Pos → Row → Found
own p r = needing p r.needs (made p r.makes r.type)

-- a written type
abbrev pub written : Wr → Found
written w = cond (ltb 64 (nodes w.ty)) (bad (wide w.pos)) (good w.ty)

abbrev pub full : List TypedName → Bool
full s = ltb 63 (length s)

abbrev pub unless_full : List TypedName → Name → Found → Found
unless_full s x k = cond (full s) (bad (scope x.pos)) k

abbrev pub scope_faults : List TypedName → Name → List Fault
scope_faults s x = cond (full s) (scope x.pos ∷ []) []

abbrev pub unless : Bool → Option T → Option T
unless b t = cond b None t

abbrev pub unless_wrong : Option Fault → Found → Found
unless_wrong None x = x
unless_wrong (Some f) x = record { faults = f ∷ x.faults; type = None }

-- parts in a row: their broken rules, and their types where each has one
pub record Founds : Type 0 where
  pub faults : List Fault
  pub types : Option (List T)

abbrev pub joined : Option T → Option (List T) → Option (List T)
joined None ts = None
joined (Some t) None = None
joined (Some t) (Some ts) = Some (t ∷ ts)

abbrev pub called : Pos → Meant → Option (List T) → Found
called p (wrong f) us = bad f
called p (takes params t) us = with_all us (λ ts. needing p (is_each params ts) (good t))

-- parts, and then what the node adds where they have types
abbrev pub part : Found → (T → Found) → Found
part a k = after a.faults (with1 a.type k)

abbrev pub parts2 : Found → Found → (T → T → Found) → Found
parts2 a b k = after (a.faults ++ b.faults) (with2 a.type b.type k)

abbrev pub parts3 : Found → Found → Found → (T → T → T → Found) → Found
parts3 a b d k = after (a.faults ++ b.faults ++ d.faults) (with3 a.type b.type d.type k)

abbrev pub parts_all : Founds → (Option (List T) → Found) → Found
parts_all a k = after a.faults (k a.types)

abbrev pub join : Found → Founds → Founds
join a b = record { faults = a.faults ++ b.faults; types = joined a.type b.types }

abbrev pub not_full : List TypedName → Found → Found
not_full s a = record { faults = a.faults; type = unless (full s) a.type }

-- what stands before a link, where its faults stand elsewhere
abbrev pub typed : Option T → Found
typed t = record { faults = []; type = t }

-- the nodes of `:` and `++` over the types of all operands, from the right
abbrev pub folded : List (Option T) → Links → Found
folded [] ks = typed None
folded (x ∷ ts) end = typed x
folded (x ∷ ts) (link o p e ks) = after (folded ts ks).faults (with2 x (folded ts ks).type (λ u v. own p (row_binary o u v)))

-- ---- expressions

abbrev mutual
  pub judge : Ctx → List TypedName → Ex → Found
  judge c s (lit p l) = good (type_of_lit l)
  judge c s (name x es) = parts_all (judges c s es) (called x.pos (meant c s x (count es)))
  judge c s (unary o p a) = part (judge c s a) (λ u. own p (row_unary o u))
  judge c s (binary o p a e) = parts2 (judge c s a) (judge c s e) (λ u v. own p (row_binary o u v))
  judge c s (chain a ks) = after (judge c s a).faults (judge_links c s (typed (judge c s a).type) ks)
  judge c s (conses a ks) = after (judge c s a).faults (after (operand_faults c s ks) (folded ((judge c s a).type ∷ operand_types c s ks) ks))
  judge c s (choose p e a g) = parts3 (judge c s e) (judge c s a) (judge c s g) (λ u v z. own p (row_choose u v z))
  judge c s (items p es) = parts_all (judges c s es) (λ us. with_all us (λ ts. own p (row_items ts)))
  judge c s (empty o p w) = part (written w) (λ u. own p (row_empty o u))
  judge c s (side o p w r a) = parts3 (written w) (written r) (judge c s a) (λ u v z. own p (row_side o u v z))
  judge c s (given x a e) = after (scope_faults s x) (part (not_full s (judge c s a)) (λ u. judge c (bound x u ∷ s) e))
  judge c s (case p e arms) = part (judge c s e) (λ u. needing p (of (form_of_arms arms) u ∷ []) (judge_arms c s p u arms))

  pub judges : Ctx → List TypedName → Exs → Founds
  judges c s none = record { faults = []; types = Some [] }
  judges c s (more e es) = join (judge c s e) (judges c s es)

  -- the links of a chain, after what stands before them
  pub judge_links : Ctx → List TypedName → Found → Links → Found
  judge_links c s x end = x
  judge_links c s x (link o p e ks) = judge_links c s (parts2 x (judge c s e) (λ u v. own p (row_binary o u v))) ks

  -- the operands of `:` and `++`
  pub operand_faults : Ctx → List TypedName → Links → List Fault
  operand_faults c s end = []
  operand_faults c s (link o p e ks) = (judge c s e).faults ++ operand_faults c s ks

  pub operand_types : Ctx → List TypedName → Links → List (Option T)
  operand_types c s end = []
  operand_types c s (link o p e ks) = (judge c s e).type ∷ operand_types c s ks

  pub judge_arms : Ctx → List TypedName → Pos → T → Arms → Found
  judge_arms c s p u (maybe_arms a x e) = parts2 (judge c s a) (unless_full s x (judge c (bound x (inner_of u) ∷ s) e)) (λ v z. own p (row_arms v z))
  judge_arms c s p u (either_arms x a y e) = parts2 (unless_full s x (judge c (bound x (first_of u) ∷ s) a)) (unless_full s y (judge c (bound y (second_of u) ∷ s) e)) (λ v z. own p (row_arms v z))
  judge_arms c s p u (list_arms a x y e) = parts2 (judge c s a) (unless_full s x (unless_full (bound x (inner_of u) ∷ s) y (judge c (bound y u ∷ bound x (inner_of u) ∷ s) e))) (λ v z. own p (row_arms v z))
  judge_arms c s p u (pair_arms x y a) = unless_full s x (unless_full (bound x (first_of u) ∷ s) y (judge c (bound y (second_of u) ∷ bound x (first_of u) ∷ s) a))
