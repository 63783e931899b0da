-- The sizes that the rule Large bounds (own): how far an expression unfolds through the pure functions that it calls, and
-- the expanded sizes of the definitions.
--
-- The unfolded size of an expression counts its nodes and, for each call of a pure function, the unfolded size of the
-- called body; each operator of a chain is a node. The unfolded height is the longest path likewise; a chain is one step
-- of it, however long.
use Rattle.std.specs.Prelude.{ℕ, ◌+◌, ◌<◌, ◌⊎◌, List, [], ◌∷◌, ◌++◌, Option, Some, None, max, get_or}
use Rattle.rules_expansion.specs.trees.Trees.{Ex, lit, name, unary, binary, chain, conses, choose, items, empty, side, given, case, Exs, none, more, Links, end, link, Arms, maybe_arms, either_arms, list_arms, pair_arms}
use Rattle.rules_expansion.specs.trees.Programs.{SurfaceAction, bare, unary_act, binary_act, throw_io, new_empty, call, choose_act, case_act, modify, scoped, masking, restore, catch, guard, bracket, timeout, with_async, Bl, last, then, bind, let_in, ActArms, maybe_acts, either_acts, list_acts, pair_acts, Par, Bd, pure_body, io_body, Fn}
use Rattle.rules_expansion.specs.Sizes.{body_size}
use Rattle.rules_typing.specs.Typing.{Sort, TypedName, Sig, masked, look, find}

-- ---- how far expressions unfold

pub record Extent : Type 0 where
  pub size : ℕ
  pub height : ℕ

abbrev pub nil : Extent
nil = record { size = 0; height = 0 }

-- parts that stand beside one another
abbrev pub beside : Extent → Extent → Extent
beside x y = record { size = x.size + y.size; height = max x.height y.height }

-- a node over its parts
abbrev pub over : Extent → Extent
over x = record { size = 1 + x.size; height = 1 + x.height }

-- one more node at the same height, as an operator of a chain
abbrev pub wider : Extent → Extent
wider x = record { size = 1 + x.size; height = x.height }

abbrev pub higher : Extent → Extent
higher x = record { size = x.size; height = 1 + x.height }

-- the pure functions that stand before the definition, by their places; an action function has none
abbrev pub extent_at : List Extent → ℕ → Extent
extent_at xs k = get_or xs k nil

-- what a name unfolds to, beside its own node: nothing where the scope has it
abbrev pub sig_extent : List Extent → Option Sig → Extent
sig_extent xs None = nil
sig_extent xs (Some g) = extent_at xs g.place

abbrev pub body_extent : List Sig → List Extent → List ℕ → Option Sort → Extent
body_extent gs xs x None = sig_extent xs (find gs x)
body_extent gs xs x (Some sort) = nil

-- Of a scope only the names count here, so each is bound by `masked`.
abbrev mutual
  pub extent : List Sig → List Extent → List TypedName → Ex → Extent
  extent gs xs s (lit p l) = over nil
  extent gs xs s (name x es) = over (beside (body_extent gs xs x.text (look s x.text)) (extents gs xs s es))
  extent gs xs s (unary o p a) = over (extent gs xs s a)
  extent gs xs s (binary o p a e) = over (beside (extent gs xs s a) (extent gs xs s e))
  extent gs xs s (chain a ks) = higher (beside (extent gs xs s a) (link_extents gs xs s ks))
  extent gs xs s (conses a ks) = higher (beside (extent gs xs s a) (link_extents gs xs s ks))
  extent gs xs s (choose p e a h) = over (beside (beside (extent gs xs s e) (extent gs xs s a)) (extent gs xs s h))
  extent gs xs s (items p es) = over (extents gs xs s es)
  extent gs xs s (empty o p w) = over nil
  extent gs xs s (side o p w r a) = over (extent gs xs s a)
  extent gs xs s (given x a e) = over (beside (extent gs xs s a) (extent gs xs (masked x ∷ s) e))
  extent gs xs s (case p e arms) = over (beside (extent gs xs s e) (arm_extents gs xs s arms))

  pub extents : List Sig → List Extent → List TypedName → Exs → Extent
  extents gs xs s none = nil
  extents gs xs s (more e es) = beside (extent gs xs s e) (extents gs xs s es)

  pub link_extents : List Sig → List Extent → List TypedName → Links → Extent
  link_extents gs xs s end = nil
  link_extents gs xs s (link o p e ks) = beside (wider (extent gs xs s e)) (link_extents gs xs s ks)

  pub arm_extents : List Sig → List Extent → List TypedName → Arms → Extent
  arm_extents gs xs s (maybe_arms a x e) = beside (extent gs xs s a) (extent gs xs (masked x ∷ s) e)
  arm_extents gs xs s (either_arms x a y e) = beside (extent gs xs (masked x ∷ s) a) (extent gs xs (masked y ∷ s) e)
  arm_extents gs xs s (list_arms a x y e) = beside (extent gs xs s a) (extent gs xs (masked y ∷ masked x ∷ s) e)
  arm_extents gs xs s (pair_arms x y a) = extent gs xs (masked y ∷ masked x ∷ s) a

-- the greatest of the expressions of an action, each for itself
abbrev pub worse : Extent → Extent → Extent
worse x y = record { size = max x.size y.size; height = max x.height y.height }

abbrev pub worst_exs : List Sig → List Extent → List TypedName → Exs → Extent
worst_exs gs xs s none = nil
worst_exs gs xs s (more e es) = worse (extent gs xs s e) (worst_exs gs xs s es)

abbrev mutual
  pub worst_act : List Sig → List Extent → List TypedName → SurfaceAction → Extent
  worst_act gs xs s (bare o p) = nil
  worst_act gs xs s (unary_act o p a) = extent gs xs s a
  worst_act gs xs s (binary_act o p a e) = worse (extent gs xs s a) (extent gs xs s e)
  worst_act gs xs s (throw_io p w a) = extent gs xs s a
  worst_act gs xs s (new_empty p w) = nil
  worst_act gs xs s (call x es) = worst_exs gs xs s es
  worst_act gs xs s (choose_act p e a h) = worse (worse (extent gs xs s e) (worst_bl gs xs s a)) (worst_bl gs xs s h)
  worst_act gs xs s (case_act p e arms) = worse (extent gs xs s e) (worst_arms gs xs s arms)
  worst_act gs xs s (modify p a x h) = worse (extent gs xs s a) (worst_bl gs xs (masked x ∷ s) h)
  worst_act gs xs s (scoped o p a) = worst_bl gs xs s a
  worst_act gs xs s (masking o p x a) = worst_bl gs xs (masked x ∷ s) a
  worst_act gs xs s (restore p x a) = worst_bl gs xs s a
  worst_act gs xs s (catch p a x h) = worse (worst_bl gs xs s a) (worst_bl gs xs (masked x ∷ s) h)
  worst_act gs xs s (guard o p a h) = worse (worst_bl gs xs s a) (worst_bl gs xs s h)
  worst_act gs xs s (bracket p a x h j) = worse (worse (worst_bl gs xs s a) (worst_bl gs xs (masked x ∷ s) h)) (worst_bl gs xs (masked x ∷ s) j)
  worst_act gs xs s (timeout p e a) = worse (extent gs xs s e) (worst_bl gs xs s a)
  worst_act gs xs s (with_async p a x h) = worse (worst_bl gs xs s a) (worst_bl gs xs (masked x ∷ s) h)

  pub worst_bl : List Sig → List Extent → List TypedName → Bl → Extent
  worst_bl gs xs s (last a) = worst_act gs xs s a
  worst_bl gs xs s (then a h) = worse (worst_act gs xs s a) (worst_bl gs xs s h)
  worst_bl gs xs s (bind x a h) = worse (worst_act gs xs s a) (worst_bl gs xs (masked x ∷ s) h)
  worst_bl gs xs s (let_in x e h) = worse (extent gs xs s e) (worst_bl gs xs (masked x ∷ s) h)

  pub worst_arms : List Sig → List Extent → List TypedName → ActArms → Extent
  worst_arms gs xs s (maybe_acts a x e) = worse (worst_bl gs xs s a) (worst_bl gs xs (masked x ∷ s) e)
  worst_arms gs xs s (either_acts x a y e) = worse (worst_bl gs xs (masked x ∷ s) a) (worst_bl gs xs (masked y ∷ s) e)
  worst_arms gs xs s (list_acts a x y e) = worse (worst_bl gs xs s a) (worst_bl gs xs (masked y ∷ masked x ∷ s) e)
  worst_arms gs xs s (pair_acts x y a) = worst_bl gs xs (masked y ∷ masked x ∷ s) a

-- the parameters of a definition, as names
abbrev pub param_names : List TypedName → List Par → List TypedName
param_names s [] = s
param_names s (p ∷ ps) = param_names (masked p.name ∷ s) ps

-- the greatest expression of a body; a part of an expression is no greater than the whole
abbrev pub worst_body : List Sig → List Extent → List TypedName → Bd → Extent
worst_body gs xs s (pure_body w e) = extent gs xs s e
worst_body gs xs s (io_body w a) = worst_bl gs xs s a

-- what a call of the definition unfolds to
abbrev pub called_extent : List Sig → List Extent → List TypedName → Bd → Extent
called_extent gs xs s (pure_body w e) = extent gs xs s e
called_extent gs xs s (io_body w a) = nil
