-- The greatest expressions of actions, in counts: over tables of extents that are the same in counts they are so too.
use Rattle.std.proofs.Common.{List, ◌∷◌, refl, arith}
use Rattle.rules_expansion.specs.trees.Trees.{Exs, none, more}
use Rattle.rules_expansion.specs.trees.Programs.{SurfaceAction, bare, unary_act, binary_act, throw_io, new_empty, call, choose_act, case_act, modify, scoped, masking, restore, catch, guard, bracket, timeout, with_async, Bl, last, then, bind, let_in, ActArms, maybe_acts, either_acts, list_acts, pair_acts, Bd, pure_body, io_body}
use Rattle.rules_typing.specs.Typing.{TypedName, Sig, masked}
use Rattle.rules_typing.specs.TypingSizes.{Extent, nil, worse, worst_exs, worst_act, worst_bl, worst_arms, worst_body, called_extent}
use Rattle.typing_judge.proofs.Capped.{Same, SameTable, same_extent}

same_nil : Same nil nil
same_nil = record { size = refl; height = refl }

same_worse : (x y v w : Extent) → Same x v → Same y w → Same (worse x y) (worse v w)
same_worse x y v w a b = record { size = omega (arith, a.size, b.size); height = omega (arith, a.height, b.height) }

same_worst_exs : (gs : List Sig) (xs ys : List Extent) → SameTable xs ys → (s : List TypedName) (es : Exs) → Same (worst_exs gs xs s es) (worst_exs gs ys s es)
same_worst_exs gs xs ys h s none = same_nil
same_worst_exs gs xs ys h s (more e es) = same_worse _ _ _ _ (same_extent gs xs ys h s e) (same_worst_exs gs xs ys h s es)

mutual
  same_worst_act : (gs : List Sig) (xs ys : List Extent) → SameTable xs ys → (s : List TypedName) (a : SurfaceAction) → Same (worst_act gs xs s a) (worst_act gs ys s a)
  same_worst_act gs xs ys h s (bare o p) = same_nil
  same_worst_act gs xs ys h s (unary_act o p a) = same_extent gs xs ys h s a
  same_worst_act gs xs ys h s (binary_act o p a e) = same_worse _ _ _ _ (same_extent gs xs ys h s a) (same_extent gs xs ys h s e)
  same_worst_act gs xs ys h s (throw_io p w a) = same_extent gs xs ys h s a
  same_worst_act gs xs ys h s (new_empty p w) = same_nil
  same_worst_act gs xs ys h s (call x es) = same_worst_exs gs xs ys h s es
  same_worst_act gs xs ys h s (choose_act p e a i) = same_worse _ _ _ _ (same_worse _ _ _ _ (same_extent gs xs ys h s e) (same_worst_bl gs xs ys h s a)) (same_worst_bl gs xs ys h s i)
  same_worst_act gs xs ys h s (case_act p e arms) = same_worse _ _ _ _ (same_extent gs xs ys h s e) (same_worst_arms gs xs ys h s arms)
  same_worst_act gs xs ys h s (modify p a x i) = same_worse _ _ _ _ (same_extent gs xs ys h s a) (same_worst_bl gs xs ys h (masked x ∷ s) i)
  same_worst_act gs xs ys h s (scoped o p a) = same_worst_bl gs xs ys h s a
  same_worst_act gs xs ys h s (masking o p x a) = same_worst_bl gs xs ys h (masked x ∷ s) a
  same_worst_act gs xs ys h s (restore p x a) = same_worst_bl gs xs ys h s a
  same_worst_act gs xs ys h s (catch p a x i) = same_worse _ _ _ _ (same_worst_bl gs xs ys h s a) (same_worst_bl gs xs ys h (masked x ∷ s) i)
  same_worst_act gs xs ys h s (guard o p a i) = same_worse _ _ _ _ (same_worst_bl gs xs ys h s a) (same_worst_bl gs xs ys h s i)
  same_worst_act gs xs ys h s (bracket p a x i j) = same_worse _ _ _ _ (same_worse _ _ _ _ (same_worst_bl gs xs ys h s a) (same_worst_bl gs xs ys h (masked x ∷ s) i)) (same_worst_bl gs xs ys h (masked x ∷ s) j)
  same_worst_act gs xs ys h s (timeout p e a) = same_worse _ _ _ _ (same_extent gs xs ys h s e) (same_worst_bl gs xs ys h s a)
  same_worst_act gs xs ys h s (with_async p a x i) = same_worse _ _ _ _ (same_worst_bl gs xs ys h s a) (same_worst_bl gs xs ys h (masked x ∷ s) i)

  same_worst_bl : (gs : List Sig) (xs ys : List Extent) → SameTable xs ys → (s : List TypedName) (a : Bl) → Same (worst_bl gs xs s a) (worst_bl gs ys s a)
  same_worst_bl gs xs ys h s (last a) = same_worst_act gs xs ys h s a
  same_worst_bl gs xs ys h s (then a i) = same_worse _ _ _ _ (same_worst_act gs xs ys h s a) (same_worst_bl gs xs ys h s i)
  same_worst_bl gs xs ys h s (bind x a i) = same_worse _ _ _ _ (same_worst_act gs xs ys h s a) (same_worst_bl gs xs ys h (masked x ∷ s) i)
  same_worst_bl gs xs ys h s (let_in x e i) = same_worse _ _ _ _ (same_extent gs xs ys h s e) (same_worst_bl gs xs ys h (masked x ∷ s) i)

  same_worst_arms : (gs : List Sig) (xs ys : List Extent) → SameTable xs ys → (s : List TypedName) (arms : ActArms) → Same (worst_arms gs xs s arms) (worst_arms gs ys s arms)
  same_worst_arms gs xs ys h s (maybe_acts a x e) = same_worse _ _ _ _ (same_worst_bl gs xs ys h s a) (same_worst_bl gs xs ys h (masked x ∷ s) e)
  same_worst_arms gs xs ys h s (either_acts x a y e) = same_worse _ _ _ _ (same_worst_bl gs xs ys h (masked x ∷ s) a) (same_worst_bl gs xs ys h (masked y ∷ s) e)
  same_worst_arms gs xs ys h s (list_acts a x y e) = same_worse _ _ _ _ (same_worst_bl gs xs ys h s a) (same_worst_bl gs xs ys h (masked y ∷ masked x ∷ s) e)
  same_worst_arms gs xs ys h s (pair_acts x y a) = same_worst_bl gs xs ys h (masked y ∷ masked x ∷ s) a

pub same_worst : (gs : List Sig) (xs ys : List Extent) → SameTable xs ys → (s : List TypedName) (b : Bd) → Same (worst_body gs xs s b) (worst_body gs ys s b)
same_worst gs xs ys h s (pure_body w e) = same_extent gs xs ys h s e
same_worst gs xs ys h s (io_body w a) = same_worst_bl gs xs ys h s a

pub same_called : (gs : List Sig) (xs ys : List Extent) → SameTable xs ys → (s : List TypedName) (b : Bd) → Same (called_extent gs xs s b) (called_extent gs ys s b)
same_called gs xs ys h s (pure_body w e) = same_extent gs xs ys h s e
same_called gs xs ys h s (io_body w a) = same_nil
