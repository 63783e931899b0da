-- How far expressions unfold, in counts: extents that are the same in counts are so above them too.
use Rattle.std.proofs.Common.{◌≡◌, ℕ, ◌+◌, List, [], ◌∷◌, Option, Some, None, refl, arith, min, max, get_or}
use Rattle.rules_expansion.specs.trees.Trees.{Ex, lit, name, unary, binary, chain, conses, choose, items, empty, side, given, case, Exs, none, more, Links, end, link, Arms, maybe_arms, either_arms, list_arms, pair_arms}
use Rattle.rules_typing.specs.Typing.{Sort, TypedName, Sig, masked, look, find}
use Rattle.rules_typing.specs.TypingSizes.{Extent, nil, sig_extent, body_extent, extent, extents, link_extents, arm_extents}

-- the same up to the greatest count
pub record Same (x y : Extent) : Type 0 where
  pub size : min x.size 1000001 ≡ min y.size 1000001
  pub height : min x.height 1000001 ≡ min y.height 1000001

abbrev pub SameTable : List Extent → List Extent → Type 0
SameTable xs ys = (k : ℕ) → Same (get_or xs k nil) (get_or ys k nil)

same_sig : (xs ys : List Extent) → SameTable xs ys → (o : Option Sig) → Same (sig_extent xs o) (sig_extent ys o)
same_sig xs ys h None = record { size = refl; height = refl }
same_sig xs ys h (Some g) = h g.place

same_body : (gs : List Sig) (xs ys : List Extent) → SameTable xs ys → (x : List ℕ) (o : Option Sort) → Same (body_extent gs xs x o) (body_extent gs ys x o)
same_body gs xs ys h x None = same_sig xs ys h (find gs x)
same_body gs xs ys h x (Some s) = record { size = refl; height = refl }

mutual
  pub same_extent : (gs : List Sig) (xs ys : List Extent) → SameTable xs ys → (s : List TypedName) (e : Ex) → Same (extent gs xs s e) (extent gs ys s e)
  same_extent gs xs ys h s (lit p l) = record { size = refl; height = refl }
  same_extent gs xs ys h s (name x es) = let a = same_body gs xs ys h x.text (look s x.text) in let b = same_extents gs xs ys h s es in record { size = omega (arith, a.size, b.size); height = omega (arith, a.height, b.height) }
  same_extent gs xs ys h s (unary o p a) = let i = same_extent gs xs ys h s a in record { size = omega (arith, i.size); height = omega (arith, i.height) }
  same_extent gs xs ys h s (binary o p a e) = let i = same_extent gs xs ys h s a in let j = same_extent gs xs ys h s e in record { size = omega (arith, i.size, j.size); height = omega (arith, i.height, j.height) }
  same_extent gs xs ys h s (chain a ks) = let i = same_extent gs xs ys h s a in let j = same_links gs xs ys h s ks in record { size = omega (arith, i.size, j.size); height = omega (arith, i.height, j.height) }
  same_extent gs xs ys h s (conses a ks) = let i = same_extent gs xs ys h s a in let j = same_links gs xs ys h s ks in record { size = omega (arith, i.size, j.size); height = omega (arith, i.height, j.height) }
  same_extent gs xs ys h s (choose p e a g) = let i = same_extent gs xs ys h s e in let j = same_extent gs xs ys h s a in let k = same_extent gs xs ys h s g in record { size = omega (arith, i.size, j.size, k.size); height = omega (arith, i.height, j.height, k.height) }
  same_extent gs xs ys h s (items p es) = let i = same_extents gs xs ys h s es in record { size = omega (arith, i.size); height = omega (arith, i.height) }
  same_extent gs xs ys h s (empty o p w) = record { size = refl; height = refl }
  same_extent gs xs ys h s (side o p w r a) = let i = same_extent gs xs ys h s a in record { size = omega (arith, i.size); height = omega (arith, i.height) }
  same_extent gs xs ys h s (given x a e) = let i = same_extent gs xs ys h s a in let j = same_extent gs xs ys h (masked x ∷ s) e in record { size = omega (arith, i.size, j.size); height = omega (arith, i.height, j.height) }
  same_extent gs xs ys h s (case p e arms) = let i = same_extent gs xs ys h s e in let j = same_arms gs xs ys h s arms in record { size = omega (arith, i.size, j.size); height = omega (arith, i.height, j.height) }

  pub same_extents : (gs : List Sig) (xs ys : List Extent) → SameTable xs ys → (s : List TypedName) (es : Exs) → Same (extents gs xs s es) (extents gs ys s es)
  same_extents gs xs ys h s none = record { size = refl; height = refl }
  same_extents gs xs ys h s (more e es) = let i = same_extent gs xs ys h s e in let j = same_extents gs xs ys h s es in record { size = omega (arith, i.size, j.size); height = omega (arith, i.height, j.height) }

  pub same_links : (gs : List Sig) (xs ys : List Extent) → SameTable xs ys → (s : List TypedName) (ks : Links) → Same (link_extents gs xs s ks) (link_extents gs ys s ks)
  same_links gs xs ys h s end = record { size = refl; height = refl }
  same_links gs xs ys h s (link o p e ks) = let i = same_extent gs xs ys h s e in let j = same_links gs xs ys h s ks in record { size = omega (arith, i.size, j.size); height = omega (arith, i.height, j.height) }

  pub same_arms : (gs : List Sig) (xs ys : List Extent) → SameTable xs ys → (s : List TypedName) (arms : Arms) → Same (arm_extents gs xs s arms) (arm_extents gs ys s arms)
  same_arms gs xs ys h s (maybe_arms a x e) = let i = same_extent gs xs ys h s a in let j = same_extent gs xs ys h (masked x ∷ s) e in record { size = omega (arith, i.size, j.size); height = omega (arith, i.height, j.height) }
  same_arms gs xs ys h s (either_arms x a y e) = let i = same_extent gs xs ys h (masked x ∷ s) a in let j = same_extent gs xs ys h (masked y ∷ s) e in record { size = omega (arith, i.size, j.size); height = omega (arith, i.height, j.height) }
  same_arms gs xs ys h s (list_arms a x y e) = let i = same_extent gs xs ys h s a in let j = same_extent gs xs ys h (masked y ∷ masked x ∷ s) e in record { size = omega (arith, i.size, j.size); height = omega (arith, i.height, j.height) }
  same_arms gs xs ys h s (pair_arms x y a) = same_extent gs xs ys h (masked y ∷ masked x ∷ s) a
