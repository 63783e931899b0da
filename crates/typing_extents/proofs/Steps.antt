-- Steps of the meter one after another.
use Rattle.std.proofs.Common.{◌≡◌, ℕ, ◌+◌, List, [], ◌∷◌, Result, min, max, refl, ap, ◌∙◌, sym, subst, arith}
use Rattle.std.specs.Prelude.{IfOk}
use Rattle.std.proofs.lemmas.Result.{IfOk-weaker}
use Rattle.hs_base.specs.declared.no_memory.NoMemory.{NoMemory}
use Rattle.hs_base.specs.declared.tree.expr.Name.{Name}
use Rattle.hs_base.specs.declared.tree.expr.Expr.{Expr}
use Rattle.hs_base.specs.declared.tree.action.Block.{Block}
use Rattle.hs_base.specs.declared.tree.action.BlockArms.{BlockArms}
use Rattle.rules_expansion.specs.trees.Trees.{Ex, Exs, Links, Arms, ex_of}
use Rattle.rules_expansion.specs.trees.Programs.{SurfaceAction, bl_of, act_arms_of}
use Rattle.rules_typing.specs.Typing.{TypedName, Sig, masked, look}
use Rattle.rules_typing.specs.TypingSizes as rule
use Rattle.typing_parts.specs.Views.{scope_of}
use Rattle.typing_extents.specs.Measuring.{Extends, ext_of, exts_of}
use Rattle.typing_extents.specs.declared.meter.Extent.{Extent}
use Rattle.typing_extents.specs.declared.meter.Meter.{Meter}

-- what the rules give at a place, by the definitions before and the scope
abbrev pub At : Type 0
At = List rule.Extent → List TypedName → rule.Extent

abbrev pub at : At → Meter → rule.Extent
at k m = k (exts_of m.extents) (scope_of [] m.scope.items)

abbrev pub tree_at : List Sig → Ex → At
tree_at gs z = λ xs s. rule.extent gs xs s z

abbrev pub ex_at : List Sig → Expr → At
ex_at gs e = λ xs s. rule.extent gs xs s (ex_of e)

abbrev pub exs_at : List Sig → Exs → At
exs_at gs es = λ xs s. rule.extents gs xs s es

-- what a name unfolds to, beside its own node
abbrev pub name_at : List Sig → Name → At
name_at gs x = λ xs s. rule.body_extent gs xs x.text (look s x.text)

abbrev pub under_at : List Sig → Name → Expr → At
under_at gs x e = λ xs s. rule.extent gs xs (masked x ∷ s) (ex_of e)

abbrev pub links_at : List Sig → Links → At
links_at gs ks = λ xs s. rule.link_extents gs xs s ks

abbrev pub arms_at : List Sig → Arms → At
arms_at gs ks = λ xs s. rule.arm_extents gs xs s ks

abbrev pub act_at : List Sig → SurfaceAction → At
act_at gs z = λ xs s. rule.worst_act gs xs s z

abbrev pub bl_at : List Sig → Block → At
bl_at gs b = λ xs s. rule.worst_bl gs xs s (bl_of b)

abbrev pub under_bl_at : List Sig → Name → Block → At
under_bl_at gs x b = λ xs s. rule.worst_bl gs xs (masked x ∷ s) (bl_of b)

abbrev pub act_arms_at : List Sig → BlockArms → At
act_arms_at gs ks = λ xs s. rule.worst_arms gs xs s (act_arms_of ks)

-- an equation for each of two parts
pub both : (f : Expr → Expr → rule.Extent) (a x b y : Expr) → a ≡ x → b ≡ y → f x y ≡ f a b
both f a x b y h k = ap (λ z. f z y) (sym h) ∙ ap (f a) (sym k)

-- ---- numbers, counted up to a bound

over_bound : (b x y n : ℕ) → n ≡ min x b → y ≡ min (1 + n) b → y ≡ min (1 + x) b
over_bound b x y n h k = omega arith

beside_bound : (b x y m n z : ℕ) → m ≡ min x b → n ≡ min y b → z ≡ min (m + n) b → z ≡ min (x + y) b
beside_bound b x y m n z h k l = omega arith

max_bound : (b x y m n z : ℕ) → m ≡ min x b → n ≡ min y b → z ≡ max m n → z ≡ min (max x y) b
max_bound b x y m n z h k l = omega arith

-- a part counted up to the bound, in a sum counted up to it
in_sum : (b x y m z : ℕ) → m ≡ min x b → z ≡ min (1 + (m + y)) b → z ≡ min (1 + (x + y)) b
in_sum b x y m z h k = omega arith

in_max : (b x y m z : ℕ) → m ≡ min x b → z ≡ min (1 + max m y) b → z ≡ min (1 + max x y) b
in_max b x y m z h k = omega arith

-- ---- steps

-- what a function of the meter's parts gives is the same after a step
same_at : (o m : Meter) (x : Extent) (y : rule.Extent) (k : At) → Extends o m x y → at k m ≡ at k o
same_at o m x y k h = ap (λ z. k (exts_of z) (scope_of [] m.scope.items)) h.before ∙ ap (k (exts_of o.extents)) h.scope

pub leaf : (o : Meter) (n x : Extent) (y : rule.Extent) → y ≡ rule.over rule.nil → (n.size ≡ 0) × (n.height ≡ 0) → (x.size ≡ min (1 + n.size) 1000001) × (x.height ≡ min (1 + n.height) 1000001) → Extends o o x y
leaf o n x y e h k = record {
  scope = refl;
  before = refl;
  size = k.0 ∙ (ap (λ z. min (1 + z) 1000001) h.0 ∙ ap (λ z. min z.size 1000001) (sym e));
  height = k.1 ∙ (ap (λ z. min (1 + z) 1000001) h.1 ∙ ap (λ z. min z.height 1000001) (sym e));
}

-- two parts beside one another
pub two : (o m n : Meter) (x y b : Extent) (f : rule.Extent) (k : At) → Extends o m x f → Extends m n y (at k m) → (b.size ≡ min (x.size + y.size) 1000001) × (b.height ≡ max x.height y.height) → Extends o n b (rule.beside f (at k o))
two o m n x y b f k h g e = let i = same_at o m x f k h in record {
  scope = g.scope ∙ h.scope;
  before = g.before ∙ h.before;
  size = beside_bound 1000001 f.size (at k o).size x.size y.size b.size h.size (g.size ∙ ap (λ z. min z.size 1000001) i) e.0;
  height = max_bound 1000001 f.height (at k o).height x.height y.height b.height h.height (g.height ∙ ap (λ z. min z.height 1000001) i) e.1;
}

-- no expression at all
pub empty : (o : Meter) (x : Extent) (y : rule.Extent) → y ≡ rule.nil → (x.size ≡ 0) × (x.height ≡ 0) → Extends o o x y
empty o x y e h = record {
  scope = refl;
  before = refl;
  size = h.0 ∙ ap (λ z. min z.size 1000001) (sym e);
  height = h.1 ∙ ap (λ z. min z.height 1000001) (sym e);
}

-- the greater of two parts
pub worse_two : (o m n : Meter) (x y b : Extent) (f w : rule.Extent) (k : At) → w ≡ rule.worse f (at k o) → Extends o m x f → Extends m n y (at k m) → (b.size ≡ max x.size y.size) × (b.height ≡ max x.height y.height) → Extends o n b w
worse_two o m n x y b f w k e h g r = let i = same_at o m x f k h in record {
  scope = g.scope ∙ h.scope;
  before = g.before ∙ h.before;
  size = max_bound 1000001 f.size (at k o).size x.size y.size b.size h.size (g.size ∙ ap (λ z. min z.size 1000001) i) r.0 ∙ ap (λ z. min z.size 1000001) (sym e);
  height = max_bound 1000001 f.height (at k o).height x.height y.height b.height h.height (g.height ∙ ap (λ z. min z.height 1000001) i) r.1 ∙ ap (λ z. min z.height 1000001) (sym e);
}

-- a node over its parts
pub over_parts : (o n : Meter) (b r : Extent) (f w : rule.Extent) → w ≡ rule.over f → Extends o n b f → (r.size ≡ min (1 + b.size) 1000001) × (r.height ≡ min (1 + b.height) 1000001) → Extends o n r w
over_parts o n b r f w e h k = record {
  scope = h.scope;
  before = h.before;
  size = over_bound 1000001 f.size r.size b.size h.size k.0 ∙ ap (λ z. min z.size 1000001) (sym e);
  height = over_bound 1000001 f.height r.height b.height h.height k.1 ∙ ap (λ z. min z.height 1000001) (sym e);
}

-- a chain over its parts
pub higher_parts : (o n : Meter) (b r : Extent) (f w : rule.Extent) → w ≡ rule.higher f → Extends o n b f → (r.size ≡ b.size) × (r.height ≡ min (1 + b.height) 1000001) → Extends o n r w
higher_parts o n b r f w e h k = record {
  scope = h.scope;
  before = h.before;
  size = k.0 ∙ (h.size ∙ ap (λ z. min z.size 1000001) (sym e));
  height = over_bound 1000001 f.height r.height b.height h.height k.1 ∙ ap (λ z. min z.height 1000001) (sym e);
}

-- ---- an expression whose last step answers

pub tail0 : (o n : Meter) (r : Result Extent NoMemory) (f w : rule.Extent) → w ≡ f → IfOk r (λ x. Extends o n x f) → IfOk r (λ x. Extends o n x w)
tail0 o n r f w e h = subst (λ z. IfOk r (λ x. Extends o n x z)) (sym e) h

over_two : (o m n : Meter) (x y : Extent) (f : rule.Extent) (k : At) → Extends o m x f → Extends m n y (rule.over (rule.beside (ext_of x) (at k m))) → Extends o n y (rule.over (rule.beside f (at k o)))
over_two o m n x y f k h g = let i = same_at o m x f k h in record {
  scope = g.scope ∙ h.scope;
  before = g.before ∙ h.before;
  size = in_sum 1000001 f.size (at k o).size x.size y.size h.size (g.size ∙ ap (λ z. min (1 + (x.size + z.size)) 1000001) i);
  height = in_max 1000001 f.height (at k o).height x.height y.height h.height (g.height ∙ ap (λ z. min (1 + max x.height z.height) 1000001) i);
}

pub tail2 : (o m n : Meter) (r : Result Extent NoMemory) (x : Extent) (f w : rule.Extent) (k : At) → w ≡ rule.over (rule.beside f (at k o)) → Extends o m x f → IfOk r (λ y. Extends m n y (rule.over (rule.beside (ext_of x) (at k m)))) → IfOk r (λ y. Extends o n y w)
tail2 o m n r x f w k e a h = subst (λ z. IfOk r (λ y. Extends o n y z)) (sym e) (IfOk-weaker r _ _ (λ y g. over_two o m n x y f k a g) h)
