-- Lists by their first cells: what is left is no deeper, and decides whether the lists are equal.
use Rattle.std.proofs.Common.{◌≡◌, ◌≤◌, ◌↔◌, sym, ap, ap₂, ◌∙◌}
use Rattle.hs_base.specs.declared.value.Value.TheViews.{sized-Cons, size_is-Head, outs-Cons}
use Rattle.hs_base.specs.declared.value.Head.{Head}
use Rattle.hs_base.specs.declared.value.ValueList.{ValueList, Cons, size-ValueList, out-ValueList}
use native.Mathlib.Omega.{arith}

-- what is left of a list is no deeper
rest_no_deeper : (h : Head) → size-ValueList h.rest ≤ size-ValueList (Cons h)
rest_no_deeper h = let e = sized-Cons h in let f = size_is-Head h in omega arith

pub no_deeper : (vs : ValueList) (x : Head) → vs ≡ Cons x → size-ValueList x.rest ≤ size-ValueList vs
no_deeper vs x p = rw p (rest_no_deeper x)

-- equal lists have equal first cells
pub same_heads : (x y : Head) → Cons x ≡ Cons y → x ≡ y
same_heads x y e = let p = sym (outs-Cons x) ∙ ap out-ValueList e ∙ outs-Cons y in cc

-- where the first values are equal, the rests decide
pub onward : {P : Type 0} (vs ws : ValueList) (x y : Head) → vs ≡ Cons x → ws ≡ Cons y → x.first ≡ y.first → (P ↔ (vs ≡ ws)) → (P ↔ (x.rest ≡ y.rest))
onward vs ws x y p q first e = (
  λ h. ap (λ k. k.rest) (same_heads x y (sym p ∙ e.0 h ∙ q)),
  λ h. e.1 (p ∙ ap₂ (λ f r. Cons (record { first = f; rest = r })) first h ∙ sym q),
)
