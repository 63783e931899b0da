-- Local rules of a part alone are local rules of it over every frames with the same masking state.
use Rattle.std.proofs.Common.{◌≡◌, ℕ, zero, suc, ◌+◌, arith, List, [], ◌∷◌, ◌++◌, Option, Some, None, refl, sym, ap, ◌∙◌, subst, append_assoc}
use Rattle.hs_base.specs.declared.mask.Mask.{Mask}
use Rattle.hs_base.specs.declared.mask.Mask.TheVariants.{Masked}
use Rattle.hs_base.specs.declared.exn.Exn.{Exn}
use Rattle.hs_base.specs.Masks.{join_of}
use Rattle.rules_meaning.specs.Values.{V, Exception}
use Rattle.rules_code.specs.CodeTrees.{Sa, SlottedFunction}
use Rattle.slot_laws.specs.SlotRules.{SlotPart, ret, throw, doing, performs, SlotFrame, bind_to, then_to, catch_by, mask_in, SlotTerm, at, mask_from, first_step, ret_step, throw_step, on_top, local, on_term, locals}

mask_append : (s : Mask) (fs gs : List SlotFrame) → mask_from s (fs ++ gs) ≡ mask_from (mask_from s gs) fs
mask_append s [] gs = refl
mask_append s (bind_to a vs ∷ fs) gs = mask_append s fs gs
mask_append s (then_to a vs ∷ fs) gs = mask_append s fs gs
mask_append s (catch_by a vs ∷ fs) gs = mask_append s fs gs
mask_append s (mask_in m ∷ fs) gs = refl

-- the first step, where there is one, over more frames
abbrev Extends : List SlotFrame → Option SlotTerm → Option SlotTerm → Type 0
Extends gs None o = Unit {0}
Extends gs (Some t) o = o ≡ Some (at t.part (t.frames ++ gs))

on_more : (fs gs : List SlotFrame) (o : Option SlotTerm) → Extends gs (on_top fs o) (on_top (fs ++ gs) o)
on_more fs gs None = tt
on_more fs gs (Some t) = ap (λ z. Some (at t.part z)) (sym (append_assoc t.frames fs gs))

ret_more : (u : V) (fs gs : List SlotFrame) → Extends gs (ret_step u fs) (ret_step u (fs ++ gs))
ret_more u [] gs = tt
ret_more u (bind_to a vs ∷ fs) gs = refl
ret_more u _ gs = refl

throw_more : (s : Mask) (e : Exn) (fs gs : List SlotFrame) → Extends gs (throw_step (mask_from s gs) e fs) (throw_step s e (fs ++ gs))
throw_more s e [] gs = tt
throw_more s e (catch_by a vs ∷ fs) gs = ap (λ m. Some (at (doing a (vs ++ Exception e ∷ [])) (mask_in (join_of Masked m) ∷ (fs ++ gs)))) (mask_append s fs gs)
throw_more s e _ gs = refl

module _ (funs : List SlottedFunction) (s : Mask) (gs : List SlotFrame) where
  local_more : (p : SlotPart) (fs : List SlotFrame) → Extends gs (local funs (mask_from s gs) p fs) (local funs s p (fs ++ gs))
  local_more (ret u) fs = ret_more u fs gs
  local_more (throw e) fs = throw_more s e fs gs
  local_more (doing a vs) fs =
      subst (λ m. Extends gs (on_top fs (first_step funs (mask_from (mask_from s gs) fs) a vs)) (on_top (fs ++ gs) (first_step funs m a vs))) (sym (mask_append s fs gs))
      (on_more fs gs (first_step funs (mask_from (mask_from s gs) fs) a vs))
  local_more (performs p) fs = tt

  then_more : (o r : Option SlotTerm) (f g : SlotTerm → Option SlotTerm) → Extends gs o r → ((t : SlotTerm) → Extends gs (f t) (g (at t.part (t.frames ++ gs)))) → Extends gs (on_term o f) (on_term r g)
  then_more None r f g e h = tt
  then_more (Some t) r f g e h = subst (λ z. Extends gs (f t) (on_term z g)) (sym e) (h t)

  locals_more : (k : ℕ) (t : SlotTerm) → Extends gs (locals funs (mask_from s gs) k t) (locals funs s k (at t.part (t.frames ++ gs)))
  locals_more zero t = refl
  locals_more (suc k) t =
      then_more (local funs (mask_from s gs) t.part t.frames) (local funs s t.part (t.frames ++ gs)) (locals funs (mask_from s gs) k) (locals funs s k)
      (local_more t.part t.frames) (λ u. locals_more k u)

  -- what a slice has done is done over the frames below
  pub framed : (k : ℕ) (t u : SlotTerm) → locals funs (mask_from s gs) k t ≡ Some u → locals funs s k (at t.part (t.frames ++ gs)) ≡ Some (at u.part (u.frames ++ gs))
  framed k t u e = subst (λ z. Extends gs z (locals funs s k (at t.part (t.frames ++ gs)))) e (locals_more k t)

  -- the same of one rule
  pub framed_one : (p : SlotPart) (fs : List SlotFrame) (u : SlotTerm) → local funs (mask_from s gs) p fs ≡ Some u → local funs s p (fs ++ gs) ≡ Some (at u.part (u.frames ++ gs))
  framed_one p fs u e = subst (λ z. Extends gs z (local funs s p (fs ++ gs))) e (local_more p fs)

  none_more : (fs : List SlotFrame) (o : Option SlotTerm) → on_top fs o ≡ None → on_top (fs ++ gs) o ≡ None
  none_more fs None e = refl
  none_more fs (Some t) e = let z : Some (at t.part (t.frames ++ fs)) ≡ None = e in absurd (cc z)

  -- an action that has no step has none over more frames
  pub stuck_more : (a : Sa) (vs : List V) (fs : List SlotFrame) → local funs (mask_from s gs) (doing a vs) fs ≡ None → local funs s (doing a vs) (fs ++ gs) ≡ None
  stuck_more a vs fs e =
      ap (λ m. on_top (fs ++ gs) (first_step funs m a vs)) (mask_append s fs gs) ∙ none_more fs (first_step funs (mask_from (mask_from s gs) fs) a vs) e

on_one : (o : Option SlotTerm) (f g : SlotTerm → Option SlotTerm) (u w : SlotTerm) → on_term o f ≡ Some u → ((v : SlotTerm) → f v ≡ Some u → g v ≡ Some w) → on_term o g ≡ Some w
on_one None f g u w e h = let z : None ≡ Some u = e in absurd (cc z)
on_one (Some v) f g u w e h = h v e

-- one rule more
pub one_more : (funs : List SlottedFunction) (s : Mask) (k : ℕ) (t u w : SlotTerm) → locals funs s k t ≡ Some u → local funs s u.part u.frames ≡ Some w → locals funs s (suc k) t ≡ Some w
one_more funs s zero t u w e h =
    let z : t ≡ u = cc in ap (λ o. on_term o (λ v. Some v)) (ap (λ (x : SlotTerm). local funs s x.part x.frames) z ∙ h)
one_more funs s (suc k) t u w e h =
    on_one (local funs s t.part t.frames) (λ v. locals funs s k v) (λ v. locals funs s (suc k) v) u w e (λ v d. one_more funs s k v u w d h)

pub one_after : (funs : List SlottedFunction) (s : Mask) (k j : ℕ) (t u w : SlotTerm) → j ≡ k + 1 → locals funs s k t ≡ Some u → local funs s u.part u.frames ≡ Some w → locals funs s j t ≡ Some w
one_after funs s k j t u w e h g = ap (λ n. locals funs s n t) (let z : j ≡ suc k = omega arith in z) ∙ one_more funs s k t u w h g
