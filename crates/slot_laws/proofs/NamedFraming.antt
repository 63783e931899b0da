-- Local rules of a term over the frame of a masking scope are local rules of it over all frames with that state.
use Rattle.std.proofs.Common.{◌≡◌, ℕ, zero, suc, List, [], ◌∷◌, ◌++◌, length, Option, Some, None, refl, sym, ap, ◌∙◌, subst, append_assoc, arith, length-append}
use Rattle.std.proofs.lemmas.List.{append_cancel_right}
use Rattle.hs_base.specs.declared.mask.Mask.{Mask}
use Rattle.hs_base.specs.declared.mask.Mask.TheVariants.{Masked}
use Rattle.hs_base.specs.declared.exn.Exn.{Exn}
use Rattle.hs_base.specs.Masks.{join_of}
use Rattle.rules_meaning.specs.Values.{V, Exception, with_name}
use Rattle.rules_meaning.specs.CoreMeaning.{Code}
use Rattle.hs_rules.specs.Terms.{Part, Ret, Throw, Do, Performs, Frame, BindTo, CatchBy, MaskIn, Term, term, mask_at}
use Rattle.hs_rules.specs.LocalRules.{first_step, ret_step, throw_step, on_top, local, on_term, locals}

module _ (code : Code) (m : Mask) (fs : List Frame) (is : mask_at fs ≡ m) where
  -- what a rule makes of a term over the masking scope, and of the same over the frames
  data Over : Option Term → Option Term → Type 0 where
    stuck : {r : Option Term} → Over None r
    inside : {p : Part} (qs : List Frame) → Over (Some (term p (qs ++ MaskIn m ∷ []))) (Some (term p (qs ++ fs)))
    ret_left : {v : V} {r : Option Term} → Over (Some (term (Ret v) [])) r
    throw_left : {e : Exn} {r : Option Term} → Over (Some (term (Throw e) [])) r

  same_mask : (ps : List Frame) → mask_at (ps ++ fs) ≡ mask_at (ps ++ MaskIn m ∷ [])
  same_mask [] = is
  same_mask (BindTo x b env ∷ ps) = same_mask ps
  same_mask (CatchBy x b env ∷ ps) = same_mask ps
  same_mask (MaskIn s ∷ ps) = refl

  top_over : (ps : List Frame) (o : Option Term) → Over (on_top (ps ++ MaskIn m ∷ []) o) (on_top (ps ++ fs) o)
  top_over ps None = stuck
  top_over ps (Some t) =
      subst (λ z. Over (Some (term t.part z)) (Some (term t.part (t.frames ++ (ps ++ fs))))) (append_assoc t.frames ps (MaskIn m ∷ []))
      (subst (λ z. Over (Some (term t.part ((t.frames ++ ps) ++ MaskIn m ∷ []))) (Some (term t.part z))) (append_assoc t.frames ps fs) (inside (t.frames ++ ps)))

  ret_over : (v : V) (ps : List Frame) → Over (ret_step v (ps ++ MaskIn m ∷ [])) (ret_step v (ps ++ fs))
  ret_over v [] = ret_left
  ret_over v (BindTo x b env ∷ ps) = inside ps
  ret_over v (CatchBy x b env ∷ ps) = inside ps
  ret_over v (MaskIn s ∷ ps) = inside ps

  throw_over : (e : Exn) (ps : List Frame) → Over (throw_step e (ps ++ MaskIn m ∷ [])) (throw_step e (ps ++ fs))
  throw_over e [] = throw_left
  throw_over e (BindTo x b env ∷ ps) = inside ps
  throw_over e (CatchBy x b env ∷ ps) =
      subst (λ z. Over (throw_step e (CatchBy x b env ∷ (ps ++ MaskIn m ∷ []))) (Some (term (Do b (with_name x (Exception e) env)) (MaskIn (join_of Masked z) ∷ (ps ++ fs))))) (sym (same_mask ps))
      (inside (MaskIn (join_of Masked (mask_at (ps ++ MaskIn m ∷ []))) ∷ ps))
  throw_over e (MaskIn s ∷ ps) = inside ps

  rule_over : (p : Part) (ps : List Frame) → Over (local code p (ps ++ MaskIn m ∷ [])) (local code p (ps ++ fs))
  rule_over (Ret v) ps = ret_over v ps
  rule_over (Throw e) ps = throw_over e ps
  rule_over (Do a env) ps =
      subst (λ z. Over (local code (Do a env) (ps ++ MaskIn m ∷ [])) (on_top (ps ++ fs) (first_step code z a env))) (sym (same_mask ps))
      (top_over ps (first_step code (mask_at (ps ++ MaskIn m ∷ [])) a env))
  rule_over (Performs op) ps = stuck

  none_after : (k : ℕ) (t : Term) {r : Option Term} → local code t.part t.frames ≡ None → Over (Some t) r → Over (locals code k t) r
  none_after zero t e h = h
  none_after (suc k) t {r} e h = subst (λ z. Over (on_term z (λ u. locals code k u)) r) (sym e) stuck

  then_over : (k : ℕ) (o r : Option Term) → Over o r → ((p : Part) (qs : List Frame) → Over (locals code k (term p (qs ++ MaskIn m ∷ []))) (locals code k (term p (qs ++ fs))))
      → Over (on_term o (λ u. locals code k u)) (on_term r (λ u. locals code k u))
  then_over k _ _ stuck w = stuck
  then_over k _ _ (inside {p} qs) w = w p qs
  then_over k _ _ (ret_left {v}) w = none_after k (term (Ret v) []) refl ret_left
  then_over k _ _ (throw_left {e}) w = none_after k (term (Throw e) []) refl throw_left

  rules_over : (k : ℕ) (p : Part) (ps : List Frame) → Over (locals code k (term p (ps ++ MaskIn m ∷ []))) (locals code k (term p (ps ++ fs)))
  rules_over zero p ps = inside ps
  rules_over (suc k) p ps = then_over k (local code p (ps ++ MaskIn m ∷ [])) (local code p (ps ++ fs)) (rule_over p ps) (rules_over k)

  ends_over : {o r : Option Term} (q : Part) (qs : List Frame) → Over o r → o ≡ Some (term q (qs ++ MaskIn m ∷ [])) → r ≡ Some (term q (qs ++ fs))
  ends_over q qs stuck e = let z : None ≡ Some (term q (qs ++ MaskIn m ∷ [])) = e in absurd (cc z)
  ends_over q qs (inside {p} us) e =
      let w : term p (us ++ MaskIn m ∷ []) ≡ term q (qs ++ MaskIn m ∷ []) = cc in
      ap (λ (z : Part). Some (term z (us ++ fs))) (ap (λ (t : Term). t.part) w) ∙ ap (λ (z : List Frame). Some (term q (z ++ fs))) (append_cancel_right us qs (MaskIn m ∷ []) (ap (λ (t : Term). t.frames) w))
  ends_over q qs (ret_left {v}) e =
      let w : term (Ret v) [] ≡ term q (qs ++ MaskIn m ∷ []) = cc in
      absurd (let l = ap (λ (t : Term). length t.frames) w in let n = length-append qs (MaskIn m ∷ []) in omega (arith, l, n))
  ends_over q qs (throw_left {e = x}) e =
      let w : term (Throw x) [] ≡ term q (qs ++ MaskIn m ∷ []) = cc in
      absurd (let l = ap (λ (t : Term). length t.frames) w in let n = length-append qs (MaskIn m ∷ []) in omega (arith, l, n))

pub framed_names : (code : Code) (m : Mask) (fs : List Frame) (k : ℕ) (p q : Part) (ps qs : List Frame) → mask_at fs ≡ m → locals code k (term p (ps ++ MaskIn m ∷ [])) ≡ Some (term q (qs ++ MaskIn m ∷ [])) → locals code k (term p (ps ++ fs)) ≡ Some (term q (qs ++ fs))
framed_names code m fs k p q ps qs is e = ends_over code m fs is q qs (rules_over code m fs is k p ps) e
