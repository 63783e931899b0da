-- Frames that stand inside others, and the masking states round them.
use Rattle.std.proofs.Common.{◌≡◌, ℕ, zero, suc, ◌+◌, ◌-◌, ◌<◌, ◌^◌, List, [], ◌∷◌, ◌++◌, length, reverse, take, drop, get_or, refl, ap, ◌∙◌, sym, subst, arith, length-append, length-drop}
use Rattle.std.proofs.lemmas.List.{reverse-append, length-reverse, length-take-le, take-append-drop, drop_at, drop_more, get_or-reverse}
use Rattle.hs_base.specs.declared.mask.Mask.{Mask}
use Rattle.local_steps.specs.declared.active.Frame.{Frame}
use Rattle.local_steps.specs.declared.active.Frame.TheVariants as f
use Rattle.local_steps.specs.Frames.{mask_inside, IsIn, IsNested, IsScope, AreFrames}

-- a frame that is no masking scope says nothing of the state outside of it
pub in_unless_scope : (s : Mask) (f : Frame) → (IsScope f → ⊥) → IsIn s f
in_unless_scope s (f.Bind i w) h = tt
in_unless_scope s (f.Then i vs) h = tt
in_unless_scope s (f.Catch i w) h = tt
in_unless_scope s (f.Mask m) h = absurd (h tt)

mask_joined : (s : Mask) (gs fs : List Frame) → mask_inside s (gs ++ fs) ≡ mask_inside (mask_inside s fs) gs
mask_joined s [] fs = refl
mask_joined s (f.Bind i w ∷ gs) fs = mask_joined s gs fs
mask_joined s (f.Then i vs ∷ gs) fs = mask_joined s gs fs
mask_joined s (f.Catch i w ∷ gs) fs = mask_joined s gs fs
mask_joined s (f.Mask m ∷ gs) fs = refl

nested_joined : (s : Mask) (gs fs : List Frame) → IsNested (mask_inside s fs) gs → IsNested s fs → IsNested s (gs ++ fs)
nested_joined s [] fs h k = k
nested_joined s (g ∷ gs) fs h k = (subst (λ z. IsIn z g) (sym (mask_joined s gs fs)) h.0, nested_joined s gs fs h.1 k)

-- frames that were made in the state inside others go inside those
pub frames_joined : (s t m n : Mask) (fs gs : List Frame) → AreFrames s m (reverse fs) → AreFrames t n (reverse gs) → t ≡ mask_inside s (reverse fs) → length fs + length gs < 2 ^ 32
    → AreFrames s n (reverse (fs ++ gs))
frames_joined s t m n fs gs h k e few =
    let j : AreFrames (mask_inside s (reverse fs)) n (reverse gs) = subst (λ z. AreFrames z n (reverse gs)) e k in
    subst (AreFrames s n) (sym (reverse-append fs gs)) (record {
      nested = nested_joined s (reverse gs) (reverse fs) j.nested h.nested;
      inside = j.inside ∙ sym (mask_joined s (reverse gs) (reverse fs));
      few = omega (arith, length-append (reverse gs) (reverse fs), length-reverse fs, length-reverse gs);
    })

-- ---- without some of the innermost

pub nested_rest : (s : Mask) (k : ℕ) (fs : List Frame) → IsNested s fs → IsNested s (drop k fs)
nested_rest s zero fs h = h
nested_rest s (suc k) [] h = h
nested_rest s (suc k) (f ∷ fs) h = nested_rest s k fs h.1

-- in memory the innermost are the last
pub kept_rest : (gone kept : ℕ) (fs : List Frame) → gone + kept ≡ length fs → reverse (take kept fs) ≡ drop gone (reverse fs)
kept_rest gone kept fs sum =
    let whole : reverse fs ≡ reverse (drop kept fs) ++ reverse (take kept fs) = ap reverse (sym (take-append-drop kept fs)) ∙ reverse-append (take kept fs) (drop kept fs) in
    let count : length (reverse (drop kept fs)) ≡ gone = omega (arith, length-reverse (drop kept fs), length-drop kept fs) in
    sym (ap (drop gone) whole ∙ drop_at (reverse (drop kept fs)) (reverse (take kept fs)) gone count)

-- frames that were made in the state outside of some of the innermost go in their place
pub frames_replaced : (s t m n : Mask) (gone kept : ℕ) (fs gs : List Frame) → gone + kept ≡ length fs → AreFrames s m (reverse fs) → AreFrames t n (reverse gs) → t ≡ mask_inside s (drop gone (reverse fs)) → kept + length gs < 2 ^ 32
    → AreFrames s n (reverse (take kept fs ++ gs))
frames_replaced s t m n gone kept fs gs sum h k e few =
    let rest = kept_rest gone kept fs sum in
    let count : length (take kept fs) ≡ kept = length-take-le kept fs (omega arith) in
    let outer : AreFrames s (mask_inside s (drop gone (reverse fs))) (reverse (take kept fs)) = record {
      nested = subst (IsNested s) (sym rest) (nested_rest s gone (reverse fs) h.nested);
      inside = ap (mask_inside s) (sym rest);
      few = omega (arith, length-reverse (take kept fs));
    } in
    frames_joined s t (mask_inside s (drop gone (reverse fs))) n (take kept fs) gs outer k (e ∙ ap (mask_inside s) (sym rest)) (omega arith)

-- the frame that has so many others inside of it
pub frame_at : (k : ℕ) (fs : List Frame) (f : Frame) → k < length fs → f ≡ get_or fs (length fs - 1 - k) f → drop k (reverse fs) ≡ f ∷ drop (k + 1) (reverse fs)
frame_at k fs f h e =
    let there : k < length (reverse fs) = omega (arith, length-reverse fs) in
    drop_more (reverse fs) k f there ∙ ap (λ x. x ∷ drop (k + 1) (reverse fs)) (get_or-reverse fs k f h ∙ sym e)

-- that frame in the state outside of it
pub frame_alone : (s inside outside : Mask) (k : ℕ) (fs : List Frame) (f : Frame) → IsNested s fs → drop k fs ≡ f ∷ drop (k + 1) fs → inside ≡ mask_inside s (drop k fs) → outside ≡ mask_inside s (drop (k + 1) fs)
    → AreFrames outside inside (f ∷ [])
frame_alone s inside outside k fs f h e i o =
    let n : IsNested s (f ∷ drop (k + 1) fs) = subst (IsNested s) e (nested_rest s k fs h) in
    record {
      nested = (subst (λ z. IsIn z f) (sym o) n.0, tt);
      inside = i ∙ (ap (mask_inside s) e ∙ (mask_joined s (f ∷ []) (drop (k + 1) fs) ∙ ap (λ z. mask_inside z (f ∷ [])) (sym o)));
      few = omega arith;
    }
