-- A step from definition to definition.
use Rattle.std.proofs.Common.{◌≡◌, ℕ, ◌+◌, ◌||◌, List, [], ◌∷◌, ◌++◌, true, cond, Option, Some, None, refl, sym, ap, ◌∙◌, subst, arith, min, ltb}
use Rattle.std.proofs.lemmas.List.{append-nil}
use Rattle.rules_expansion.specs.trees.Programs.{Bd, pure_body, io_body, Fn}
use Rattle.rules_expansion.specs.Sizes.{body_size}
use Rattle.rules_typing.specs.Typing.{Fault, large, Sig, Ctx, TypedName}
use Rattle.rules_typing.specs.TypingSizes as rule
use Rattle.rules_typing.specs.TypingSizes.{nil, worst_body, called_extent, param_names}
use Rattle.rules_typing.specs.TypingScripts.{Measured, measured_with, fn_extent, none_of, head_faults, twice_faults}
use Rattle.typing_judge.specs.JudgingScripts.{def_faults, def_found, large_faults, faults_from, is_far, is_large}
use Rattle.typing_judge.specs.Least.{least}
use Rattle.typing_judge.proofs.Capped.{Same}
use Rattle.typing_extents.specs.Measuring.{ext_of, exts_of}
use Rattle.typing_extents.specs.declared.meter.Extent.{Extent}
use Rattle.typing_parts.proofs.Noted.{least-append}
use Rattle.hs_types.specs.Steps.{of_call}
use Rattle.hs_types.proofs.Merged.{merged, none_noted}
use Rattle.hs_types.proofs.Counted.{SameMeasured, same_self, same_push, large_counted, same_faults}

exts_of-push : (xs : List Extent) (x : Extent) → exts_of (xs ++ x ∷ []) ≡ exts_of xs ++ ext_of x ∷ []
exts_of-push [] x = refl
exts_of-push (y ∷ xs) x = ap (λ z. ext_of y ∷ z) (exts_of-push xs x)

-- a number in counts
pub counted : (x : Extent) (y : rule.Extent) → x.size ≡ min y.size 1000001 → x.height ≡ min y.height 1000001 → Same (ext_of x) y
counted x y p q = record { size = omega arith; height = omega arith }

-- the rules that are broken from a definition on, where its own were noted and it was measured
pub advance : (c : Ctx) (o n : Option Fault) (m v : Measured) (d : Fn) → n ≡ least o (def_faults c d ++ large_faults c m d) → SameMeasured v (measured_with c.sigs m d)
    → (ds : List Fn) → least n (faults_from c.sigs v (c.here + 1) ds) ≡ least o (faults_from c.sigs m c.here (d ∷ ds))
advance c o n m v d e s ds = let r = faults_from c.sigs (measured_with c.sigs m d) (c.here + 1) ds in
    ap (least n) (same_faults c.sigs v (measured_with c.sigs m d) (c.here + 1) ds s) ∙ (ap (λ z. least z r) e ∙ sym (least-append o (def_faults c d ++ large_faults c m d) r))

-- what was measured after one more definition
pub measured_one : (gs : List Sig) (xs ys : List Extent) (t u : ℕ) (d : Fn) (x : Extent) → ys ≡ xs ++ x ∷ [] → Same (ext_of x) (fn_extent gs (exts_of xs) d) → u ≡ min (t + body_size d.body) 1000001
    → SameMeasured (record { extents = exts_of ys; total = u }) (measured_with gs (record { extents = exts_of xs; total = t }) d)
measured_one gs xs ys t u d x e h k = let p : exts_of ys ≡ exts_of xs ++ ext_of x ∷ [] = ap exts_of e ∙ exts_of-push xs x in
    subst (λ z. SameMeasured (record { extents = z; total = u }) (measured_with gs (record { extents = exts_of xs; total = t }) d)) (sym p)
    (record { extents = same_push (exts_of xs) (exts_of xs) (ext_of x) (fn_extent gs (exts_of xs) d) (same_self (exts_of xs)) h; total = omega arith })

none_left : (fs gs : List Fault) → fs ++ gs ≡ [] → fs ≡ []
none_left [] gs h = refl
none_left (f ∷ fs) gs h = cc

none_right : (fs gs : List Fault) → fs ++ gs ≡ [] → gs ≡ []
none_right [] gs h = h
none_right (f ∷ fs) gs h = cc

-- where nothing is broken, nothing is in the head
head_sound : (c : Ctx) (d : Fn) → def_faults c d ≡ [] → none_of (head_faults d) ≡ true
head_sound c d h = ap none_of (none_left (head_faults d) (def_found c d).faults (none_right (twice_faults c d.name) (head_faults d ++ (def_found c d).faults) h))

call_counted : (gs : List Sig) (xs : List rule.Extent) (s : List TypedName) (b : Bd) (x : rule.Extent) → Same x (worst_body gs xs s b) → Same (of_call b x) (called_extent gs xs s b)
call_counted gs xs s (pure_body w e) x h = h
call_counted gs xs s (io_body w a) x h = record { size = refl; height = refl }

pub sound_extent : (c : Ctx) (xs : List rule.Extent) (d : Fn) (x y : rule.Extent) → least None (def_faults c d) ≡ None → y ≡ of_call d.body x → Same x (worst_body c.sigs xs (param_names [] d.params) d.body) → Same y (fn_extent c.sigs xs d)
sound_extent c xs d x y e f h =
    subst (λ z. Same z (fn_extent c.sigs xs d)) (sym f) (subst (λ t. Same (of_call d.body x) (cond t (called_extent c.sigs xs (param_names [] d.params) d.body) nil)) (sym (head_sound c d (none_noted (def_faults c d) e)))
    (call_counted c.sigs xs (param_names [] d.params) d.body x h))

pub sound_noted : (c : Ctx) (o n : Option Fault) (m : Measured) (d : Fn) (x : rule.Extent) (t : ℕ) → least None (def_faults c d) ≡ None → Same x (worst_body c.sigs m.extents (param_names [] d.params) d.body) → t ≡ min (m.total + body_size d.body) 1000001
    → n ≡ least o (cond (is_far x || ltb 1000000 t) (large d.name.pos ∷ []) []) → n ≡ least o (def_faults c d ++ large_faults c m d)
sound_noted c o n m d x t e h k en = let l : (is_far x || ltb 1000000 t) ≡ is_large c.sigs m d = large_counted c.sigs m d x t h (omega arith) in
    en ∙ (ap (λ b. least o (cond b (large d.name.pos ∷ []) [])) l ∙ sym (ap (λ fs. least o (fs ++ cond (none_of fs) (cond (is_large c.sigs m d) (large d.name.pos ∷ []) []) [])) (none_noted (def_faults c d) e)))

noted_by : (fs gs : List Fault) (o : Option Fault) (f : Fault) → least None fs ≡ Some f → least o (f ∷ []) ≡ least o (fs ++ cond (none_of fs) gs [])
noted_by [] gs o f h = cc
noted_by (x ∷ fs) gs o f h = sym (merged (x ∷ fs) o f h) ∙ ap (least o) (sym (append-nil (x ∷ fs)))

pub broken_noted : (c : Ctx) (o n : Option Fault) (m : Measured) (d : Fn) (f : Fault) → least None (def_faults c d) ≡ Some f → n ≡ least o (f ∷ []) → n ≡ least o (def_faults c d ++ large_faults c m d)
broken_noted c o n m d f e en = en ∙ noted_by (def_faults c d) (cond (is_large c.sigs m d) (large d.name.pos ∷ []) []) o f e
