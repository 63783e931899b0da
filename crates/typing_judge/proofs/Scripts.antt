-- The function lists the rules that a script breaks.
use Rattle.std.proofs.Common.{◌≡◌, ℕ, ◌+◌, ◌||◌, ◌⊎◌, List, [], ◌∷◌, ◌++◌, Bool, true, false, cond, refl, ap, inl, inr, ⊎_elim, ltb}
use Rattle.std.proofs.lemmas.Bool.{ltb-true, lt-ltb}
use Rattle.hs_base.specs.declared.tree.expr.Name.{Name}
use Rattle.hs_base.specs.declared.tree.script.Script.{Script}
use Rattle.rules_expansion.specs.trees.Trees.{T, Wr}
use Rattle.rules_expansion.specs.trees.Programs.{Bd, pure_body, io_body, Fn, script_of}
use Rattle.rules_expansion.specs.Sizes.{body_size}
use Rattle.rules_typing.specs.Typing.{Fault, large, AllMet, FirstUnmet, is, TypedName, Sig, Ctx}
use Rattle.rules_typing.specs.TypingFaults.{In}
use Rattle.rules_typing.specs.TypingSizes.{Extent, worst_body, param_names}
use Rattle.rules_typing.specs.TypingScripts.{result_of, params_in, head_faults, twice_faults, sigs_from, BodyHas, BodyBreaks, Ends, DefBreaks, LargeBreaks, AnyBreaks, ScriptBreaks, NothingBroken, IsFirstBroken, none_of, Measured, unmeasured, measured_with, IsLarge}
use Rattle.typing_judge.specs.Judging.{Found, good, lost, part}
use Rattle.typing_judge.specs.JudgingScripts.{judge_body, ends, def_found, def_faults, is_far, is_large, large_faults, faults_from, script_faults, NoFaults, IsLeast}
use Rattle.typing_judge.proofs.Laws.{Agrees, agree_part, agree_good, agree_needing, in_left, in_right, in_cases}
use Rattle.typing_judge.proofs.Expressions.{agree}
use Rattle.typing_judge.proofs.Actions.{agree_bl}

pub agree_body : (c : Ctx) (s : List TypedName) (d : Bd) → Agrees (judge_body c s d) (BodyHas c s d) (BodyBreaks c s d)
agree_body c s (pure_body w e) = agree c s e
agree_body c s (io_body w a) = agree_bl c s a

-- a list that is empty has no item, and the other way round
in_none : (fs : List Fault) → none_of fs ≡ true → (f : Fault) → In fs f → ⊥
in_none [] h f w = w
in_none (g ∷ fs) h f w = cc

none_in : (fs : List Fault) → ((f : Fault) → In fs f → ⊥) → none_of fs ≡ true
none_in [] h = refl
none_in (g ∷ fs) h = absurd (h g (inl refl))

agree_ends : (x : Name) (w : Wr) (u : T) → Agrees (ends x w u) (λ t. AllMet (is w.ty u ∷ []) × (t ≡ u)) (λ f. FirstUnmet x.pos (is w.ty u ∷ []) f)
agree_ends x w u =
    let a = agree_needing x.pos (is w.ty u ∷ []) (good u) (λ t. t ≡ u) (λ f. ⊥) (agree_good u) in
    record { typed = λ t e. a.typed t e; types = λ t h. a.types t h; broken = λ f h. ⊎_elim (λ k. k) (λ k. absurd k.1) (a.broken f h); breaks = λ f h. a.breaks f (inl h) }

agree_whole : (c : Ctx) (d : Fn) → Agrees (part (judge_body c (params_in [] d.params) d.body) (ends d.name (result_of d.body)))
    (λ t. (u : T) × BodyHas c (params_in [] d.params) d.body u × (AllMet (is (result_of d.body).ty u ∷ []) × (t ≡ u))) (λ f. BodyBreaks c (params_in [] d.params) d.body f ⊎ Ends c d f)
agree_whole c d = agree_part (judge_body c (params_in [] d.params) d.body) _ _ (ends d.name (result_of d.body)) _ _ (agree_body c (params_in [] d.params) d.body) (λ u. agree_ends d.name (result_of d.body) u)

-- where the head is sound
sound_in : (fs : List Fault) (x : Found) (f : Fault) → In (cond (none_of fs) x lost).faults f → (fs ≡ []) × In x.faults f
sound_in [] x f h = (refl, h)
sound_in (g ∷ fs) x f h = absurd h

in_sound : (fs : List Fault) (x : Found) (f : Fault) → (fs ≡ []) × In x.faults f → In (cond (none_of fs) x lost).faults f
in_sound [] x f h = h.1
in_sound (g ∷ fs) x f h = let e = h.0 in cc

pub def_broken : (c : Ctx) (d : Fn) (f : Fault) → In (def_faults c d) f → DefBreaks c d f
def_broken c d f h = ⊎_elim (λ w. inl w) (λ w. inr (⊎_elim (λ v. inl v) (λ v. let k = sound_in (head_faults d) _ f v in inr (k.0, (agree_whole c d).broken f k.1)) (in_cases (head_faults d) (def_found c d).faults f w))) (in_cases (twice_faults c d.name) (head_faults d ++ (def_found c d).faults) f h)

pub def_breaks : (c : Ctx) (d : Fn) (f : Fault) → DefBreaks c d f → In (def_faults c d) f
def_breaks c d f h = ⊎_elim (λ w. in_left (twice_faults c d.name) _ f w) (λ w. in_right (twice_faults c d.name) _ f (⊎_elim (λ v. in_left (head_faults d) _ f v) (λ v. in_right (head_faults d) _ f (in_sound (head_faults d) _ f (v.0, (agree_whole c d).breaks f v.1))) w)) h

or_cases : (a b : Bool) → (a || b) ≡ true → (a ≡ true) ⊎ (b ≡ true)
or_cases true b h = inl refl
or_cases false b h = inr h

or_left : (a b : Bool) → a ≡ true → (a || b) ≡ true
or_left a b h = ap (λ z. z || b) h

or_right : (a b : Bool) → b ≡ true → (a || b) ≡ true
or_right true b h = refl
or_right false b h = h

large_is : (gs : List Sig) (m : Measured) (d : Fn) → is_large gs m d ≡ true → IsLarge gs m d
large_is gs m d h = let x = worst_body gs m.extents (param_names [] d.params) d.body in
    ⊎_elim (λ k. ⊎_elim (λ j. inl (ltb-true 100000 x.size j)) (λ j. inr (inl (ltb-true 1000 x.height j))) (or_cases (ltb 100000 x.size) (ltb 1000 x.height) k)) (λ k. inr (inr (ltb-true 1000000 (m.total + body_size d.body) k)))
    (or_cases (is_far x) (ltb 1000000 (m.total + body_size d.body)) h)

is_large_of : (gs : List Sig) (m : Measured) (d : Fn) → IsLarge gs m d → is_large gs m d ≡ true
is_large_of gs m d h = let x = worst_body gs m.extents (param_names [] d.params) d.body in let n : ℕ = m.total + body_size d.body in
    ⊎_elim (λ k. or_left (is_far x) (ltb 1000000 n) (or_left (ltb 100000 x.size) (ltb 1000 x.height) (lt-ltb 100000 x.size k)))
    (λ k. ⊎_elim (λ j. or_left (is_far x) (ltb 1000000 n) (or_right (ltb 100000 x.size) (ltb 1000 x.height) (lt-ltb 1000 x.height j))) (λ j. or_right (is_far x) (ltb 1000000 n) (lt-ltb 1000000 n j)) k) h

in_two : (a b : Bool) (g f : Fault) → In (cond a (cond b (g ∷ []) []) []) f → (a ≡ true) × ((b ≡ true) × (f ≡ g))
in_two true true g f h = (refl, (refl, ⊎_elim (λ e. e) (λ k. absurd k) h))
in_two true false g f h = absurd h
in_two false b g f h = absurd h

two_in : (a b : Bool) (g f : Fault) → a ≡ true → b ≡ true → f ≡ g → In (cond a (cond b (g ∷ []) []) []) f
two_in true true g f p q e = inl e
two_in true false g f p q e = cc
two_in false b g f p q e = cc

pub large_broken : (c : Ctx) (m : Measured) (d : Fn) (f : Fault) → In (large_faults c m d) f → LargeBreaks c m d f
large_broken c m d f h = let k = in_two (none_of (def_faults c d)) (is_large c.sigs m d) (large d.name.pos) f h in
    (λ g w. in_none (def_faults c d) k.0 g (def_breaks c d g w), (large_is c.sigs m d k.1.0, k.1.1))

pub large_breaks : (c : Ctx) (m : Measured) (d : Fn) (f : Fault) → LargeBreaks c m d f → In (large_faults c m d) f
large_breaks c m d f h = two_in (none_of (def_faults c d)) (is_large c.sigs m d) (large d.name.pos) f (none_in (def_faults c d) (λ g w. h.0 g (def_broken c d g w))) (is_large_of c.sigs m d h.1.0) h.1.1

any_broken : (sigs : List Sig) (m : Measured) (k : ℕ) (ds : List Fn) (f : Fault) → In (faults_from sigs m k ds) f → AnyBreaks sigs m k ds f
any_broken sigs m k [] f h = h
any_broken sigs m k (d ∷ ds) f h = let c : Ctx = record { sigs = sigs; here = k } in
    ⊎_elim (λ w. inl (⊎_elim (λ v. inl (def_broken c d f v)) (λ v. inr (large_broken c m d f v)) (in_cases (def_faults c d) (large_faults c m d) f w))) (λ w. inr (any_broken sigs (measured_with sigs m d) (k + 1) ds f w))
    (in_cases (def_faults c d ++ large_faults c m d) (faults_from sigs (measured_with sigs m d) (k + 1) ds) f h)

any_breaks : (sigs : List Sig) (m : Measured) (k : ℕ) (ds : List Fn) (f : Fault) → AnyBreaks sigs m k ds f → In (faults_from sigs m k ds) f
any_breaks sigs m k [] f h = h
any_breaks sigs m k (d ∷ ds) f h = let c : Ctx = record { sigs = sigs; here = k } in
    ⊎_elim (λ w. in_left (def_faults c d ++ large_faults c m d) _ f (⊎_elim (λ v. in_left (def_faults c d) _ f (def_breaks c d f v)) (λ v. in_right (def_faults c d) _ f (large_breaks c m d f v)) w))
    (λ w. in_right (def_faults c d ++ large_faults c m d) _ f (any_breaks sigs (measured_with sigs m d) (k + 1) ds f w)) h

pub script_broken : (ds : List Fn) (f : Fault) → In (script_faults ds) f → ScriptBreaks ds f
script_broken ds f h = any_broken (sigs_from 0 ds) unmeasured 0 ds f h

pub script_breaks : (ds : List Fn) (f : Fault) → ScriptBreaks ds f → In (script_faults ds) f
script_breaks ds f h = any_breaks (sigs_from 0 ds) unmeasured 0 ds f h

pub nothing_broken : (s : Script) → NoFaults s → NothingBroken (script_of s)
nothing_broken s h f w = h f (script_breaks (script_of s) f w)

pub first_broken : (s : Script) (f : Fault) → IsLeast s f → IsFirstBroken s f
first_broken s f h = (script_broken (script_of s) f h.0, λ g w. h.1 g (script_breaks (script_of s) g w))
