-- A held term owes what its facts say, and what owes stands masked.
use Rattle.std.proofs.Common.{◌≡◌, ◌≢◌, ℕ, List, [], ◌∷◌, ◌++◌, Option, Some, refl, ap, ◌∙◌}
use Rattle.rules_expansion.specs.Names.{Name, Added}
use Rattle.rules_expansion.specs.declared.hidden.Hidden.TheVariants.{Instance, BracketResult, BracketFault}
use Rattle.rules_meaning.specs.Values.{V, Inst, Env, value_at}
use Rattle.rules_expansion.specs.Core.{Core}
use Rattle.rules_expansion.specs.declared.primitive.Primitive.{Primitive}
use Rattle.rules_expansion.specs.declared.primitive.Primitive.TheVariants.{Release}
use Rattle.hs_rules.specs.Terms.{Operation, Calls, Forks, ForksUnmask, Part, Frame, mask_at}
use Rattle.hs_laws.specs.BracketLaw.{instance_of, owed_word, owed_start, owed_bind, owed_catch, owed_do, owed_to, owed_ret, owed_op, owed_here, owed_frames, owed, IsMasked, MaskedCatches}
use Rattle.hs_laws.specs.BracketPhases.{IsCommon, IsOrdinary, Fine, fine_bind, fine_primitive, fine_catch}
use Rattle.hs_laws.specs.BracketPhases.{FineOp, Below, no_frames, below_bind, below_catch, below_mask, below_number, below_guarded, below_throw, below_last, Held, held_ret, held_throw, held_do, held_op, held_masked, held_number, held_acquire, held_acquired, held_instance, held_keep, held_guarded, held_result, held_leave, held_leave_release, held_leave_op, held_handle, held_handle_release, held_handle_op, held_then_throw, held_last, held_thrown, held_passing}

common_catch : (x : Name) (env : Env) → IsCommon x → owed_catch x env ≡ []
common_catch (Added Instance) env c = absurd c
common_catch (Added BracketResult) env c = absurd c
common_catch (Added BracketFault) env c = absurd c
common_catch _ env c = refl

common_to : (x : Name) (v : V) (env : Env) → IsCommon x → owed_to x v env ≡ []
common_to (Added Instance) v env c = absurd c
common_to (Added BracketResult) v env c = absurd c
common_to (Added BracketFault) v env c = absurd c
common_to _ v env c = refl

common_bind : (x : Name) (a : Core) (env : Env) → IsCommon x → owed_bind x a env ≡ owed_start a env
common_bind (Added Instance) a env c = absurd c
common_bind (Added BracketResult) a env c = absurd c
common_bind (Added BracketFault) a env c = absurd c
common_bind _ a env c = refl

written_word : (w : Primitive) (env : Env) → IsOrdinary w → owed_word w env ≡ []
written_word Release env h = absurd h
written_word _ env h = refl

written_op : (w : Primitive) (vs : List V) → IsOrdinary w → owed_op (Calls w vs) ≡ []
written_op Release vs h = absurd h
written_op _ vs h = refl

fine_op : (op : Operation) → FineOp op → owed_op op ≡ []
fine_op (Calls w vs) h = written_op w vs h
fine_op (Forks a env) h = refl
fine_op (ForksUnmask r a env) h = refl

fine_start : {a : Core} (env : Env) → Fine a → owed_start a env ≡ []
fine_start env (fine_primitive {w} h) = written_word w env h
fine_start env _ = refl

fine_do : {a : Core} (env : Env) → Fine a → owed_do a env ≡ []
fine_do env (fine_bind {x} {a} c f g) = common_bind x a env c ∙ fine_start env f
fine_do env (fine_primitive {w} h) = written_word w env h
fine_do env (fine_catch {x} c f g) = common_catch x env c
fine_do env _ = refl

-- ---- frames
pub below_owes : {fs : List Frame} {o : List ℕ} → Below fs o → owed_frames fs ≡ o
below_owes no_frames = refl
below_owes (below_bind c f r) = below_owes r
below_owes (below_catch {x} {b} {env} {fs} c f r) = ap (λ z. z ++ owed_frames fs) (common_catch x env c) ∙ below_owes r
below_owes (below_mask r) = below_owes r
below_owes (below_number c f g m r) = below_owes r
below_owes (below_guarded {b} {i} {env} {fs} at f m r) = ap (λ z. instance_of z ++ owed_frames fs) at ∙ ap (λ z. i ∷ z) (below_owes r)
below_owes (below_throw f w r) = below_owes r
below_owes (below_last w r) = below_owes r

pub below_masked : {fs : List Frame} {o : List ℕ} → Below fs o → MaskedCatches fs
below_masked no_frames = tt
below_masked (below_bind c f r) = below_masked r
below_masked (below_catch {x} {b} {env} c f r) = (λ n. absurd (n (common_catch x env c)), below_masked r)
below_masked (below_mask r) = below_masked r
below_masked (below_number c f g m r) = below_masked r
below_masked (below_guarded at f m r) = (λ n. m, below_masked r)
below_masked (below_throw f w r) = below_masked r
below_masked (below_last w r) = below_masked r

-- a value that comes to frames that may get any value
ret_below : {fs : List Frame} {o : List ℕ} (v : V) → Below fs o → owed_ret v fs ≡ []
ret_below v (below_bind {x} {b} {env} c f r) = common_to x v env c
ret_below v (below_number {x} {b} {c} {env} k f g m r) = common_to x v env k
ret_below v _ = refl

-- nothing here, and the frames' debts
none_here : {fs : List Frame} {o : List ℕ} (here : List ℕ) → here ≡ [] → Below fs o → here ++ owed_frames fs ≡ o
none_here {fs} here e r = ap (λ z. z ++ owed_frames fs) e ∙ below_owes r

one_here : {fs : List Frame} {o : List ℕ} {i : ℕ} (v : Option V) → v ≡ Some (Inst i) → Below fs o → instance_of v ++ owed_frames fs ≡ i ∷ o
one_here {fs} {o} {i} v e r = ap (λ z. instance_of z ++ owed_frames fs) e ∙ ap (λ z. i ∷ z) (below_owes r)

pub held_owes : {p : Part} {fs : List Frame} {o : List ℕ} → Held p fs o → owed p fs ≡ o
held_owes (held_ret {v} {fs} r) = none_here (owed_ret v fs) (ret_below v r) r
held_owes (held_throw r) = below_owes r
held_owes (held_do {a} {env} f r) = none_here (owed_do a env) (fine_do env f) r
held_owes (held_op {op} f r) = none_here (owed_op op) (fine_op op f) r
held_owes (held_masked {x} {a} {b} {c} {env} k f g h m r) = none_here (owed_bind x a env) (common_bind x a env k ∙ fine_start env f) r
held_owes (held_number f g m r) = below_owes r
held_owes (held_acquire f g m r) = below_owes r
held_owes (held_acquired f g m r) = below_owes r
held_owes (held_instance {i = i} f g m r) = ap (λ z. i ∷ z) (below_owes r)
held_owes (held_keep {env = env} at f g m r) = one_here (value_at (Added Instance) env) at r
held_owes (held_guarded {env = env} at f g m r) = one_here (value_at (Added Instance) env) at r
held_owes (held_result {env = env} at f m r) = one_here (value_at (Added Instance) env) at r
held_owes (held_leave {env = env} at f m r) = one_here (value_at (Added Instance) env) at r
held_owes (held_leave_release {env = env} at f m r) = one_here (value_at (Added Instance) env) at r
held_owes (held_leave_op {i = i} f m r) = ap (λ z. i ∷ z) (below_owes r)
held_owes (held_handle {env = env} at f m w r) = one_here (value_at (Added Instance) env) at r
held_owes (held_handle_release {env = env} at f m w r) = one_here (value_at (Added Instance) env) at r
held_owes (held_handle_op {i = i} f m w r) = ap (λ z. i ∷ z) (below_owes r)
held_owes (held_then_throw {b} {b'} {env} f w r) = none_here (owed_start b env) (fine_start env f) r
held_owes (held_last w r) = below_owes r
held_owes (held_thrown w r) = below_owes r
held_owes (held_passing w r) = below_owes r

pub held_here : {p : Part} {fs : List Frame} {o : List ℕ} → Held p fs o → owed_here p fs ≢ [] → IsMasked (mask_at fs)
held_here (held_ret {v} r) n = absurd (n (ret_below v r))
held_here (held_do {a} {env} f r) n = absurd (n (fine_do env f))
held_here (held_op {op} f r) n = absurd (n (fine_op op f))
held_here (held_masked k f g h m r) n = m
held_here (held_number f g m r) n = m
held_here (held_acquire f g m r) n = m
held_here (held_acquired f g m r) n = m
held_here (held_instance f g m r) n = m
held_here (held_keep at f g m r) n = m
held_here (held_guarded at f g m r) n = m
held_here (held_result at f m r) n = m
held_here (held_leave at f m r) n = m
held_here (held_leave_release at f m r) n = m
held_here (held_leave_op f m r) n = m
held_here (held_handle at f m w r) n = m
held_here (held_handle_release at f m w r) n = m
held_here (held_handle_op f m w r) n = m
held_here (held_then_throw {b} {b'} {env} f w r) n = absurd (n (fine_start env f))
held_here _ n = absurd (n refl)

pub held_catches : {p : Part} {fs : List Frame} {o : List ℕ} → Held p fs o → MaskedCatches fs
held_catches (held_ret r) = below_masked r
held_catches (held_throw r) = below_masked r
held_catches (held_do f r) = below_masked r
held_catches (held_op f r) = below_masked r
held_catches (held_masked k f g h m r) = below_masked r
held_catches (held_number f g m r) = below_masked r
held_catches (held_acquire f g m r) = below_masked r
held_catches (held_acquired f g m r) = below_masked r
held_catches (held_instance f g m r) = below_masked r
held_catches (held_keep at f g m r) = below_masked r
held_catches (held_guarded at f g m r) = below_masked r
held_catches (held_result at f m r) = below_masked r
held_catches (held_leave at f m r) = below_masked r
held_catches (held_leave_release at f m r) = below_masked r
held_catches (held_leave_op f m r) = below_masked r
held_catches (held_handle at f m w r) = below_masked r
held_catches (held_handle_release at f m w r) = below_masked r
held_catches (held_handle_op f m w r) = below_masked r
held_catches (held_then_throw f w r) = below_masked r
held_catches (held_last w r) = below_masked r
held_catches (held_thrown w r) = below_masked r
held_catches (held_passing w r) = below_masked r
