-- What operations, exceptions and ends do to a term that is held.
use Rattle.std.proofs.Common.{◌≡◌, ℕ, List, [], ◌∷◌, refl}
use Rattle.hs_base.specs.declared.exn.Exn.{Exn}
use Rattle.rules_expansion.specs.Names.{Name}
use Rattle.rules_meaning.specs.Values.{V, UnitValue, Inst, Env}
use Rattle.rules_expansion.specs.Core.{Core}
use Rattle.rules_expansion.specs.declared.primitive.Primitive.TheVariants.{Acquired, Release}
use Rattle.hs_rules.specs.Terms.{Operation, Calls, Forks, ForksUnmask, Part, Ret, Throw, Performs, Frame, mask_at}
use Rattle.hs_laws.specs.BracketLaw.{IsMasked}
use Rattle.hs_laws.specs.BracketPhases.{Fine, fine_return, fine_bind}
use Rattle.hs_laws.specs.BracketPhases.{FineOp, Below, no_frames, below_bind, below_throw, Held, held_ret, held_throw, held_do, held_op, held_masked, held_number, held_acquire, held_acquired, held_instance, held_keep, held_guarded, held_result, held_leave, held_leave_release, held_leave_op, held_handle, held_handle_release, held_handle_op, held_then_throw, held_last, held_thrown, held_passing}

pub below_of_op : {op : Operation} {fs : List Frame} {o : List ℕ} → FineOp op → Held (Performs op) fs o → Below fs o
below_of_op k (held_op f r) = r
below_of_op k _ = absurd k

pub instance_kept : {vs : List V} {fs : List Frame} {o : List ℕ} (i : ℕ) → Held (Performs (Calls Acquired vs)) fs o → Held (Ret (Inst i)) fs (i ∷ o)
instance_kept i (held_op f r) = absurd f
instance_kept i (held_acquired f g m r) = held_instance f g m r

pub release_kept : {i : ℕ} {vs : List V} {fs : List Frame} {o : List ℕ} → Held (Performs (Calls Release (Inst i ∷ vs))) fs o → (rest : List ℕ) × (o ≡ i ∷ rest) × Held (Ret UnitValue) fs rest
release_kept (held_op f r) = absurd f
release_kept (held_leave_op {o = o} f m r) = (o, refl, held_ret (below_bind tt (fine_bind tt f fine_return) r))
release_kept (held_handle_op {o = o} f m w r) = (o, refl, held_ret (below_throw f w r))

-- where the state is Unmasked nothing is lost
pub open_kept : {p : Part} {fs : List Frame} {o : List ℕ} (e : Exn) → (IsMasked (mask_at fs) → ⊥) → Held p fs o → Held (Throw e) fs o
open_kept e n (held_ret r) = held_throw r
open_kept e n (held_throw r) = held_throw r
open_kept e n (held_do f r) = held_throw r
open_kept e n (held_op f r) = held_throw r
open_kept e n (held_masked c f g h m r) = absurd (n m)
open_kept e n (held_number f g m r) = absurd (n m)
open_kept e n (held_acquire f g m r) = absurd (n m)
open_kept e n (held_acquired f g m r) = absurd (n m)
open_kept e n (held_instance f g m r) = absurd (n m)
open_kept e n (held_keep at f g m r) = absurd (n m)
open_kept e n (held_guarded at f g m r) = absurd (n m)
open_kept e n (held_result at f m r) = absurd (n m)
open_kept e n (held_leave at f m r) = absurd (n m)
open_kept e n (held_leave_release at f m r) = absurd (n m)
open_kept e n (held_leave_op f m r) = absurd (n m)
open_kept e n (held_handle at f m w r) = absurd (n m)
open_kept e n (held_handle_release at f m w r) = absurd (n m)
open_kept e n (held_handle_op f m w r) = absurd (n m)
open_kept e n (held_then_throw f w r) = held_thrown w r
open_kept e n (held_last w r) = held_thrown w r
open_kept e n (held_thrown w r) = held_thrown w r
open_kept e n (held_passing w r) = held_passing w r

nothing_below : {o : List ℕ} → Below [] o → o ≡ []
nothing_below no_frames = refl

pub ret_owes_nothing : {v : V} {o : List ℕ} → Held (Ret v) [] o → o ≡ []
ret_owes_nothing (held_ret r) = nothing_below r

pub throw_owes_nothing : {e : Exn} {o : List ℕ} → Held (Throw e) [] o → o ≡ []
throw_owes_nothing (held_throw r) = nothing_below r

pub fork_fine : {a : Core} {env : Env} {fs : List Frame} {o : List ℕ} → Held (Performs (Forks a env)) fs o → Fine a
fork_fine (held_op f r) = f

pub fork_unmask_fine : {x : Name} {a : Core} {env : Env} {fs : List Frame} {o : List ℕ} → Held (Performs (ForksUnmask x a env)) fs o → Fine a
fork_unmask_fine (held_op f r) = f
