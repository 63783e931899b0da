-- A part that stands for a named term, and doesn't stop, goes on and stands again.
use Rattle.std.proofs.Common.{◌≡◌, ℕ, ◌+◌, List, [], ◌∷◌, ◌++◌, Option, Some, None, refl, ap, ◌∙◌, sym}
use Rattle.std.proofs.Math.Logic.{∥∥₁_elim, ∥∥₁_prop, ∥∥₁_map}
use Rattle.hs_base.specs.declared.exn.Exn.{Exn}
use Rattle.hs_base.specs.declared.mask.Mask.{Mask}
use Rattle.hs_base.specs.declared.mask.Mask.TheVariants.{Unmasked}
use Rattle.rules_expansion.specs.trees.Trees.{T}
use Rattle.rules_expansion.specs.trees.Programs.{Fn, script_of}
use Rattle.rules_expansion.specs.declared.primitive.Primitive.{Primitive}
use Rattle.rules_meaning.specs.Values.{V, values_of}
use Rattle.rules_meaning.specs.CoreMeaning.{code_of}
use Rattle.rules_sorts.specs.Sorts.{Sort}
use Rattle.rules_sorts.specs.TypedMeaning.{any_cell}
use Rattle.rules_code.specs.declared.code.CodeBody.{CodeBody}
use Rattle.rules_code.specs.CodeTrees.{StandsFor, code_trees}
use Rattle.hs_rules.specs.Terms as named
use Rattle.hs_rules.specs.LocalRules as name
use Rattle.hs_progress.specs.TypedStates.{HeadsKept}
use Rattle.hs_progress.proofs.Heads.{heads_kept}
use Rattle.slot_laws.specs.SlotRules as slot
use Rattle.slot_laws.specs.SlotRules.{SlotPart, SlotFrame, SlotTerm, at, mask_in, doing, performs, calls, local, locals, ret_step, throw_step}
use Rattle.slot_laws.specs.Standing.{PartStands, op_stands, calls_stands, StepsTo}
use Rattle.slot_laws.proofs.SlotFraming.{framed_one, one_after, stuck_more}
use Rattle.slot_laws.proofs.Simulation.{same_rule, does_go, moved}
use Rattle.local_steps.specs.declared.active.Active.{Active}
use Rattle.local_steps.specs.declared.active.Active.TheVariants as a
use Rattle.local_steps.specs.declared.active.Frame.{Frame}
use Rattle.local_steps.specs.Machine.{active_of, frame_of, frames_of, funs_of}
use Rattle.frame_stack.specs.declared.control.Control.{Control}
use Rattle.frame_stack.specs.declared.control.Control.TheVariants as c
use Rattle.frame_stack.specs.Parts.{part_of}
use Rattle.frame_stack.specs.Slicing.{Fits, IsDoing, MayGo, Stops, Unfit}

-- ---- no rule

pub no_frames : (b : CodeBody) (fs : List Frame) → frames_of b fs ≡ [] → fs ≡ []
no_frames b [] e = refl
no_frames b (f ∷ fs) e = absurd (let z : frame_of b f ∷ frames_of b fs ≡ [] = e in cc z)

pub ret_none : (u : V) (ss : List SlotFrame) → ret_step u ss ≡ None → ss ≡ []
ret_none u [] e = refl
ret_none u (f ∷ ss) e = absurd (by f e)
  where
    by : (f : SlotFrame) → ret_step u (f ∷ ss) ≡ None → ⊥
    by (slot.bind_to a vs) d = cc d
    by (slot.then_to a vs) d = cc d
    by (slot.catch_by a vs) d = cc d
    by (slot.mask_in m) d = cc d

pub throw_none : (s : Mask) (e : Exn) (ss : List SlotFrame) → throw_step s e ss ≡ None → ss ≡ []
throw_none s e [] d = refl
throw_none s e (f ∷ ss) d = absurd (by f d)
  where
    by : (f : SlotFrame) → throw_step s e (f ∷ ss) ≡ None → ⊥
    by (slot.bind_to a vs) h = cc h
    by (slot.then_to a vs) h = cc h
    by (slot.catch_by a vs) h = cc h
    by (slot.mask_in m) h = cc h

no_step : (cells : ℕ → T → Type 0) (ds : List Fn) (o : Option SlotTerm) (r : Option named.Term) → o ≡ None → StepsTo cells ds o r → ⊥
no_step cells ds None None e h = h
no_step cells ds None (Some t) e h = h
no_step cells ds (Some s) r e h = let z : Some s ≡ None = e in cc z

-- ---- steps

module _ (b : CodeBody) (stands : StandsFor b.nodes b.acts b.funs b.main b.of.value) (heads : HeadsKept (script_of b.of.value)) where
  goes_on : (m : Mask) (p : SlotPart) (fs : List Frame) → MayGo b m p (frames_of b fs) → (Stops p fs → ⊥) → local (funs_of b) m p (frames_of b fs) ≡ None → ⊥
  goes_on m (doing tree vs) fs may go e =
      no_step any_cell (script_of b.of.value) _ _
      (ap (λ z. local z Unmasked (doing tree vs) (frames_of b fs ++ mask_in m ∷ [])) (sym stands.functions) ∙ stuck_more (funs_of b) Unmasked (mask_in m ∷ []) tree vs (frames_of b fs) e)
      (does_go any_cell b.of.value stands.accepted heads tree vs (frames_of b fs ++ mask_in m ∷ []) may.0 may.1)
  goes_on m (slot.ret v) fs may go e = go (no_frames b fs (ret_none v (frames_of b fs) e))
  goes_on m (slot.throw x) fs may go e = go (no_frames b fs (throw_none m x (frames_of b fs) e))
  goes_on m (performs o) fs may go e = go tt

  stands_again : (m : Mask) (p q : SlotPart) (fs gs : List SlotFrame) → MayGo b m p fs → local (funs_of b) m p fs ≡ Some (at q gs) → MayGo b m q gs
  stands_again m p q fs gs may e =
      let f = framed_one (funs_of b) Unmasked (mask_in m ∷ []) p fs (at q gs) e in
      let h = same_rule any_cell b.of.value stands.accepted heads (at p (fs ++ mask_in m ∷ [])) may.0 may.1 in
      let w = moved any_cell b.of.value stands.accepted heads (local (code_trees (script_of b.of.value)) Unmasked p (fs ++ mask_in m ∷ [])) (name.local (code_of (script_of b.of.value)) may.0.part may.0.frames)
      (at q (gs ++ mask_in m ∷ [])) (ap (λ z. local z Unmasked p (fs ++ mask_in m ∷ [])) (sym stands.functions) ∙ f) h in
      (w.0, w.2)

pub never_stuck : (b : CodeBody) (m : Mask) (p : SlotPart) (fs : List Frame) → ∥ MayGo b m p (frames_of b fs) ∥₁ → (Stops p fs → ⊥) → local (funs_of b) m p (frames_of b fs) ≡ None → ⊥
never_stuck b m p fs may go e =
    ∥∥₁_elim b.stands (λ x y. absurd x) (λ s. ∥∥₁_elim may (λ x y. absurd x) (λ w. goes_on b s (heads_kept b.of.value s.accepted) m p fs w go e))

pub may_again : (b : CodeBody) (m : Mask) (p q : SlotPart) (fs gs : List SlotFrame) → ∥ MayGo b m p fs ∥₁ → local (funs_of b) m p fs ≡ Some (at q gs) → ∥ MayGo b m q gs ∥₁
may_again b m p q fs gs may e =
    ∥∥₁_elim b.stands ∥∥₁_prop (λ s. ∥∥₁_map may (λ w. stands_again b s (heads_kept b.of.value s.accepted) m p q fs gs w e))

-- some rules and one more, which was done in frames with the same masking state below them
pub one_further : (b : CodeBody) (m below : Mask) (k : ℕ) (start p q : SlotPart) (fs gs : List SlotFrame) → below ≡ m → locals (funs_of b) m k (at start []) ≡ Some (at p fs) → local (funs_of b) below p fs ≡ Some (at q gs)
    → locals (funs_of b) m (k + 1) (at start []) ≡ Some (at q gs)
one_further b m below k start p q fs gs is h e = one_after (funs_of b) m k (k + 1) (at start []) (at p fs) (at q gs) refl h (ap (λ s. local (funs_of b) s p fs) (sym is) ∙ e)

-- ---- the values of a primitive

asks_fit : {ds : List Fn} {x : named.Part} {k : Sort} (p : Primitive) (vs : List V) → PartStands any_cell ds (performs (calls p vs)) x k → Unfit p vs → ⊥
asks_fit p vs (op_stands (calls_stands {ks} {k} q h)) u = u ks k q h

pub part_fits : (b : CodeBody) (p : Active) {x : named.Part} {k : Sort} → PartStands any_cell (script_of b.of.value) (active_of b p) x k → Fits p
part_fits b (a.Asks p vs) h = asks_fit p (values_of vs) h
part_fits b (a.Doing i vs) h = tt
part_fits b (a.Ret v) h = tt
part_fits b (a.Throw e) h = tt
part_fits b (a.Forks i vs) h = tt
part_fits b (a.ForksUnmask i vs) h = tt

pub fits_prop : (p : Active) (f g : Fits p) → f ≡ g
fits_prop (a.Asks p vs) f g = λ i u. (let e : f u ≡ g u = absurd (f u) in e) i
fits_prop (a.Doing i vs) f g = refl
fits_prop (a.Ret v) f g = refl
fits_prop (a.Throw e) f g = refl
fits_prop (a.Forks i vs) f g = refl
fits_prop (a.ForksUnmask i vs) f g = refl

-- where a part stands for a named one, a primitive has values of its types
pub fits : (b : CodeBody) (m : Mask) (p : Active) (fs : List SlotFrame) → ∥ MayGo b m (active_of b p) fs ∥₁ → Fits p
fits b m p fs may = ∥∥₁_elim may (fits_prop p) (λ w. part_fits b p w.1.part)

-- ---- a job's start

pub is_doing : (p : Control) → ∥ IsDoing p ∥₁ → IsDoing p
is_doing (c.Doing i vs) h = tt
is_doing (c.Ret v) h = ∥∥₁_elim h (λ x y. absurd x) (λ z. z)
is_doing (c.Throw e) h = ∥∥₁_elim h (λ x y. absurd x) (λ z. z)
is_doing (c.Op o) h = ∥∥₁_elim h (λ x y. absurd x) (λ z. z)

-- what is to do something doesn't stop
pub doing_goes : (b : CodeBody) (p : Control) (fs : List Frame) → ∥ IsDoing p ∥₁ → Stops (part_of b p) fs → ⊥
doing_goes b (c.Doing i vs) fs h s = s
doing_goes b (c.Ret v) fs h s = ∥∥₁_elim h (λ x y. absurd x) (λ z. z)
doing_goes b (c.Throw e) fs h s = ∥∥₁_elim h (λ x y. absurd x) (λ z. z)
doing_goes b (c.Op o) fs h s = ∥∥₁_elim h (λ x y. absurd x) (λ z. z)
