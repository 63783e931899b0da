-- The stack of `main` stands for a term of its script, and so does what a slice makes of it.
use Rattle.std.proofs.Common.{◌≡◌, ℕ, List, [], ◌∷◌, Some, None, refl, ap, sym, subst, ◌∙◌}
use Rattle.std.proofs.Math.Logic.{∥∥₁_map, ∥∥₁_elim, ∥∥₁_prop}
use Rattle.hs_base.specs.declared.mask.Mask.{Mask}
use Rattle.hs_base.specs.declared.mask.Mask.TheVariants.{Unmasked}
use Rattle.hs_base.specs.declared.value.Value.{Value}
use Rattle.rules_expansion.specs.trees.Trees.{unit}
use Rattle.rules_expansion.specs.trees.Programs.{script_of}
use Rattle.rules_meaning.specs.Values.{values_of}
use Rattle.rules_sorts.specs.Sorts.{a_value}
use Rattle.rules_code.specs.declared.act.ActId.{ActId}
use Rattle.rules_code.specs.declared.code.CodeBody.{CodeBody}
use Rattle.rules_code.specs.CodeTrees.{StandsFor}
use Rattle.hs_rules.specs.Terms.{Do, MaskIn, term}
use Rattle.slot_laws.specs.SlotRules.{doing, mask_in, at, locals}
use Rattle.slot_laws.specs.Standing.{cells_of, Stands, do_stands, none_stand, mask_stands}
use Rattle.slot_laws.proofs.Heads.{main_reads, action_goes}
use Rattle.local_steps.specs.declared.active.Frame.{Frame}
use Rattle.local_steps.specs.declared.active.Frame.TheVariants as f
use Rattle.local_steps.specs.Frames.{masking}
use Rattle.local_steps.specs.Machine.{act_of, frames_of, funs_of}
use Rattle.frame_stack.specs.declared.control.Control.{Control}
use Rattle.frame_stack.specs.declared.control.Control.TheVariants as c
use Rattle.frame_stack.specs.Parts.{Stacked, stacked, term_of, part_of}
use Rattle.frame_stack.specs.Slicing.{MayGo}
use Rattle.frame_stack.proofs.Terms.{moves_as_term}
use Rattle.stack_rows.specs.Threads.{IsThread}

bare : (b : CodeBody) → StandsFor b.nodes b.acts b.funs b.main b.of.value → IsThread b (stacked (c.Doing b.main []) [])
bare b w =
    let r = main_reads b.of.value w.accepted in (
      term (Do r.0 []) [],
      subst (λ z. Stands (cells_of None) (script_of b.of.value) (at (doing z []) []) (term (Do r.0 []) [])) (sym w.main_is) (record { sort = a_value unit; part = do_stands (r.2 (cells_of None)); frames = none_stand }),
    )

in_scope : (b : CodeBody) (m : Mask) → StandsFor b.nodes b.acts b.funs b.main b.of.value → IsThread b (stacked (c.Doing b.main []) (f.Mask (masking m Unmasked) ∷ []))
in_scope b m w =
    let r = main_reads b.of.value w.accepted in (
      term (Do r.0 []) (MaskIn m ∷ []),
      subst (λ z. Stands (cells_of None) (script_of b.of.value) (at (doing z []) (mask_in m ∷ [])) (term (Do r.0 []) (MaskIn m ∷ []))) (sym w.main_is)
          (record { sort = a_value unit; part = do_stands (r.2 (cells_of None)); frames = mask_stands none_stand }),
    )

-- `main` at its start, in no masking scope or in one
pub starts : (b d : CodeBody) (i : ActId) (vs : List Value) (s : Stacked) → d ≡ b → i ≡ b.main → vs ≡ [] → s ≡ stacked (c.Doing i vs) [] → ∥ IsThread d s ∥₁
starts b d i vs s same main none is =
    subst (λ z. ∥ IsThread z s ∥₁) (sym same)
    (subst (λ z. ∥ IsThread b z ∥₁) (sym (is ∙ ap (λ z. stacked (c.Doing z vs) []) main ∙ ap (λ z. stacked (c.Doing b.main z) []) none)) (∥∥₁_map b.stands (bare b)))

scoped : Mask → List Frame
scoped m = f.Mask (masking m Unmasked) ∷ []

pub starts_in_scope : (b d : CodeBody) (m : Mask) (i : ActId) (vs : List Value) (s : Stacked) → d ≡ b → i ≡ b.main → vs ≡ [] → s ≡ stacked (c.Doing i vs) (f.Mask (masking m Unmasked) ∷ []) → ∥ IsThread d s ∥₁
unfolding scoped
starts_in_scope b d m i vs s same main none is =
    subst (λ z. ∥ IsThread z s ∥₁) (sym same)
    (subst (λ z. ∥ IsThread b z ∥₁) (sym (is ∙ ap (λ z. stacked (c.Doing z vs) (scoped m)) main ∙ ap (λ z. stacked (c.Doing b.main z) (scoped m)) none)) (∥∥₁_map b.stands (in_scope b m)))

may_go : (b : CodeBody) (m : Mask) (i : ActId) (vs : List Value) (fs : List Frame) → ∥ IsThread b (stacked (c.Doing i vs) fs) ∥₁ → ∥ MayGo b m (part_of b (c.Doing i vs)) [] ∥₁
may_go b m i vs fs h = ∥∥₁_map h (λ w. action_goes None (script_of b.of.value) m (act_of b i) (values_of vs) (frames_of b fs) w.0 w.1)

-- an action of a thread may be done alone
pub goes_alone : (b d : CodeBody) (m : Mask) (s : Stacked) (i : ActId) (vs us : List Value) → d ≡ b → s.control ≡ c.Doing i vs → us ≡ vs → ∥ IsThread b s ∥₁
    → ∥ MayGo d m (part_of d (c.Doing i us)) [] ∥₁
goes_alone b d m s i vs us same does copied h =
    subst (λ z. ∥ MayGo z m (part_of z (c.Doing i us)) [] ∥₁) (sym same)
    (subst (λ z. ∥ MayGo b m (part_of b (c.Doing i z)) [] ∥₁) (sym copied) (may_go b m i vs s.frames (subst (λ z. ∥ IsThread b (stacked z s.frames) ∥₁) does h)))

-- a thread that went so many rules on is one still
pub goes_on : (b d : CodeBody) (k : ℕ) (s u : Stacked) → d ≡ b → ∥ IsThread b s ∥₁ → ∥ locals (funs_of d) Unmasked k (term_of d s) ≡ Some (term_of d u) ∥₁ → ∥ IsThread b u ∥₁
goes_on b d k s u same h moves =
    ∥∥₁_elim b.stands ∥∥₁_prop (λ w. ∥∥₁_elim h ∥∥₁_prop (λ t.
    ∥∥₁_map (subst (λ z. ∥ locals (funs_of z) Unmasked k (term_of z s) ≡ Some (term_of z u) ∥₁) same moves)
    (λ e. let found = moves_as_term None b w k s u t.0 t.1 e in (found.0, found.2))))
