-- Steps that leave the frames alone, the masking state inside frames, and an exception at its handler.
use Rattle.std.proofs.Common.{◌≡◌, List, [], ◌∷◌, ◌++◌, Option, Some, refl, ap, ◌∙◌, sym}
use Rattle.hs_base.specs.Masks.{join_of}
use Rattle.hs_base.specs.declared.exn.Exn.{Exn}
use Rattle.hs_base.specs.declared.mask.Mask.{Mask}
use Rattle.hs_base.specs.declared.mask.Mask.TheVariants.{Masked}
use Rattle.hs_base.specs.declared.value.Value.{Value}
use Rattle.hs_base.specs.declared.value.Value.TheVariants as raw
use Rattle.rules_meaning.specs.Values.{Exception, values_of}
use Rattle.rules_code.specs.declared.act.ActId.{ActId}
use Rattle.rules_code.specs.declared.code.CodeBody.{CodeBody}
use Rattle.hs_eval.proofs.Cases.{value_of-Exn}
use Rattle.local_steps.specs.declared.active.Active.TheVariants as a
use Rattle.local_steps.specs.declared.active.Frame.{Frame}
use Rattle.local_steps.specs.declared.active.Frame.TheVariants as f
use Rattle.local_steps.specs.declared.active.StepResult.{StepResult}
use Rattle.local_steps.specs.declared.active.StepResult.TheVariants as n
use Rattle.local_steps.specs.Frames.{mask_inside, masking}
use Rattle.local_steps.specs.Machine.{act_of, frames_of, next_of, alone_of}
use Rattle.slot_laws.specs.SlotRules.{SlotTerm, at, doing, mask_in, mask_from, throw_step, on_top}
use Rattle.slot_laws.proofs.ActNodes.{values_push}

-- a step that leaves the frames alone
pub alone_next : (b : CodeBody) (n : StepResult) (fs : List Frame) (o : Option SlotTerm) → alone_of b n ≡ o → next_of b n fs ≡ on_top (frames_of b fs) o
alone_next b (n.To p) fs o e = ap (on_top (frames_of b fs)) e
alone_next b n.Stuck fs o e = ap (on_top (frames_of b fs)) e

-- frames and what they stand for have the same masking state inside
pub masks_inside : (b : CodeBody) (s : Mask) (fs : List Frame) → mask_inside s fs ≡ mask_from s (frames_of b fs)
masks_inside b s [] = refl
masks_inside b s (f.Bind i w ∷ fs) = masks_inside b s fs
masks_inside b s (f.Then i vs ∷ fs) = masks_inside b s fs
masks_inside b s (f.Catch i w ∷ fs) = masks_inside b s fs
masks_inside b s (f.Mask m ∷ fs) = refl

-- an exception directly inside a handler
pub handler_next : (b : CodeBody) (s : Mask) (e : Exn) (old fs new : List Frame) (i : ActId) (ws vs : List Value) → old ≡ f.Catch i ws ∷ fs
    → new ≡ f.Mask (masking (join_of Masked (mask_inside s fs)) (mask_inside s fs)) ∷ fs → vs ≡ ws ++ raw.Exn e ∷ []
    → next_of b (n.To (a.Doing i vs)) new ≡ throw_step s e (frames_of b old)
handler_next b s e old fs new i ws vs eo en ev =
    ap (λ z. next_of b (n.To (a.Doing i z)) new) ev ∙ (ap (next_of b (n.To (a.Doing i (ws ++ raw.Exn e ∷ [])))) en
    ∙ (ap (λ us. Some (at (doing (act_of b i) us) (mask_in (join_of Masked (mask_inside s fs)) ∷ frames_of b fs))) (values_push ws (raw.Exn e) ∙ ap (λ u. values_of ws ++ u ∷ []) (value_of-Exn e))
    ∙ (ap (λ m. Some (at (doing (act_of b i) (values_of ws ++ Exception e ∷ [])) (mask_in (join_of Masked m) ∷ frames_of b fs))) (masks_inside b s fs)
    ∙ ap (λ z. throw_step s e (frames_of b z)) (sym eo))))
