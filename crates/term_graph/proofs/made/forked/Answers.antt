use Rattle.std.proofs.Common.{◌≡◌, [], ◌∷◌, Some, ap, ◌∙◌}
use Rattle.std.proofs.lemmas.Result.{IfOk-weaker}
use Rattle.hs_base.specs.declared.mask.Mask.TheVariants.{Unmasked}
use Rattle.slot_laws.specs.SlotRules.{at, mask_in, mask_from}
use Rattle.local_steps.specs.Machine.{active_of}
use Rattle.local_steps.proofs.Codes.{masks_inside}
use Rattle.term_graph.proofs.Growth.{in_stack}
use Rattle.term_graph.proofs.made.forked.Goals as goal

-- src/made.rt
pub returns-clause-is : goal.returns-clause-is
returns-clause-is c =
    IfOk-weaker c.number.result _ _ (λ n is b st h.
    let s = c.stack_of.ensures.is b st h in
    let m : c.mask-inside.result ≡ mask_from Unmasked st.frames = c.mask-inside.ensures s.0 s.1 ∙ masks_inside b Unmasked s.0 ∙ ap (mask_from Unmasked) s.2 in
    let p = c.in_ok-stack.ensures.is b [] c.bare-bare.ensures in
    in_stack c.push.new.self c.number.new.self b n c.in_ok-stack.stack (active_of b c.args.part) (mask_in c.mask-inside.result ∷ []) p (is b)
    ∙ ap (λ z. Some (at (active_of b c.args.part) (mask_in z ∷ []))) m)
    c.number.ensures.is
