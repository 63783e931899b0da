use Rattle.std.proofs.Common.{◌≡◌, ◌++◌, Some, ap, sym, ◌∙◌, subst}
use Rattle.hs_base.specs.declared.mask.Mask.TheVariants.{Unmasked}
use Rattle.slot_laws.specs.SlotRules.{locals}
use Rattle.local_steps.specs.Frames.{Framed}
use Rattle.local_steps.specs.Machine.{funs_of}
use Rattle.frame_stack.specs.Parts.{Stacked, stacked, term_of}
use Rattle.frame_stack.proofs.Terms.{slice_fits}
use Rattle.frame_stack.proofs.stack.Stack.accept.Goals as goal

pub returns-in-Ok-clause-moves : goal.returns-in-Ok-clause-moves
returns-in-Ok-clause-moves c =
    let s = c.args.slice in
    let b = s.of.value in
    let old = c.args.self.now in
    let start : stacked s.start old.frames ≡ old = ap (λ p. stacked p old.frames) c.requires.start in
    let end : stacked s.end (s.pushed.list ++ old.frames) ≡ c.put.new.self =
    sym (c.put.ensures ∙ (ap (λ (z : Framed). stacked s.end z.list) (c.in-Ok.ensures {u = tt}).ok ∙ ap (λ (z : Stacked). stacked s.end (s.pushed.list ++ z.frames)) c.self.view_is)) in
    subst (λ (z : Stacked × Stacked). ∥ locals (funs_of b) Unmasked s.steps (term_of b z.0) ≡ Some (term_of b z.1) ∥₁) (λ i. (start i, end i))
    (slice_fits b s.mask s.steps s.start s.end s.pushed.list old.frames c.requires.mask s.moves)
