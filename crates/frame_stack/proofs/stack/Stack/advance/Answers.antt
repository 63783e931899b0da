use Rattle.std.proofs.Common.{◌≡◌, Some, ap, ◌∙◌, sym, subst}
use Rattle.std.proofs.lemmas.Option.{MatchOption-at_some}
use Rattle.hs_base.specs.declared.mask.Mask.TheVariants.{Unmasked}
use Rattle.slot_laws.specs.SlotRules.{at, locals}
use Rattle.local_steps.specs.Frames.{Framed}
use Rattle.local_steps.specs.Machine.{active_of, frames_of, funs_of}
use Rattle.frame_stack.specs.Parts.{part_of}
use Rattle.frame_stack.specs.Advancing.{MayAdvance, over_frames}
use Rattle.frame_stack.proofs.Walking.{end_fits}
use Rattle.frame_stack.proofs.stack.Stack.advance.Goals as goal

pub end-requires-clause-fits : goal.end-requires-clause-fits
end-requires-clause-fits c =
    let b = c.body.result.now in
    let old = c.args.self.now in
    let w = c.in-Some-2.walk in
    let may : MayAdvance b old = subst (λ z. MayAdvance z old) (sym c.body.ensures) c.requires.stands in
    let start : active_of b c.in-Some.start ≡ part_of b old.control = MatchOption-at_some _ _ c.in-Some.start c.in-Some.is (c.in_ok-start.ensures {u = tt}) b ∙ ap (part_of b) c.control.ensures in
    let found = MatchOption-at_some _ _ w c.in-Some-2.is (c.in_ok-walk.ensures {u = tt}) in
    let walked = subst (λ (z : Framed). locals (funs_of b) z.below c.args.k (at (active_of b c.in-Some.start) (frames_of b z.list)) ≡ Some (at (active_of b w.part) (frames_of b (over_frames w z.list)))) c.lent_frames.ensures found.1 in
    end_fits b c.args.k old w.part (frames_of b (over_frames w old.frames)) may (ap (λ p. locals (funs_of b) Unmasked c.args.k (at p (frames_of b old.frames))) (sym start) ∙ walked)
