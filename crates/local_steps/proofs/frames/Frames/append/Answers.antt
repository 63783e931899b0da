use Rattle.std.proofs.Common.{◌≡◌, ◌+◌, ◌<◌, ◌^◌, ◌++◌, length, reverse, ap, ◌∙◌, sym, subst, arith}
use Rattle.std.proofs.lemmas.Grind.{common_steps}
use Rattle.local_steps.specs.Frames.{Framed, mask_inside, AreFrames}
use Rattle.local_steps.proofs.Nesting.{frames_joined}
use Rattle.local_steps.proofs.frames.Frames.append.Goals as goal

pub invariant_of-self-2 : goal.invariant_of-self-2
invariant_of-self-2 c =
    let outer = c.self.inside in
    let inner = c.inner.inside in
    let fits : inner.below ≡ mask_inside outer.below (reverse outer.frames.items) =
    ap (λ (z : Framed). z.below) c.inner.view_is ∙ (c.requires ∙ sym (ap (λ (z : Framed). mask_inside z.below z.list) c.self.view_is)) in
    let few : length outer.frames.items + length inner.frames.items < 2 ^ 32 = omega (arith, outer.frames.ok.0, inner.frames.ok.0) in
    let items : c.append.new.self.items ≡ outer.frames.items ++ inner.frames.items = grind (arith, common_steps) in
    subst (λ z. AreFrames outer.below inner.mask (reverse z)) (sym items) (frames_joined outer.below inner.below outer.mask inner.mask outer.frames.items inner.frames.items c.self.invariant c.inner.invariant fits few)
