use Rattle.std.proofs.Common.{◌≡◌, ◌+◌, ◌-◌, ◌<◌, ◌^◌, ◌++◌, length, reverse, take, drop, ap, ◌∙◌, sym, subst, arith}
use Rattle.std.proofs.lemmas.Grind.{common_steps}
use Rattle.std.proofs.lemmas.List.{length-reverse, reverse-append}
use Rattle.local_steps.specs.Frames.{Framed, framed, mask_inside, AreFrames}
use Rattle.local_steps.proofs.Nesting.{frames_replaced, kept_rest}
use Rattle.local_steps.proofs.frames.Frames.replace.Goals as goal

pub invariant_of-self-2 : goal.invariant_of-self-2
invariant_of-self-2 c =
    let outer = c.self.inside in
    let inner = c.inner.inside in
    let gone = c.args.gone in
    let kept = length outer.frames.items - gone in
    let count : length c.args.self.now.list ≡ length outer.frames.items = ap (λ (z : Framed). length z.list) (sym c.self.view_is) ∙ length-reverse outer.frames.items in
    let sum : gone + kept ≡ length outer.frames.items = omega (arith, c.requires.gone) in
    let fits : inner.below ≡ mask_inside outer.below (drop gone (reverse outer.frames.items)) =
    ap (λ (z : Framed). z.below) c.inner.view_is ∙ (c.requires.fits ∙ sym (ap (λ (z : Framed). mask_inside z.below (drop gone z.list)) c.self.view_is)) in
    let few : kept + length inner.frames.items < 2 ^ 32 = omega (arith, outer.frames.ok.0, inner.frames.ok.0) in
    let items : c.append.new.self.items ≡ take kept outer.frames.items ++ inner.frames.items = grind (arith, common_steps) in
    subst (λ z. AreFrames outer.below inner.mask (reverse z)) (sym items)
    (frames_replaced outer.below inner.below outer.mask inner.mask gone kept outer.frames.items inner.frames.items sum c.self.invariant c.inner.invariant fits few)

pub returns-clause-ok : goal.returns-clause-ok
returns-clause-ok c =
    let outer = c.self.inside in
    let inner = c.inner.inside in
    let gone = c.args.gone in
    let kept = length outer.frames.items - gone in
    let count : length c.args.self.now.list ≡ length outer.frames.items = ap (λ (z : Framed). length z.list) (sym c.self.view_is) ∙ length-reverse outer.frames.items in
    let sum : gone + kept ≡ length outer.frames.items = omega (arith, c.requires.gone) in
    let items : c.append.new.self.items ≡ take kept outer.frames.items ++ inner.frames.items = grind (arith, common_steps) in
    let list : reverse c.append.new.self.items ≡ reverse inner.frames.items ++ drop gone (reverse outer.frames.items) =
    ap reverse items ∙ (reverse-append (take kept outer.frames.items) inner.frames.items ∙ ap (λ z. reverse inner.frames.items ++ z) (kept_rest gone kept outer.frames.items sum)) in
    ap (framed outer.below) list
    ∙ (ap (λ (z : Framed). framed z.below (reverse inner.frames.items ++ drop gone z.list)) c.self.view_is
    ∙ ap (λ (z : Framed). framed c.args.self.now.below (z.list ++ drop gone c.args.self.now.list)) c.inner.view_is)
