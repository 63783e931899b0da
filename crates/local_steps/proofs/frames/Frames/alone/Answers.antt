use Rattle.std.proofs.Common.{◌≡◌, ◌+◌, ◌-◌, ◌<◌, [], ◌∷◌, ◌++◌, length, reverse, drop, get_or, ap, ◌∙◌, sym, subst, arith}
use Rattle.local_steps.specs.Frames.{Framed, framed, mask_inside, IsNested, AreFrames}
use Rattle.local_steps.proofs.Nesting.{nested_rest, frame_at, frame_alone}
use Rattle.local_steps.proofs.frames.Frames.alone.Goals as goal

-- the frame is the one at its place
found : (c : goal.After-push_reserved) → drop c.args.inner (reverse c.self.inside.frames.items) ≡ c.in_ok-frame.frame ∷ drop (c.args.inner + 1) (reverse c.self.inside.frames.items)
found c =
    let fs = c.self.inside.frames.items in
    let f = c.in_ok-frame.frame in
    let there : c.args.inner < length fs = omega (arith, c.self.inside.frames.ok.0) in
    let place : c.len-count.result - 1 - c.args.inner ≡ length fs - 1 - c.args.inner = omega (arith, c.self.inside.frames.ok.0) in
    let read : f ≡ get_or fs (c.len-count.result - 1 - c.args.inner) f = subst (λ z. z ≡ get_or fs (c.len-count.result - 1 - c.args.inner) z) (sym (c.in_ok-frame.ensures {u = tt})) c.index.ensures in
    frame_at c.args.inner fs f there (read ∙ ap (λ n. get_or fs n f) place)

inside : (c : goal.After-push_reserved) → c.args.inside ≡ mask_inside c.self.inside.below (drop c.args.inner (reverse c.self.inside.frames.items))
inside c = c.requires ∙ sym (ap (λ (z : Framed). mask_inside z.below (drop c.args.inner z.list)) c.self.view_is)

outside : (c : goal.After-push_reserved) → c.state_outside-below.result ≡ mask_inside c.self.inside.below (drop (c.args.inner + 1) (reverse c.self.inside.frames.items))
outside c =
    let s = c.self.inside.below in
    let fs = reverse c.self.inside.frames.items in
    c.state_outside-below.ensures s (drop (c.args.inner + 1) fs) (subst (IsNested s) (found c) (nested_rest s c.args.inner fs c.self.invariant.nested)) (inside c ∙ ap (mask_inside s) (found c))

alone : (c : goal.After-push_reserved) → c.push_reserved.new.self.items ≡ c.in_ok-frame.frame ∷ []
alone c = c.push_reserved.ensures.items ∙ ap (λ z. z ++ c.in_ok-frame.frame ∷ []) (c.in_ok-frames.ensures {u = tt}).items

pub invariant_of-result : goal.invariant_of-result
invariant_of-result c =
    subst (λ z. AreFrames c.state_outside-below.result c.args.inside (reverse z)) (sym (alone c))
    (frame_alone c.self.inside.below c.args.inside c.state_outside-below.result c.args.inner (reverse c.self.inside.frames.items) c.in_ok-frame.frame c.self.invariant.nested (found c) (inside c) (outside c))

pub returns : goal.returns
returns c = (
  c.in_ok-frame.frame,
  subst (λ z. drop c.args.inner z ≡ c.in_ok-frame.frame ∷ drop (c.args.inner + 1) z) (ap (λ (z : Framed). z.list) c.self.view_is) (found c),
  ap (λ z. framed c.state_outside-below.result (reverse z)) (alone c)
      ∙ (ap (λ z. framed z (c.in_ok-frame.frame ∷ [])) (outside c) ∙ ap (λ (z : Framed). framed (mask_inside z.below (drop (c.args.inner + 1) z.list)) (c.in_ok-frame.frame ∷ [])) c.self.view_is),
)
