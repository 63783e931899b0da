use Rattle.std.proofs.Common.{◌≤◌, ◌+◌, ◌++◌, sym, drop, length, ap, ◌∙◌, arith}
use Rattle.std.proofs.lemmas.List.{drop_all}
use Rattle.std.proofs.lemmas.Option.{MatchOption-at_none, MatchOption-at_some}
use Rattle.local_steps.specs.Frames.{Framed, mask_inside}
use Rattle.frame_stack.proofs.advancing.framed.Goals as goal

pub returns-then-walk-len-clause-none : goal.returns-then-walk-len-clause-none
returns-then-walk-len-clause-none c =
    let w = c.args.walk.now in
    let fs = c.args.frames.now.list in
    let none : length fs ≤ w.gone = omega arith in
    λ e. (ap (λ z. z ++ drop w.gone fs) (c.is_bare.ensures.own c.if-not-is_bare.false) ∙ drop_all w.gone fs none, λ b. (c.is_bare.ensures.is b).0 c.if-not-is_bare.false)

pub alone-requires : goal.alone-requires
alone-requires c =
    let w = c.args.walk.now in
    c.mask.ensures ∙ (ap (mask_inside w.own.below) (c.is_bare.ensures.own c.if-not-is_bare.false) ∙ c.requires.over.below)

pub returns-in-None-clause-none : goal.returns-in-None-clause-none
returns-in-None-clause-none c =
    let w = c.args.walk.now in
    let fs = c.args.frames.now.list in
    λ e. (ap (λ z. z ++ drop w.gone fs) (c.is_bare.ensures.own c.if-not-is_bare.false) ∙ MatchOption-at_none _ _ c.in-None.is (c.in_ok-alone.ensures {u = tt}), λ b. (c.is_bare.ensures.is b).0 c.if-not-is_bare.false)

pub returns-in-Some-clause-same : goal.returns-in-Some-clause-same
returns-in-Some-clause-same c =
    let w = c.args.walk.now in
    let fs = c.args.frames.now.list in
    let f = MatchOption-at_some _ _ c.in-Some.frame c.in-Some.is (c.in_ok-alone.ensures {u = tt}) in
    λ yes. ap (λ (z : Framed). z.list ++ drop (w.gone + 1) fs) f.2 ∙ (sym f.1 ∙ sym (ap (λ z. z ++ drop w.gone fs) (c.is_bare.ensures.own c.if-not-is_bare.false)))
