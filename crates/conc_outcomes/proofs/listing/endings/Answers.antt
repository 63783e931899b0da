use Rattle.std.proofs.Common.{◌≡◌, ◌≤◌, ◌+◌, length, get_or, Some, None, slice_get, rules, sym, ap, ◌∙◌, subst}
use Rattle.std.proofs.lemmas.Option.{slice_get-get_or}
use Rattle.conc_outcomes.proofs.Listed.{AreThere, IsEndingAt, there_none, there_more, there_all}
use Rattle.conc_outcomes.proofs.listing.endings.Goals as goal
use Rattle.conc_outcomes.proofs.listing.endings.Goals.{in-Some+in_ok-state+in_ok-ending+in_ok-add, in_default}

pub loop-state-preserved : goal.loop-state-preserved
loop-state-preserved c =
    let f = c.args.found.now in
    let n = c.loop-state.state in
    let kinds = c.deref-kind-items.result.now in
    let at : slice_get f.kinds.items n ≡ Some (get_or kinds n None) = ap (λ ks. slice_get ks n) (sym c.deref-kind-items.ensures.value) ∙ slice_get-get_or kinds n None c.loop-state-test.true in
    elim c.match-kind.branch [
      | in-Some+in_ok-state+in_ok-ending+in_ok-add w ↦
          let same : w.in_ok-state.state ≡ n = search rules in
          let e = w.in_ok-ending.field-0 in
          let new = w.add.new.self in
          subst (AreThere f (n + 1)) (sym w.endings-is)
          (there_more f n w.in-Some.end e c.loop-state.endings new (at ∙ ap Some w.in-Some.is) (subst (λ k. IsEndingAt f k w.in-Some.end e) same w.in_ok-ending.ensures) w.in_ok-add.ensures.keeps w.in_ok-add.ensures.has c.loop-state.invariant)
      | in_default w ↦ subst (AreThere f (n + 1)) (sym w.endings-is) (there_none f n c.loop-state.endings (at ∙ ap Some w.in_default.is) c.loop-state.invariant)
    ]

pub returns : goal.returns
returns c =
    let f = c.args.found.now in
    there_all f c.loop-state.state c.loop-state.endings (subst (λ ks. length ks ≤ c.loop-state.state) c.deref-kind-items.ensures.value c.loop-state-test.false) c.loop-state.invariant
