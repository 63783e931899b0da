use Rattle.std.proofs.Common.{drop, sym, ap, ◌∙◌, arith}
use Rattle.conc_outcomes.proofs.Lists.{moved, nothing_there}
use Rattle.conc_outcomes.proofs.ends.entries_from.Goals as goal
use Rattle.conc_outcomes.proofs.ends.entries_from.Goals.{in-Some+in_ok-push, in_default}

pub loop-at-preserved : goal.loop-at-preserved
loop-at-preserved c =
    let all = c.args.history.now.list in
    let n = c.loop-at.at in
    elim c.match-at.branch [
      | in-Some+in_ok-push w ↦
          moved c.loop-at.entries.list c.match-at.entries.list (drop c.args.place all) all n w.in-Some.entry (sym c.at.ensures.entry ∙ w.in-Some.is) (ap (λ h. h.list) w.entries-is ∙ w.in_ok-push.ensures.ok) c.loop-at.invariant
      | in_default w ↦ absurd (nothing_there all n (omega (arith, c.len-at-end.ensures)) (sym c.at.ensures.entry ∙ w.in_default.is))
    ]
