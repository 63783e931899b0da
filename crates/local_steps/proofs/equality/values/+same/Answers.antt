use Rattle.std.proofs.Common.{◌∙◌, ap, sym}
use Rattle.hs_base.specs.declared.value.ValueList.{Cons}
use Rattle.local_steps.proofs.equality_lemmas.Heads.{onward, no_deeper}
use Rattle.local_steps.proofs.equality.values.+same.Goals as goal
use native.Mathlib.Nat.{le_trans}

-- src/values.rt
pub compare_lists-loop-a-preserved : goal.compare_lists-loop-a-preserved
compare_lists-loop-a-preserved t c =
    let x = c.in-Cons-Cons.is-0 ∙ ap Cons (sym c.get-x.ensures) in
    let y = c.in-Cons-Cons.is-1 ∙ ap Cons (sym c.get-y.ensures) in
    record {
      same = onward _ _ _ _ x y (c.in_ok-alike-in-Cons-Cons.ensures.same.0 c.if-not-alike.false) c.loop-a.invariant.same;
      no_deeper = le_trans (no_deeper _ _ x) c.loop-a.invariant.no_deeper;
      endless = λ e. c.compare_values.ensures.endless (c.loop-a.invariant.endless e);
    }
