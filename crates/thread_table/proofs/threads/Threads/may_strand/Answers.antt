use Rattle.std.proofs.Common.{ap, ◌∙◌, false, arith, length}
use Rattle.thread_table.specs.Table.{unlisted}
use Rattle.thread_table.proofs.Table.{unlisted_same, slots_alike}
use Rattle.thread_table.proofs.Spending.{spends_both}
use Rattle.thread_table.proofs.threads.Threads.may_strand.Goals as goal

pub returns-then-waits_open-clause-slots : goal.returns-then-waits_open-clause-slots
returns-then-waits_open-clause-slots c = λ b. slots_alike b _ _ c.loop-t.invariant.others

pub loop-t-preserved : goal.loop-t-preserved
loop-t-preserved c =
    let before = c.loop-t.invariant in
    let after = c.unlist.ensures in
    let less = ap length after.stuck in
    let fewer = before.fewer in
    record {
      others = ap unlisted after.list ∙ (unlisted_same _ _ false ∙ before.others);
      fewer = omega (arith, less, fewer);
      flight = after.flight ∙ before.flight;
      spends = spends_both 0 0 0 0 0 0 0 0 _ _ _ before.spends after.spends;
    }

pub returns-clause-slots : goal.returns-clause-slots
returns-clause-slots c = λ b. slots_alike b _ _ c.loop-t.invariant.others
