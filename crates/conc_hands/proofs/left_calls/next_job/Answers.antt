use Rattle.std.proofs.Common.{rules, ◌≡◌, ◌<◌, length, arith}
use Rattle.conc_hands.specs.Gathering.{ends_in}
use Rattle.conc_hands.specs.declared.hand.Hand.{Hand}
use Rattle.conc_hands.proofs.Places.{within, length_mapped}
use Rattle.conc_hands.proofs.Leftovers.{below_next, all_empty, none_left, one_more_left}
use Rattle.conc_hands.proofs.left_calls.next_job.Goals as goal

pub returns-clause-job : goal.returns-clause-job
returns-clause-job g c = let inv = c.loop-at.invariant in let es = ends_in c.args.hands.now.items in let fs = ends_in c.loop-at.hands.items in
    none_left g.J.Ticketed.number es fs inv.2 (all_empty fs (λ i e at. inv.1 i e (let n = length_mapped (λ (h : Hand _ _). h.jobs) c.loop-at.hands.items in let w = within fs i e at in let a = c.loop-at-test.false in let b = c.len.ensures in omega arith) at))
