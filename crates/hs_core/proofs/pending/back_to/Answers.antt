use Rattle.std.proofs.Common.{arith}
use Rattle.hs_core.proofs.Openings.{shorter, keeps_front}
use Rattle.hs_core.proofs.pending.back_to.Goals as goal

pub back-smaller : goal.back-smaller
back-smaller c = shorter c.back.scope c.off.new.scope c.off.ensures (omega (arith, c.len.ensures, c.back-test.true))

pub back-preserved : goal.back-preserved
back-preserved c =
    λ xs ys e n. let r = c.back.invariant xs ys e n in
    keeps_front c.back.scope c.off.new.scope xs r.0 c.off.ensures r.1 (omega (arith, n, c.len.ensures, c.back-test.true))
