use Rattle.std.proofs.Common.{string_bytes}
use Rattle.claim_lines.proofs.Judgement.{more_judged}
use Rattle.claim_lines.proofs.judging.judge.Goals as goal

pub loop-claim-preserved : goal.loop-claim-preserved
loop-claim-preserved c =
    rw (c.fails-failing.ensures, c.is_open-undecided.ensures)
    (more_judged c.args.explored.now c.args.claims.now c.loop-claim.claim-index c.claim-item.result c.in_ok-verdict.verdict c.loop-claim.failing c.loop-claim.undecided (string_bytes c.loop-claim.text) (string_bytes c.write_verdict.new.text) c.loop-claim-test.true c.claim-item.is c.loop-claim.invariant c.in_ok-verdict.ensures c.in_ok-write_verdict.ensures)
