use Rattle.claim_lines.proofs.judging.verdict_on.Goals as goal

pub returns-in-Always : goal.returns-in-Always
returns-in-Always c = rw c.in-Always.is (rw c.as_slice.ensures at c.on_each.ensures)

pub returns-in-Never : goal.returns-in-Never
returns-in-Never c = rw c.in-Never.is (rw c.as_slice-in-Never.ensures at c.on_each-in-Never.ensures)
