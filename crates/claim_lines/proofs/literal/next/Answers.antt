use Rattle.std.proofs.Common.{arith}
use Rattle.claim_lines.proofs.Closings.{next_plain}
use Rattle.claim_lines.proofs.literal.next.Goals as goal

pub returns-in_default-first : goal.returns-in_default-first
returns-in_default-first c = next_plain c.args.rest.now _ _ c.in-Some.ensures.cases.0 (λ e. omega arith) (λ e. omega arith) (λ e. omega arith)
