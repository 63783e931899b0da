use Rattle.trace_text.proofs.EntryLines.{no_steps}
use Rattle.trace_text.proofs.lines.numbers_at.Goals as goal

pub returns-in_err-k-in-76 : goal.returns-in_err-k-in-76
returns-in_err-k-in-76 c = rw c.from_residual-in_err-k-in-76.ensures (no_steps c.args.letter c.args.bytes.now c.in_ok-t-in-76.t c.in_ok-t-in-76.rest.now c.in-76.is c.in_ok-t-in-76.ensures c.in_err-k-in-76.ensures)
