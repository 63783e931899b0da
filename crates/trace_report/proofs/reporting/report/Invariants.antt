use Rattle.std.proofs.Common.{length}
use Rattle.rules_code.specs.Codes.{body_of}
use Rattle.trace_report.proofs.Counted.{Counts}
use Rattle.trace_report.proofs.reporting.report.Given as goal

abbrev pub invariant-loop-tally : goal.invariant-loop-tally
invariant-loop-tally l = Counts (body_of l.code) l.text l.walk l.tally

abbrev pub decreases-loop-tally : goal.decreases-loop-tally
decreases-loop-tally l = length l.walk.lines.rest
