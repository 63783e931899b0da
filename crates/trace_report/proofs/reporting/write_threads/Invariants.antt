use Rattle.std.proofs.Common.{◌≡◌, ◌++◌}
use Rattle.std.specs.Prelude.{string_bytes}
use Rattle.trace_report.specs.tally.Reporting.{lines_below}
use Rattle.trace_report.specs.Looking.{thread_text}
use Rattle.trace_report.proofs.reporting.write_threads.Given as goal

abbrev pub invariant-loop-t : goal.invariant-loop-t
invariant-loop-t l = string_bytes l.text ≡ string_bytes l.fn.text ++ lines_below (thread_text l.tally l.world) l.t
