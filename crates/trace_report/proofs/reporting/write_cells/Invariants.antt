use Rattle.std.proofs.Common.{◌≡◌, ◌++◌}
use Rattle.std.specs.Prelude.{string_bytes}
use Rattle.trace_report.specs.tally.Reporting.{lines_below}
use Rattle.trace_report.specs.Looking.{cell_text}
use Rattle.trace_report.proofs.reporting.write_cells.Given as goal

abbrev pub invariant-loop-m : goal.invariant-loop-m
invariant-loop-m l = string_bytes l.text ≡ string_bytes l.fn.text ++ lines_below (cell_text l.tally l.world) l.m
