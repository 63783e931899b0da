use Rattle.std.specs.Prelude.{string_bytes}
use Rattle.trace_text.proofs.Readings.{Written}
use Rattle.trace_text.proofs.writing.write_trace.Given as goal

abbrev pub invariant-loop-place : goal.invariant-loop-place
invariant-loop-place l = Written l.history.list l.place (string_bytes l.text)
