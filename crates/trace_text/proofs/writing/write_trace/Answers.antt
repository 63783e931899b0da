use Rattle.std.proofs.Common.{◌++◌, ◌∙◌, refl, sym, ap, arith}
use Rattle.std.specs.Prelude.{string_bytes}
use Rattle.trace_text.specs.spelling.Traces.{header}
use Rattle.trace_text.proofs.Readings.{written_none, written_more, ok_spells}
use Rattle.trace_text.proofs.writing.write_trace.Goals as goal
use Rattle.trace_text.proofs.writing.write_trace.Goals.{in-Some+in_ok-write_line, in_default}

pub loop-place-init : goal.loop-place-init
loop-place-init c = written_none c.args.history.now.list (string_bytes c.write_header.new.text) (c.in_ok-write_header.ensures ∙ ap (λ z. z ++ header) c.new-text.ensures.bytes)

pub loop-place-preserved : goal.loop-place-preserved
loop-place-preserved c =
    elim c.match-at.branch [
      | in-Some+in_ok-write_line w ↦
          written_more c.args.history.now.list c.loop-place.place w.in-Some.entry (string_bytes c.loop-place.text) (string_bytes c.match-at.text)
          (sym c.at.ensures.entry ∙ w.in-Some.is) c.loop-place.invariant w.in_ok-write_line.ensures.fits (ap string_bytes w.text-is ∙ w.in_ok-write_line.ensures.line)
      | in_default w ↦ absurd (omega (arith, w.in_default.ensures.past.0 refl, c.loop-place-test.true, c.len-place-end.ensures))
    ]

pub returns : goal.returns
returns c = ok_spells c.from_string.result (string_bytes c.loop-place.text) c.args.history.now.list c.loop-place.place c.from_string.ensures (omega (arith, c.len-place-end.ensures, c.loop-place-test.false)) c.loop-place.invariant
