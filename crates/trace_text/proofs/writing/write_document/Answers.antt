use Rattle.std.proofs.Common.{◌∙◌}
use Rattle.trace_text.specs.spelling.Traces.{script_line}
use Rattle.trace_text.proofs.Documents.{document_is}
use Rattle.trace_text.proofs.writing.write_document.Goals as goal

pub returns : goal.returns
unfolding script_line
returns c =
    document_is c.args.history.now.list _ c.args.script.now c.in_ok-document.document.items c.extend_from_slice.new.self.items c.extend_from_slice-2.new.self.items
    c.in_ok-extend_from_slice-2.ensures.items c.in_ok-extend_from_slice.ensures.items (c.in_ok-document.ensures.items ∙ c.as_bytes.ensures.value ∙ c.as_str.ensures) c.in_ok-trace.ensures
