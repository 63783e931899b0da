use Rattle.std.proofs.Common.{codes, string_bytes}
use Rattle.outcome_listing.specs.Listing.{text_lines, output_lines}
use Rattle.outcome_listing.proofs.Written.{then_written, output_some}
use Rattle.outcome_listing.proofs.writing.write_output.Goals as goal

pub returns : goal.returns
returns c =
    then_written c.write_lines.result (string_bytes c.args.text.now) _ _ (codes "   output:\n") (text_lines c.args.output.now) (output_lines c.args.output.now) c.in_ok-push_str.ensures.bytes c.write_lines.ensures (output_some c.args.output.now c.is_empty.result c.is_empty.ensures c.if-is_empty.false)
