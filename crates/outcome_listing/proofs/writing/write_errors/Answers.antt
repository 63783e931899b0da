use Rattle.std.proofs.Common.{codes, string_bytes}
use Rattle.outcome_listing.specs.Listing.{text_lines, errors_lines}
use Rattle.outcome_listing.proofs.Written.{then_written, errors_some}
use Rattle.outcome_listing.proofs.writing.write_errors.Goals as goal

pub returns : goal.returns
returns c =
    then_written c.write_lines.result (string_bytes c.args.text.now) _ _ (codes "   errors:\n") (text_lines c.args.errors.now) (errors_lines c.args.errors.now) c.in_ok-push_str.ensures.bytes c.write_lines.ensures (errors_some c.args.errors.now c.is_empty.result c.is_empty.ensures c.if-is_empty.false)
