use Rattle.std.proofs.Common.{◌++◌, ◌∙◌, ap, refl, length, string_bytes}
use Rattle.outcome_listing.specs.Listing.{head_line, output_lines, errors_lines}
use Rattle.outcome_listing.proofs.Written.{then_written, two_written}
use Rattle.outcome_listing.proofs.writing.write_block.Goals as goal

pub returns : goal.returns
returns c =
    let o = c.args.outcome.now in
    let old = string_bytes c.args.text.now in
    let head = c.in_ok-write_head.ensures ∙ ap (λ n. old ++ head_line c.args.number o.end n) c.len.ensures in
    let both = two_written old (string_bytes c.write_head.new.text) (string_bytes c.write_output.new.text) (head_line c.args.number o.end (length o.witness.list)) (output_lines o.out) head (c.in_ok-write_output.ensures ∙ ap (λ z. string_bytes c.write_head.new.text ++ output_lines z) c.as_str.ensures) in
    then_written c.write_errors.result old (string_bytes c.write_output.new.text) _ (head_line c.args.number o.end (length o.witness.list) ++ output_lines o.out) (errors_lines o.err) _ both (rw c.as_str-2.ensures at c.write_errors.ensures) refl
