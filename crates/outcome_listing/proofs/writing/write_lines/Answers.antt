use Rattle.std.proofs.Common.{rules, string_bytes, lit<}
use Rattle.std.proofs.lemmas.Str.Pattern.{split_parts}
use Rattle.outcome_listing.specs.Listing.{cut_line, text_lines}
use Rattle.outcome_listing.proofs.Written.{line_written, lines_last, last_written}
use Rattle.outcome_listing.proofs.writing.write_lines.Goals as goal

pub loop-line-preserved : goal.loop-line-preserved
loop-line-preserved c =
    let parts = split_parts 10 c.loop-line.rest.now c.split_once.result c.split_once.ensures.cases (lit< tt) in
    let here = rw c.in-Some.is at parts in
    record {
      text = search rules;
      whole = line_written (string_bytes c.loop-line.text) _ c.loop-line.rest.now c.in-Some.line.now c.in-Some.more.now _ c.loop-line.invariant.whole (c.in_ok-write_whole.ensures) here.0 here.1;
    }

pub returns : goal.returns
returns c =
    let parts = split_parts 10 c.loop-line.rest.now c.split_once.result c.split_once.ensures.cases (lit< tt) in
    let here = rw c.in_default.is at parts in
    last_written c.write_cut.result (string_bytes c.loop-line.text) _ (cut_line c.loop-line.rest.now) (text_lines c.loop-line.rest.now) _ c.write_cut.ensures (lines_last c.loop-line.rest.now c.is_empty.result here c.is_empty.ensures c.if-is_empty.false) c.loop-line.invariant.whole
