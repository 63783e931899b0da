use Rattle.std.proofs.Common.{◌≡◌, ◌++◌, length, string_bytes}
use denote.Text.{Utf8}
use denote.Shadow.{shadow}
use Rattle.outcome_listing.specs.Listing.{text_lines}
use Rattle.outcome_listing.proofs.writing.write_lines.Given as goal

-- what is written and the lines of the rest are the whole
abbrev pub invariant-loop-line : goal.invariant-loop-line
invariant-loop-line l = record { text : shadow (Utf8 l.rest); whole : string_bytes l.text ++ text_lines l.rest ≡ string_bytes l.fn.text ++ text_lines l.fn.printed }

abbrev pub decreases-loop-line : goal.decreases-loop-line
decreases-loop-line l = length l.rest
