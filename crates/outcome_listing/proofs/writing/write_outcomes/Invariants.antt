use Rattle.std.proofs.Common.{◌++◌, string_bytes}
use Rattle.outcome_listing.specs.Listing.{blocks}
use Rattle.outcome_listing.proofs.Written.{IsWritten}
use Rattle.outcome_listing.proofs.writing.write_outcomes.Given as goal

abbrev pub invariant-loop-place : goal.invariant-loop-place
invariant-loop-place l = IsWritten l.outcomes l.place (string_bytes l.text) (string_bytes l.fn.text ++ blocks l.outcomes)
