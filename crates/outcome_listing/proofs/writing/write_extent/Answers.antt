use Rattle.std.proofs.Common.{ap, sym, codes, string_bytes}
use Rattle.outcome_listing.specs.Listing.{cause_words, extent_words}
use Rattle.outcome_listing.proofs.Written.{then_written}
use Rattle.outcome_listing.proofs.writing.write_extent.Goals as goal

pub returns-in_ok-push_str-in-NotAll : goal.returns-in_ok-push_str-in-NotAll
returns-in_ok-push_str-in-NotAll c =
    then_written c.write_cause.result (string_bytes c.args.text.now) _ _ (codes "there may be others: ") (cause_words c.in-NotAll.cause) (extent_words c.args.extent.now) c.in_ok-push_str-in-NotAll.ensures.bytes c.write_cause.ensures (sym (ap extent_words c.in-NotAll.is))
