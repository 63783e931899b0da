use Rattle.std.proofs.Common.{string_bytes}
use Rattle.outcome_listing.proofs.Written.{block_written}
use Rattle.outcome_listing.proofs.writing.write_outcomes.Goals as goal

pub loop-place-preserved : goal.loop-place-preserved
loop-place-preserved c =
    block_written c.args.outcomes.now c.loop-place.place c.index-outcomes-place.result (string_bytes c.loop-place.text) (string_bytes c.write_block.new.text) _ c.loop-place-test.true c.index-outcomes-place.is c.loop-place.invariant c.in_ok-write_block.ensures
