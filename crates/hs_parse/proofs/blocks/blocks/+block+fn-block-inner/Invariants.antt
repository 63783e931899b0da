use Rattle.std.proofs.Common.{◌+◌, ◌*◌}
use Rattle.hs_parse.proofs.blocks.blocks.+block+fn-block-inner.Given as goal

abbrev pub decreases-block : goal.decreases-block
decreases-block l = 10 * l.depth

abbrev pub decreases-inner : goal.decreases-inner
decreases-inner l = 10 * l.d + 5
