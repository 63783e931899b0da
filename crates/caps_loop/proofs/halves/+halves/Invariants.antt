use Rattle.std.proofs.Common.{◌+◌, ◌*◌}
use Rattle.caps_loop.proofs.halves.+halves.Given as goal

abbrev pub decreases-left : goal.decreases-left
decreases-left g l = 2 * l.mine + 1

abbrev pub decreases-right : goal.decreases-right
decreases-right g l = 2 * l.theirs + 1

abbrev pub decreases-run : goal.decreases-run
decreases-run g l = 2 * l.count
