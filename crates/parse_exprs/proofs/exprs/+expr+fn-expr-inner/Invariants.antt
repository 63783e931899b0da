use Rattle.std.proofs.Common.{◌+◌, ◌*◌}
use Rattle.parse_exprs.proofs.exprs.+expr+fn-expr-inner.Given as goal

abbrev pub decreases-expr : goal.decreases-expr
decreases-expr l = 10 * l.depth

abbrev pub decreases-inner : goal.decreases-inner
decreases-inner l = 10 * l.d + 5
