use Rattle.std.proofs.Common.{◌+◌, ◌*◌}
use Rattle.parse_leaves.proofs.cursor.Cursor.+types.Given as goal

abbrev pub decreases-atype : goal.decreases-atype
decreases-atype l = 10 * l.depth + 1

abbrev pub decreases-list_type : goal.decreases-list_type
decreases-list_type l = 10 * l.depth + 0

abbrev pub decreases-ty : goal.decreases-ty
decreases-ty l = 10 * l.depth + 2

abbrev pub decreases-type_end : goal.decreases-type_end
decreases-type_end l = 10 * l.depth + 3

abbrev pub decreases-type_in_brackets : goal.decreases-type_in_brackets
decreases-type_in_brackets l = 10 * l.depth + 4

abbrev pub decreases-type_in_parens : goal.decreases-type_in_parens
decreases-type_in_parens l = 10 * l.depth + 0

abbrev pub decreases-types_in_parens : goal.decreases-types_in_parens
decreases-types_in_parens l = 10 * l.depth + 4
