use Rattle.std.proofs.Common.{◌≡◌, ◌≤◌, length}
use Rattle.rules_grammar.specs.Grammar as g
use Rattle.parse_leaves.specs.Reads.{many_of, prepend}
use Rattle.parse_exprs.proofs.operands.operand.args.Given as goal

abbrev pub invariant-items : goal.invariant-items
invariant-items b l = record {
  so_far : many_of l.depth g.arg l.fn.cursor ≡ prepend l.items (many_of l.depth g.arg l.cursor);
  shorter : length l.cursor ≤ length l.fn.cursor;
}

abbrev pub decreases-items : goal.decreases-items
decreases-items b l = length l.cursor
