use Rattle.std.proofs.Common.{◌≡◌, ◌≤◌, length}
use Rattle.rules_grammar.specs.Grammar as g
use Rattle.parse_leaves.specs.Reads.{many_of, prepend}
use Rattle.parse_leaves.proofs.cursor.Cursor.params.Given as goal

abbrev pub invariant-items : goal.invariant-items
invariant-items l = record {
  so_far : many_of l.depth g.param l.fn.self ≡ prepend l.items (many_of l.depth g.param l.self);
  shorter : length l.self ≤ length l.fn.self;
}

abbrev pub decreases-items : goal.decreases-items
decreases-items l = length l.self
