use Rattle.std.proofs.Common.{◌≡◌, ◌≤◌, length}
use Rattle.parse_leaves.specs.Reads.{many_of, prepend}
use Rattle.parse_exprs.proofs.links.all_links.Given as goal

abbrev pub invariant-items : goal.invariant-items
invariant-items g l = record {
  so_far : many_of l.depth g.L.Links.rule l.fn.cursor ≡ prepend l.items (many_of l.depth g.L.Links.rule l.cursor);
  shorter : length l.cursor ≤ length l.fn.cursor;
}

abbrev pub decreases-items : goal.decreases-items
decreases-items g l = length l.cursor
