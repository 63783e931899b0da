use Rattle.std.proofs.Common.{◌≡◌, ◌≤◌, length}
use Rattle.rules_grammar.specs.Grammar as g
use Rattle.parse_leaves.specs.Reads.{many_of, prepend}
use Rattle.hs_parse.proofs.script.defs.Given as goal

abbrev pub invariant-items : goal.invariant-items
invariant-items l = record {
  so_far : many_of l.depth g.def l.fn.cursor ≡ prepend l.items (many_of l.depth g.def l.cursor);
  shorter : length l.cursor ≤ length l.fn.cursor;
}

abbrev pub decreases-items : goal.decreases-items
decreases-items l = length l.cursor
