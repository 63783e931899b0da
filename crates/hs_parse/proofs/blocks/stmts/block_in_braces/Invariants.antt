use Rattle.std.proofs.Common.{◌≡◌, ◌≤◌, length}
use Rattle.hs_parse.proofs.blocks_lemmas.BlockSteps.{block_of, behind}
use Rattle.hs_parse.proofs.blocks.stmts.block_in_braces.Given as goal

abbrev pub invariant-items : goal.invariant-items
invariant-items b l = record {
  so_far : block_of l.depth l.fn.cursor ≡ behind l.depth l.stmts (block_of l.depth l.cursor);
  shorter : length l.cursor ≤ length l.fn.cursor;
}

abbrev pub decreases-items : goal.decreases-items
decreases-items b l = length l.cursor
