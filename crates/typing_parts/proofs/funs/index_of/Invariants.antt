use Rattle.std.proofs.Common.{take}
use Rattle.hs_index.specs.Indexing.{Indexes}
use Rattle.typing_parts.specs.Views.{texts_of}
use Rattle.typing_parts.proofs.funs.index_of.Given as goal

abbrev pub invariant-heads : goal.invariant-heads
invariant-heads l = Indexes l.index (texts_of (take l.head-index l.heads))
