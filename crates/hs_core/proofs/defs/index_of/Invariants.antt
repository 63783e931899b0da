use Rattle.std.proofs.Common.{take}
use Rattle.hs_index.specs.Indexing.{Indexes}
use Rattle.hs_core.proofs.defs.index_of.Given as goal

abbrev pub invariant-names : goal.invariant-names
invariant-names l = Indexes l.index (take l.name-index l.names)
