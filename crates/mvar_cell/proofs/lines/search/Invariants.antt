use Rattle.mvar_cell.specs.Cursors.{Searches}
use Rattle.mvar_cell.proofs.lines.search.Given as goal

-- no reader stands up to the node of the walk
abbrev pub invariant-walk : goal.invariant-walk
invariant-walk l = Searches l.nodes l.fn.ends l._step l.at
