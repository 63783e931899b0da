use Rattle.std.proofs.Common.{map}
use Rattle.state_search.specs.Meaning.{edge_of}
use Rattle.conc_outcomes.specs.finiteness.Walks.{Walks, left}
use Rattle.conc_outcomes.proofs.finiteness.walking.find_round.Given as goal

abbrev pub invariant-loop-walk : goal.invariant-loop-walk
invariant-loop-walk l = Walks (map edge_of l.moves) l.walk.marks.items l.walk.path.items l.walk.at l.walk.place

abbrev pub decreases-loop-walk : goal.decreases-loop-walk
decreases-loop-walk l = left (map edge_of l.moves) l.walk.marks.items l.walk.place
