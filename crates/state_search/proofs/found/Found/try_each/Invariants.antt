use Rattle.state_search.specs.EachTried.{HasTried}
use Rattle.state_search.proofs.found.Found.try_each.Given as goal

abbrev pub invariant-loop-entry : goal.invariant-loop-entry
invariant-loop-entry l = HasTried l.bounds l.body l.fn.self l.self l.at l.entries l.entry-index l.legal
