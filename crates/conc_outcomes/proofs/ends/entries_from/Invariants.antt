use Rattle.std.proofs.Common.{◌≡◌, ◌++◌, drop}
use Rattle.conc_outcomes.proofs.ends.entries_from.Given as goal

-- what has been taken and what is left are the whole
abbrev pub invariant-loop-at : goal.invariant-loop-at
invariant-loop-at l = l.entries.list ++ drop l.at l.history.list ≡ drop l.place l.history.list
