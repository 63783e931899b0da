-- Sleepers by number, by due and of one due by thread.
use Rattle.std.specs.Prelude.{List, [], ◌∷◌}
use Rattle.rules_waiting.specs.Waiting.{Sleeper}
use Rattle.number_states.specs.declared.waits.sleepers.Asleep.{Asleep}

abbrev pub sleeper_of : Asleep → Sleeper
sleeper_of a = record { thread = a.thread; due = a.due }

-- a list of them, one by one
abbrev pub sleepers : List Asleep → List Sleeper
sleepers [] = []
sleepers (a ∷ more) = sleeper_of a ∷ sleepers more

-- the same sleepers, all due at 0
abbrev pub undue : List Sleeper → List Sleeper
undue [] = []
undue (s ∷ ss) = record { thread = s.thread; due = 0 } ∷ undue ss
