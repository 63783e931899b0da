-- The steps of a history (own): what fuel counts.
use Rattle.std.specs.Prelude.{ℕ, ◌+◌, List, [], ◌∷◌}
use Rattle.hs_rules.specs.declared.entry.Entry.{Entry}
use Rattle.hs_rules.specs.declared.entry.Entry.TheVariants.{Local, Op, Receive, Wake, Finish, Tick, Stranded}

-- the number of its local rules for a Local, and 1 for each other entry
abbrev pub cost_of : Entry → ℕ
cost_of (Local t k) = k
cost_of (Op t) = 1
cost_of (Receive t) = 1
cost_of (Wake t) = 1
cost_of (Finish t) = 1
cost_of (Tick at) = 1
cost_of Stranded = 1

abbrev pub steps_of : List Entry → ℕ
steps_of [] = 0
steps_of (e ∷ es) = cost_of e + steps_of es

-- what a history shows: its entries, and how many more fit without memory
pub record Recorded : Type 0 where
  pub list : List Entry
  pub spare : ℕ

abbrev pub recorded : List Entry → ℕ → Recorded
recorded es n = record { list = es; spare = n }
