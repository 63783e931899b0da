-- Ranks that fall along the edges of a search, and rounds of them (own).
use Rattle.std.specs.Prelude.{◌≡◌, ◌≤◌, ◌<◌, ◌+◌, ℕ, List, [], ◌∷◌, length, Option, Some, slice_get}
use Rattle.hs_base.specs.declared.clock_choice.ClockChoice.{ClockChoice}
use Rattle.hs_rules.specs.declared.entry.Entry.{Entry}
use Rattle.hs_rules.specs.State.{State}
use Rattle.hs_rules.specs.Endings.{IsTick}
use Rattle.hs_rules.specs.Runs.{first_of}
use Rattle.rules_expansion.specs.trees.Programs.{Fn}
use Rattle.rules_meaning.specs.CoreMeaning.{code_of}
use Rattle.outcome_laws.specs.timing.WithoutTime.{without_ticks}
use Rattle.outcome_laws.specs.Timings.{TimedRun}
use Rattle.search_laws.specs.Found.{Edge}

-- there is a number of entries other than Ticks that no run of a timing from the first state has more of
abbrev pub HaveBound : ClockChoice → List Fn → Type 0
HaveBound clock ds = (m : ℕ) × ((s u : State) (es : List Entry) → first_of ds ≡ Some s → TimedRun clock (code_of ds) s es u → length (without_ticks es) ≤ m)

-- Some numbers of states have a rank. An edge from one that has leads to one that has: lower, by one for the entry and by one for
-- each eager rule behind it at least.
abbrev pub RanksFall : List Edge → (ℕ → Option ℕ) → Type 0
RanksFall edges rank = (k : ℕ) (g : Edge) → slice_get edges k ≡ Some g → (n : ℕ) → rank g.from ≡ Some n → (m : ℕ) × (rank g.to ≡ Some m) × (g.eager + m < n)

-- the edges at these places lead from the state of the one number to that of the other, each from where the one before it leads
abbrev pub LeadOn : List Edge → ℕ → List ℕ → ℕ → Type 0
LeadOn edges i [] j = i ≡ j
LeadOn edges i (p ∷ ps) j = (g : Edge) × (slice_get edges p ≡ Some g) × (g.from ≡ i) × LeadOn edges g.to ps j

-- at least one edge leads from a state, and they lead back to it
abbrev pub IsRound : List Edge → ℕ → List ℕ → Type 0
IsRound edges at places = (0 < length places) × LeadOn edges at places at

-- an edge at one of these places is by an entry other than a Tick
abbrev pub HasWork : List Edge → List ℕ → Type 0
HasWork edges places = (k : ℕ) × (p : ℕ) × (g : Edge) × (slice_get places k ≡ Some p) × (slice_get edges p ≡ Some g) × ¬ IsTick g.entry
