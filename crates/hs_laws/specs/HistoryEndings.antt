-- How a history of a script ends (own).
use Rattle.std.specs.Prelude.{◌≡◌, ℕ, ◌+◌, ◌≤◌, List, ◌++◌, Some}
use Rattle.hs_base.specs.declared.limits.Limits.{Limits}
use Rattle.hs_rules.specs.declared.entry.Entry.{Entry}
use Rattle.hs_rules.specs.declared.entry.Entry.TheVariants as entry
use Rattle.hs_rules.specs.declared.entry.LimitKind.{LimitKind}
use Rattle.rules_expansion.specs.trees.Programs.{Fn}
use Rattle.rules_meaning.specs.CoreMeaning.{code_of}
use Rattle.hs_rules.specs.State.{State}
use Rattle.hs_rules.specs.Entries.{Leads}
use Rattle.hs_rules.specs.Histories.{cost_of, steps_of}
use Rattle.hs_rules.specs.Runs.{after, IsRun}
use Rattle.hs_rules.specs.Endings.{RunEnding, Ends, IsWithin, FirstExceeded}

-- a script, a history that is a run of it, and a fuel have this ending
pub record HasEnding (ending : RunEnding) (ds : List Fn) (es : List Entry) (fuel : ℕ) : Type 0 where
  pub state : State
  pub run : IsRun ds es state
  pub ends : Ends ending (code_of ds) state (steps_of es) fuel

-- a Local holds at most this many steps
abbrev pub most_steps : ℕ
most_steps = 1024

abbrev pub IsShort : Entry → Type 0
IsShort (entry.Local t k) = k ≤ most_steps
IsShort (entry.Op t) = Unit {0}
IsShort (entry.Receive t) = Unit {0}
IsShort (entry.Wake t) = Unit {0}
IsShort (entry.Finish t) = Unit {0}
IsShort (entry.Tick at) = Unit {0}
IsShort entry.Stranded = Unit {0}

-- A history that is a run ended at a limit because of an entry that isn't in it: the entry is legal, within the fuel, a Local
-- of no more steps than a Local may hold, and leaves a state that exceeds that limit and none before it in the order of kinds.
pub record HasLimit (kind : LimitKind) (e : Entry) (limits : Limits) (ds : List Fn) (es : List Entry) (fuel : ℕ) : Type 0 where
  pub state : State
  pub run : IsRun ds es state
  pub next : State
  pub leads : Leads (code_of ds) state e next
  pub affordable : steps_of es + cost_of e ≤ fuel
  pub short : IsShort e
  pub exceeds : FirstExceeded kind limits next

-- no prefix of a history leaves a state that exceeds a limit
abbrev pub StaysWithin : Limits → List Fn → List Entry → Type 0
StaysWithin limits ds es = (front back : List Entry) (s : State) → es ≡ front ++ back → after ds front ≡ Some s → IsWithin limits s
