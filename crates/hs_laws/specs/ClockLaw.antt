-- The law of the clock (own): where a Tick may stand in a history.
use Rattle.std.specs.Prelude.{◌≡◌, ◌≢◌, ℕ, ◌<◌, ◌≤◌, List, [], ◌∷◌, ◌++◌, length, Contains, Option, Some, None, ◌⊎◌, slice_get}
use Rattle.hs_rules.specs.declared.entry.Entry.{Entry}
use Rattle.hs_rules.specs.declared.entry.Entry.TheVariants as entry
use Rattle.rules_expansion.specs.trees.Programs.{Fn}
use Rattle.rules_expansion.specs.declared.primitive.Primitive.TheVariants.{ThreadDelay, ClockMicros}
use Rattle.rules_meaning.specs.CoreMeaning.{Code, code_of}
use Rattle.hs_rules.specs.Terms.{Operation, Calls}
use Rattle.rules_waiting.specs.Waiting.{sleepers_of, sorted_sleepers, earliest}
use Rattle.hs_rules.specs.State.{State}
use Rattle.hs_rules.specs.Entries.{IsLegal}
use Rattle.hs_rules.specs.Endings.{IsTick, IsQuiet}
use Rattle.hs_rules.specs.Runs.{after}
use Rattle.hs_laws.specs.BracketPhases.{At}

-- an operation that reads the clock, or waits for it
abbrev pub AsksClock : Operation → Type 0
AsksClock (Calls ThreadDelay vs) = Unit {0}
AsksClock (Calls ClockMicros vs) = Unit {0}
AsksClock _ = ⊥

-- a thread stands at such an operation, and its Op is legal
pub record ClockAsked (code : Code) (s : State) : Type 0 where
  pub thread : ℕ
  pub stands : At AsksClock (slice_get s.threads thread)
  pub legal : IsLegal code s (entry.Op thread)

-- when the first sleeper of a state may wake
abbrev pub first_due : State → Option ℕ
first_due s = earliest (sorted_sleepers (sleepers_of s.blocked))

abbrev pub IsFrom : ℕ → Option ℕ → Type 0
IsFrom at None = Unit {0}
IsFrom at (Some due) = due ≤ at

-- the last entry of a history is a Tick
abbrev pub EndsInTick : List Entry → Type 0
EndsInTick es = (front : List Entry) × (at : ℕ) × (es ≡ front ++ entry.Tick at ∷ [])

-- A Tick to this time, after a history that leaves state s, is wanted: somebody sleeps, or an operation asks for the clock.
-- Beside other work it moves the clock, and isn't the second in a row.
pub record TickStands (code : Code) (es : List Entry) (s : State) (at : ℕ) : Type 0 where
  pub wanted : (sleepers_of s.blocked ≢ []) ⊎ ClockAsked code s
  pub beside : (e : Entry) → ¬ IsTick e → IsLegal code s e → (s.clock < at) × ¬ EndsInTick es

-- where nothing else is legal, it isn't before the first sleeper may wake
abbrev pub IsPunctual : Code → State → ℕ → Type 0
IsPunctual code s at = IsQuiet code s → IsFrom at (first_due s)

-- Each Tick of a history stands where it may, and each is punctual but for at most this many, at these places.
pub record ClockKept (ds : List Fn) (es : List Entry) (early : ℕ) : Type 0 where
  pub places : List ℕ
  pub few : length places ≤ early
  pub stands : (front back : List Entry) (at : ℕ) (s : State) → es ≡ front ++ entry.Tick at ∷ back → after ds front ≡ Some s → TickStands (code_of ds) front s at
  pub punctual : (front back : List Entry) (at : ℕ) (s : State) → es ≡ front ++ entry.Tick at ∷ back → after ds front ≡ Some s → IsPunctual (code_of ds) s at ⊎ Contains places (length front)
