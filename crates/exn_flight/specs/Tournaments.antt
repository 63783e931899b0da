-- Sleepers by place, and the nodes that tell who is first.
use Rattle.std.specs.Prelude.{◌≡◌, ◌≢◌, ℕ, ◌+◌, ◌<◌, ◌≤◌, Bool, true, false, cond, List, [], ◌∷◌, length, drop, slice_index_or, Option, Some, None}
use Rattle.rules_waiting.specs.Waiting.{Sleeper, sleeper_before}

abbrev pub goes_first : Option Sleeper → Option Sleeper → Bool
goes_first None b = false
goes_first (Some s) None = true
goes_first (Some s) (Some r) = sleeper_before s r

abbrev pub first_of : Option Sleeper → Option Sleeper → Option Sleeper
first_of a b = cond (goes_first a b) a b

-- the first of all
abbrev pub best : List (Option Sleeper) → Option Sleeper
best [] = None
best (o ∷ os) = first_of (best os) o

abbrev pub node : List (Option Sleeper) → ℕ → Option Sleeper
node ns i = slice_index_or ns i None

-- nobody is anywhere
abbrev pub IsVacant : List (Option Sleeper) → Type 0
IsVacant os = (k : ℕ) → node os k ≡ None

-- node i has the first of those below it
abbrev pub IsWon : List (Option Sleeper) → ℕ → Type 0
IsWon ns i = node ns i ≡ first_of (node ns (i + i)) (node ns (i + i + 1))

abbrev pub AreWon : ℕ → List (Option Sleeper) → Type 0
AreWon n ns = (i : ℕ) → 1 ≤ i → i < n → IsWon ns i

-- all nodes, unless the one right above this
abbrev pub AreWonBut : ℕ → ℕ → List (Option Sleeper) → Type 0
AreWonBut at n ns = (i : ℕ) → 1 ≤ i → i < n → i + i ≢ at → i + i + 1 ≢ at → IsWon ns i

pub record IsTournament (n : ℕ) (ns : List (Option Sleeper)) : Type 0 where
  pub size : length ns ≡ n + n
  pub won : AreWon n ns

-- a climb has come to this node, and left the places as they were
pub record Climbs (n : ℕ) (was ns : List (Option Sleeper)) (at : ℕ) : Type 0 where
  pub size : length ns ≡ n + n
  pub within : at < n + n
  pub won : AreWonBut at n ns
  pub leaves : drop n ns ≡ drop n was
