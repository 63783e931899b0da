-- What a put does to the bytes that a sink was told, and what a wait does to a clock (own).
use Rattle.std.specs.Prelude.{ℕ, ◌⊎◌, ◌≤◌, ◌==◌, if◌then◌else◌, List, [], ◌∷◌, take, Some, None, MatchResult}
use Rattle.std.specs.declared.result.Result.{Result}
use Rattle.std.specs.declared.option.Option.{Option}
use Rattle.std.specs.Io.KnownBytes.{Appends}
use Rattle.hs_io.specs.Causes.{Rose}

-- At `Ok` the sink was told the whole piece, at `Err` the first bytes of it, where it tells what it was told.
abbrev pub Puts : {E : Type 0} → Option (List ℕ) → Option (List ℕ) → Result Unit E → List ℕ → Type 0
Puts old new result piece = MatchResult result (λ _. Appends old new piece) (λ _. (n : ℕ) × Appends old new (take n piece))

-- How many bytes a call tells at most, where it is one that a list of pairs (call, bytes) lets fail: the first such pair counts.
abbrev pub stop_of : List (ℕ × ℕ) → ℕ → Option ℕ
stop_of [] call = None
stop_of (pair ∷ pairs) call = if pair.0 == call then Some pair.1 else stop_of pairs call

-- After a wait for a moment the last reading is at least that moment, or one more early wait was counted. No reading
-- and no count falls.
pub record Waits (at last_before last_now early_before early_now : ℕ) : Type 0 where
  pub forward : last_before ≤ last_now
  pub counted : early_before ≤ early_now
  pub reached : (at ≤ last_now) ⊎ Rose early_before early_now
