-- What `Sleepers` means: the sleepers by due, and of one due by thread, and how many more fit.
use Rattle.std.specs.Prelude.{◌≡◌, ◌-◌, ◌≤◌, ℕ, ◌==◌, true, cond, List, [], ◌∷◌, length, slice_index_or, Option, Some, None}
use Rattle.rules_waiting.specs.Waiting.{Sleeper, sleeper_before}

pub record Asleep : Type 0 where
  pub list : List Sleeper
  pub spare : ℕ

abbrev pub asleep : List Sleeper → ℕ → Asleep
asleep ss spare = record { list = ss; spare = spare }

-- the sleeper is before all of these
abbrev pub IsBeforeAll : Sleeper → List Sleeper → Type 0
IsBeforeAll s [] = Unit {0}
IsBeforeAll s (r ∷ rs) = (sleeper_before s r ≡ true) × IsBeforeAll s rs

abbrev pub AreInOrder : List Sleeper → Type 0
AreInOrder [] = Unit {0}
AreInOrder (s ∷ ss) = IsBeforeAll s ss × AreInOrder ss

-- when the thread may wake: the time of the first entry that is its own (own)
abbrev pub due_of : ℕ → List Sleeper → Option ℕ
due_of t [] = None
due_of t (s ∷ ss) = cond (s.thread == t) (Some s.due) (due_of t ss)

-- ---- sleepers by place
abbrev pub with_sleeper : Option Sleeper → List Sleeper → List Sleeper
with_sleeper None ss = ss
with_sleeper (Some s) ss = s ∷ ss

-- who is at some place
abbrev pub sleepers_at : List (Option Sleeper) → List Sleeper
sleepers_at [] = []
sleepers_at (o ∷ os) = with_sleeper o (sleepers_at os)

-- the thread is at this place
pub record IsAt (os : List (Option Sleeper)) (t k : ℕ) : Type 0 where
  pub sleeper : Sleeper
  pub is : slice_index_or os k None ≡ Some sleeper
  pub thread : sleeper.thread ≡ t

-- The table has each sleeper's place, and at the last places, so many, is nobody.
pub record ArePlaced (os : List (Option Sleeper)) (free : ℕ) (places : ℕ → Option ℕ) : Type 0 where
  pub within : free ≤ length os
  pub vacant : (k : ℕ) → length os - free ≤ k → slice_index_or os k None ≡ None
  pub place : (t k : ℕ) → places t ≡ Some k → IsAt os t k
  pub sleeper : (k : ℕ) (s : Sleeper) → slice_index_or os k None ≡ Some s → places s.thread ≡ Some k
