-- The parts of a line, as they are read from the left.
use Rattle.std.specs.Prelude.{◌≡◌, ◌≢◌, ℕ, ◌<◌, ◌≤◌, ◌^◌, List, [], ◌∷◌, ◌++◌, length, slice_index}
use Rattle.std.specs.Fmt.{decimal}
use Rattle.std.specs.Char.{digit_value}
use Rattle.hs_rules.specs.declared.entry.Entry.{Entry}
use Rattle.hs_rules.specs.declared.entry.Entry.TheVariants.{Local, Op, Receive, Wake, Finish, Tick, Stranded}
use Rattle.trace_text.specs.spelling.Traces.{Fits}

-- a blank, a number, and what stands behind it
abbrev pub number_then : ℕ → List ℕ → List ℕ
number_then n rest = 32 ∷ (decimal n ++ rest)

-- no digit goes on here
abbrev pub EndsNumber : List ℕ → Type 0
EndsNumber [] = Unit {0}
EndsNumber (b ∷ bs) = 10 ≤ digit_value b

-- there is a digit, and no zero stands before others
abbrev pub HasNumberForm : List ℕ → Type 0
HasNumberForm digits = (0 < length digits) × (1 < length digits → slice_index digits 0 ≢ 48)

-- the bytes begin with a blank and this whole number, of so many bits, and then go on with the rest
pub record ReadsNumber (bits : ℕ) (bytes : List ℕ) (n : ℕ) (rest : List ℕ) : Type 0 where
  pub fits : n < 2 ^ bits
  pub spelled : bytes ≡ number_then n rest
  pub ends : EndsNumber rest

-- the letter that begins the line of an entry
abbrev pub letter_of : Entry → ℕ
letter_of (Local t k) = 76
letter_of (Op t) = 79
letter_of (Receive t) = 82
letter_of (Wake t) = 87
letter_of (Finish t) = 70
letter_of (Tick at) = 84
letter_of Stranded = 83

-- the numbers of an entry, and what stands behind them
abbrev pub numbers_then : Entry → List ℕ → List ℕ
numbers_then (Local t k) rest = number_then t (number_then k rest)
numbers_then (Op t) rest = number_then t rest
numbers_then (Receive t) rest = number_then t rest
numbers_then (Wake t) rest = number_then t rest
numbers_then (Finish t) rest = number_then t rest
numbers_then (Tick at) rest = number_then at rest
numbers_then Stranded rest = rest

-- no digit goes on behind the last number, if the entry has one
abbrev pub EndsNumbers : Entry → List ℕ → Type 0
EndsNumbers Stranded rest = Unit {0}
EndsNumbers (Local t k) rest = EndsNumber rest
EndsNumbers (Op t) rest = EndsNumber rest
EndsNumbers (Receive t) rest = EndsNumber rest
EndsNumbers (Wake t) rest = EndsNumber rest
EndsNumbers (Finish t) rest = EndsNumber rest
EndsNumbers (Tick at) rest = EndsNumber rest

-- behind this letter the bytes begin with the numbers of the entry, and then go on with the rest
pub record ReadsNumbers (letter : ℕ) (bytes : List ℕ) (e : Entry) (rest : List ℕ) : Type 0 where
  pub fits : Fits e
  pub named : letter_of e ≡ letter
  pub spelled : bytes ≡ numbers_then e rest
  pub ends : EndsNumbers e rest
