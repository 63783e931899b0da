-- What reading the source gives (own).
use Rattle.std.specs.Prelude.{◌≡◌, ◌<◌, ◌≤◌, ◌+◌, ◌++◌, ◌⊎◌, ℕ, List, [], drop, length, Option, Some, IfSome}
use Rattle.std.specs.Io.KnownBytes.{Consumes, IsAtEnd}
use Rattle.hs_base.specs.declared.tree.script.Script.{Script}
use Rattle.hs_io.specs.Causes.{Rose}
use Rattle.hs_compile.specs.Verdicts.{script_limit, IsAccepted}
use Rattle.conc_task.specs.declared.input.Input.{Input}
use Rattle.conc_task.specs.declared.input.Input.TheVariants.{Bytes, Fault, NoMemory}
use Rattle.conc_task.specs.declared.input.More.{More}
use Rattle.conc_task.specs.declared.input.More.TheVariants as more
use Rattle.conc_task.specs.Documents.{IsLeft}

-- at most one byte more than the limit was taken from the source
abbrev pub TookFew : (limit : ℕ) → (before now : Option (List ℕ)) → Type 0
TookFew limit before now = IfSome before (λ bytes. (n : ℕ) × (n ≤ limit + 1) × (now ≡ Some (drop n bytes)))

-- it was read to its end, or to the first byte past the limit
abbrev pub ReadThrough : (limit : ℕ) → (before now : Option (List ℕ)) → Type 0
ReadThrough limit before now = IfSome before (λ bytes. now ≡ Some (drop (limit + 1) bytes))

-- these bytes are a script that the grammar and the typing rules accept
abbrev pub IsScript : List ℕ → Type 0
IsScript bytes = (s : Script) × IsAccepted bytes s

-- the source had this script, and was read through
pub record HadScript (before now : Option (List ℕ)) (s : Script) : Type 0 where
  pub bytes : List ℕ
  pub left : IsLeft before bytes
  pub accepted : IsAccepted bytes s
  pub through : ReadThrough script_limit before now

-- the source had an accepted script, and was read through
abbrev pub HadSome : (before now : Option (List ℕ)) → Type 0
HadSome before now = (s : Script) × HadScript before now s

-- the source had this script, in these bytes
abbrev pub HadBytes : (before now : Option (List ℕ)) → Script → List ℕ → Type 0
HadBytes before now s bytes = (had : HadScript before now s) × (had.bytes ≡ bytes)

-- ---- the steps of reading

-- these bytes are all, or one more than the limit
abbrev pub IsWhole : (limit : ℕ) → List ℕ → (now : Option (List ℕ)) → Type 0
IsWhole limit bytes now = ((length bytes ≤ limit) × IsAtEnd now) ⊎ (length bytes ≡ limit + 1)

-- these bytes were taken, and they are such
abbrev pub TakesWhole : (limit : ℕ) → (before now : Option (List ℕ)) → List ℕ → Type 0
TakesWhole limit before now bytes = Consumes before now bytes × IsWhole limit bytes now

-- these bytes were taken, at most one more than the limit
pub record Took (limit : ℕ) (before now : Option (List ℕ)) (taken : List ℕ) : Type 0 where
  pub consumed : Consumes before now taken
  pub few : length taken ≤ limit + 1

-- All that the source had left, or the first bytes, one more than the limit. Only a failed read raises the count of
-- faults, and in every case so many bytes at most were taken.
abbrev pub Reads : (limit : ℕ) → Input → (before now : Option (List ℕ)) (faults_before faults_now : ℕ) → Type 0
Reads limit (Bytes bytes) before now faults_before faults_now = Consumes before now bytes.items × IsWhole limit bytes.items now × (faults_now ≡ faults_before)
Reads limit Fault before now faults_before faults_now = Rose faults_before faults_now × (faults_before ≤ faults_now) × (taken : List ℕ) × Took limit before now taken
Reads limit NoMemory before now faults_before faults_now = (faults_now ≡ faults_before) × (taken : List ℕ) × Took limit before now taken

-- What one read adds to the bytes that were taken: a piece that is not empty and fits, or nothing at the end. Where there is
-- no memory for the piece it was taken all the same.
abbrev pub Adds : More → (most : ℕ) (before now : Option (List ℕ)) (old new : List ℕ) (faults_before faults_now : ℕ) → Type 0
Adds more.Taken most before now old new faults_before faults_now =
    (piece : List ℕ) × (new ≡ old ++ piece) × Consumes before now piece × (0 < length piece) × (length piece ≤ most) × (faults_now ≡ faults_before)
Adds more.End most before now old new faults_before faults_now = (new ≡ old) × Consumes before now [] × IsAtEnd now × (faults_now ≡ faults_before)
Adds more.Fault most before now old new faults_before faults_now = Rose faults_before faults_now × (faults_before ≤ faults_now) × Consumes before now []
Adds more.NoMemory most before now old new faults_before faults_now =
    (faults_now ≡ faults_before) × (piece : List ℕ) × Consumes before now piece × (length piece ≤ most)

-- These bytes were taken from a source, at most one more than the limit, and its count of faults is as it was.
pub record HasTaken (limit : ℕ) (before now : Option (List ℕ)) (taken : List ℕ) (faults_before faults_now : ℕ) : Type 0 where
  pub took : Took limit before now taken
  pub steady : faults_now ≡ faults_before
