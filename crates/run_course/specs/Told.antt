-- What the sinks were told of a history (own).
use Rattle.std.specs.Prelude.{◌≡◌, ◌≢◌, ◌≤◌, ◌⊎◌, ◌++◌, ◌∷◌, [], ℕ, List, Bool, true, false, take, Option, Some, None}
use Rattle.std.specs.Io.KnownBytes.{Appends}
use Rattle.hs_rules.specs.declared.entry.Entry.{Entry}
use Rattle.hs_rules.specs.Runs.{out, err}
use Rattle.rules_expansion.specs.trees.Programs.{Fn}
use Rattle.run_course.specs.declared.ends.RunEnd.{RunEnd}
use Rattle.run_course.specs.declared.ends.RunEnd.TheVariants as end

-- since it was lent, a sink was told the front of the whole, and some of the first bytes of the rest
abbrev pub AppendsPart : (lent now : Option (List ℕ)) → (front whole : List ℕ) → Type 0
AppendsPart lent now front whole = (rest : List ℕ) × (whole ≡ front ++ rest) × (n : ℕ) × Appends lent now (front ++ take n rest)

-- What the history but for its last entry prints was told, and on one of the sinks some of the first bytes that the last entry
-- prints.
pub record IsCutOff (ds : List Fn) (es : List Entry) (out_lent out_now err_lent err_now : Option (List ℕ)) : Type 0 where
  pub front : List Entry
  pub last : Entry
  pub is : es ≡ front ++ last ∷ []
  pub told : (AppendsPart out_lent out_now (out ds front) (out ds es) × Appends err_lent err_now (err ds front))
      ⊎ (Appends out_lent out_now (out ds front) × AppendsPart err_lent err_now (err ds front) (err ds es))
  -- an entry that prints nothing is put nowhere
  pub prints : (out ds es ≡ out ds front) × (err ds es ≡ err ds front) → ⊥

abbrev pub is_write : Option RunEnd → Bool
is_write None = false
is_write (Some end.Done) = false
is_write (Some end.Uncaught) = false
is_write (Some end.Deadlock) = false
is_write (Some end.Fuel) = false
is_write (Some end.Memory) = false
is_write (Some end.Write) = true
is_write (Some (end.Limit kind e)) = false

abbrev pub ToldBy : Bool → List Fn → List Entry → (out_lent out_now err_lent err_now : Option (List ℕ)) → Type 0
ToldBy false ds es out_lent out_now err_lent err_now = Appends out_lent out_now (out ds es) × Appends err_lent err_now (err ds es)
ToldBy true ds es out_lent out_now err_lent err_now = IsCutOff ds es out_lent out_now err_lent err_now

-- Since they were lent the sinks were told what the history prints; after a failed put, what all but its last entry print, and a
-- part of what that one prints.
abbrev pub ToldOf : Option RunEnd → List Fn → List Entry → (out_lent out_now err_lent err_now : Option (List ℕ)) → Type 0
ToldOf ended ds es out_lent out_now err_lent err_now = ToldBy (is_write ended) ds es out_lent out_now err_lent err_now

-- both pieces were appended, each to its sink
abbrev pub Both : (out_old out_new err_old err_new : Option (List ℕ)) → (output errors : List ℕ) → Type 0
Both out_old out_new err_old err_new output errors = Appends out_old out_new output × Appends err_old err_new errors

-- a put of the one piece, which isn't empty, failed, and the other is empty
abbrev pub OneFailed : (out_old out_new err_old err_new : Option (List ℕ)) → (output errors : List ℕ) → Type 0
OneFailed out_old out_new err_old err_new output errors =
    (((n : ℕ) × Appends out_old out_new (take n output)) × (output ≢ []) × (err_new ≡ err_old))
    ⊎ (((n : ℕ) × Appends err_old err_new (take n errors)) × (errors ≢ []) × (out_new ≡ out_old))

-- no count of faults fell
pub record Counted (out_old out_new err_old err_new : ℕ) : Type 0 where
  pub output : out_old ≤ out_new
  pub errors : err_old ≤ err_new
