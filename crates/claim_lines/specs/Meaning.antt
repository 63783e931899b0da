-- What an outcome must be to meet a claim (own). `output T` speaks of the whole output, line feeds and all, `output has T` of a text that
-- stands in it; the same for error output, to which the line of an uncaught exception belongs. `stuck` says that main was left waiting
-- for ever: the end is a deadlock, or main ended by the exception of `base` that tells it so.
use Rattle.std.specs.Prelude.{◌≡◌, ℕ, Bool, true, false, List, ◌++◌, ◌⊎◌, codes}
use Rattle.std.specs.List.{AllByRecursion}
use Rattle.outcome_laws.specs.Outcomes as laws
use Rattle.outcome_laws.specs.Outcomes.{Outcome}
use Rattle.claim_lines.specs.declared.claim.Part.{Part}
use Rattle.claim_lines.specs.declared.claim.Part.TheVariants.{Done, Uncaught, Deadlock, Stuck, Output, Errors, OutputHas, ErrorsHas}

-- a part stands somewhere in the whole
pub record Has (whole part : List ℕ) : Type 0 where
  pub before : List ℕ
  pub after : List ℕ
  pub split : whole ≡ before ++ part ++ after

pub record EndsWith (whole part : List ℕ) : Type 0 where
  pub before : List ℕ
  pub split : whole ≡ before ++ part

-- the line of a main that was told that it waits for ever
abbrev pub told_line : List ℕ
told_line = codes "uncaught exception in main: thread blocked indefinitely in an MVar operation\n"

abbrev pub IsStuck : Outcome → Type 0
IsStuck o = (o.end ≡ laws.Deadlock) ⊎ ((o.end ≡ laws.Uncaught) × EndsWith o.errors told_line)

abbrev pub MeetsPart : Outcome → Part → Type 0
MeetsPart o Done = o.end ≡ laws.Done
MeetsPart o Uncaught = o.end ≡ laws.Uncaught
MeetsPart o Deadlock = o.end ≡ laws.Deadlock
MeetsPart o Stuck = IsStuck o
MeetsPart o (Output text) = o.output ≡ text
MeetsPart o (Errors text) = o.errors ≡ text
MeetsPart o (OutputHas text) = Has o.output text
MeetsPart o (ErrorsHas text) = Has o.errors text

-- an outcome meets all the parts at once
abbrev pub Meets : List Part → Outcome → Type 0
Meets parts o = AllByRecursion (MeetsPart o) parts

-- whether an outcome meets them is this
abbrev pub MetIs : List Part → Bool → Outcome → Type 0
MetIs parts true o = Meets parts o
MetIs parts false o = ¬ Meets parts o
