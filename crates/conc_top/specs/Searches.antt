-- What a search of a script answers, what is told of it and of its claims, and the module that a script is printed as (own).
use Rattle.std.specs.Prelude.{◌≡◌, ◌≢◌, ◌<◌, ◌+◌, ◌⊎◌, ℕ, List, [], length, slice_get, Option, Some, None}
use Rattle.std.specs.Str.{chars}
use Rattle.hs_base.specs.declared.limits.Limits.{Limits}
use Rattle.hs_base.specs.declared.pos.Pos.{Pos}
use Rattle.hs_base.specs.declared.tree.script.Script.{Script}
use Rattle.rules_expansion.specs.trees.Programs.{script_of}
use Rattle.rules_code.specs.declared.code.CodeBody.{CodeBody}
use Rattle.rules_code.specs.Codes.{body_of}
use Rattle.trace_text.specs.spelling.Traces.{document_of}
use Rattle.hs_compile.specs.Verdicts.{IsAccepted}
use Rattle.outcome_listing.specs.declared.bounds.Bounds.{Bounds}
use Rattle.outcome_listing.specs.declared.explored.Explored.{Explored}
use Rattle.outcome_listing.specs.declared.explored.Extent.{Extent}
use Rattle.outcome_listing.specs.declared.explored.Outcome.{Outcome}
use Rattle.outcome_listing.specs.Listing.{listing_of}
use Rattle.conc_outcomes.specs.Searching.{IsCodeOf}
use Rattle.conc_outcomes.specs.Exploring.{Explores}
use Rattle.claim_lines.specs.declared.claim.Claim.{Claim}
use Rattle.claim_lines.specs.declared.verdict.Judged.{Judged}
use Rattle.claim_lines.specs.declared.verdict.Verdict.{Verdict}
use Rattle.claim_lines.specs.Reading.{HasClaims, IsRefusedAt}
use Rattle.claim_lines.specs.Telling.{AllTell}
use Rattle.claim_lines.specs.Verdicts.{JudgeAll, judged_of, verdict_lines}
use Rattle.haskell_module.specs.Modules.{module_text}
use Rattle.conc_task.specs.declared.words.command.Command.{Command}
use Rattle.conc_task.specs.declared.words.command.Command.TheVariants as commands
use Rattle.conc_task.specs.declared.task.Search.{Search}
use Rattle.conc_top.specs.declared.ending.Ending.{Ending}
use Rattle.conc_top.specs.declared.ending.Ending.TheVariants.{ClaimRefused, Memory, NoClaim, NoOutcome}

-- the limits of a run: threads and cells ever made, frames over all unfinished threads, bytes of output and error output
abbrev pub limits : Limits
limits = record { threads = 65536; cells = 262144; frames = 200000; output = 8388608 }

-- the command searches its input within these bounds, of which the limits are those of a run, and asks for the run of this outcome
-- where it asks for one
abbrev pub Searches : Option Command → Bounds → (witness : Option ℕ) → Type 0
Searches words bounds witness = (words ≡ Some (commands.Outcomes bounds.clock bounds.states bounds.fuel witness)) × (bounds.limits ≡ limits)

-- this is what is promised of a search of the script that these bytes are
pub record IsExplored (bounds : Bounds) (bytes : List ℕ) (x : Explored) : Type 0 where
  pub script : Script
  pub accepted : IsAccepted bytes script
  pub body : CodeBody
  pub code : IsCodeOf body script
  pub explores : Explores bounds script body x

-- the text that is told of it: the list of its outcomes; or where an outcome is named, of which the first is 1, the document of
-- the run that comes to it and of the bytes that were read
abbrev pub IsToldOf : (witness : Option ℕ) → (bytes : List ℕ) → Explored → (text : List ℕ) → Type 0
IsToldOf None bytes x text = text ≡ listing_of x
IsToldOf (Some number) bytes x text =
    (place : ℕ) × (o : Outcome) × (number ≡ place + 1) × (slice_get x.outcomes place ≡ Some o) × (text ≡ document_of o.witness.list bytes)

-- such a search has this extent, and this text is told of it
pub record IsListing (bounds : Bounds) (witness : Option ℕ) (bytes : List ℕ) (extent : Extent) (text : List ℕ) : Type 0 where
  pub found : Explored
  pub explored : IsExplored bounds bytes found
  pub whole : found.extent ≡ extent
  pub told : IsToldOf witness bytes found text

-- that of the command is so
abbrev pub HasListing : Option Command → (bytes : List ℕ) → Extent → (text : List ℕ) → Type 0
HasListing words bytes extent text = (bounds : Bounds) × (witness : Option ℕ) × Searches words bounds witness × ∥ IsListing bounds witness bytes extent text ∥₁

-- it has some text
abbrev pub IsListed : Option Command → (bytes : List ℕ) → Extent → Type 0
IsListed words bytes extent = (text : List ℕ) × HasListing words bytes extent text

-- such a search has fewer outcomes
abbrev pub HasFewer : Bounds → (bytes : List ℕ) → ℕ → Type 0
HasFewer bounds bytes number = (x : Explored) × IsExplored bounds bytes x × (length x.outcomes < number)

-- the command asks for the run of the outcome of this number, and there is none
abbrev pub LacksOutcome : Option Command → (bytes : List ℕ) → ℕ → Type 0
LacksOutcome words bytes number = (bounds : Bounds) × Searches words bounds (Some number) × ∥ HasFewer bounds bytes number ∥₁

-- ---- claims

-- the command judges the claims of its input within these bounds, of which the limits are those of a run
abbrev pub JudgesWithin : Option Command → Bounds → Type 0
JudgesWithin words bounds = (words ≡ Some (commands.Claims bounds.clock bounds.states bounds.fuel)) × (bounds.limits ≡ limits)

-- the command judges claims
abbrev pub JudgesClaims : Option Command → Type 0
JudgesClaims words = (bounds : Bounds) × JudgesWithin words bounds

-- These are the claims of the bytes, some, and what the search decides of them comes to this, with this text. Each verdict tells of
-- all runs of the script.
pub record IsDecision (bounds : Bounds) (bytes : List ℕ) (j : Judged) (text : List ℕ) : Type 0 where
  pub found : Explored
  pub explored : IsExplored bounds bytes found
  pub claims : List Claim
  pub read : HasClaims (chars bytes) claims
  pub some : claims ≢ []
  pub verdicts : List Verdict
  pub judges : JudgeAll found claims verdicts
  pub tell : AllTell bounds.clock (script_of explored.script) found claims verdicts
  pub whole : j ≡ judged_of verdicts
  pub told : text ≡ verdict_lines claims verdicts

-- that of the command is so
abbrev pub HasDecision : Option Command → (bytes : List ℕ) → Judged → (text : List ℕ) → Type 0
HasDecision words bytes j text = (bounds : Bounds) × JudgesWithin words bounds × ∥ IsDecision bounds bytes j text ∥₁

-- it has some text
abbrev pub IsDecided : Option Command → (bytes : List ℕ) → Judged → Type 0
IsDecided words bytes j = (text : List ℕ) × HasDecision words bytes j text

-- the command judges claims, the bytes are an accepted script, and a claim of it isn't written so, first at this place
abbrev pub RefusesClaim : Option Command → (bytes : List ℕ) → Pos → Type 0
RefusesClaim words bytes at = JudgesClaims words × ((s : Script) × IsAccepted bytes s) × IsRefusedAt (chars bytes) at

-- the command judges claims, and the accepted script has none
abbrev pub LacksClaims : Option Command → (bytes : List ℕ) → Type 0
LacksClaims words bytes = JudgesClaims words × ((s : Script) × IsAccepted bytes s) × HasClaims (chars bytes) []

-- ---- a script as Haskell

-- the text is the module of the script that these bytes are
abbrev pub IsModule : (bytes text : List ℕ) → Type 0
IsModule bytes text = (s : Script) × IsAccepted bytes s × (text ≡ module_text (script_of s))

-- ---- the steps of it

-- the bounds of a search
abbrev pub bounds_of : Search → Bounds
bounds_of sought = record { states = sought.states; fuel = sought.fuel; limits = limits; clock = sought.clock }

-- this is what is promised of the search, whatever script its code is that of
abbrev pub IsSearched : Search → Explored → Type 0
IsSearched sought x = (script : Script) → IsCodeOf (body_of sought.code) script → Explores (bounds_of sought) script (body_of sought.code) x

-- no text is told of what was found, for want of memory, or since it has no outcome of the number that is named
abbrev pub IsUntold : (witness : Option ℕ) → Explored → Ending → Type 0
IsUntold witness x came = (came ≡ Memory) ⊎ ((number : ℕ) × (came ≡ NoOutcome number) × (witness ≡ Some number) × (length x.outcomes < number))

-- the search has this extent, and this text is told of it
abbrev pub IsListingOf : Search → (witness : Option ℕ) → Extent → (text : List ℕ) → Type 0
IsListingOf sought witness extent text = (x : Explored) × IsSearched sought x × (x.extent ≡ extent) × IsToldOf witness sought.script.items x text

-- no text is told of it, for this cause
abbrev pub IsUnlisted : Search → (witness : Option ℕ) → Ending → Type 0
IsUnlisted sought witness came = (came ≡ Memory) ⊎ ((x : Explored) × IsSearched sought x × IsUntold witness x came)

-- the bytes have claims, some, and what the search decides of them comes to this, with this text
abbrev pub IsDecisionOf : Search → Judged → (text : List ℕ) → Type 0
IsDecisionOf sought j text =
    (x : Explored) × IsSearched sought x × (claims : List Claim) × HasClaims (chars sought.script.items) claims × (claims ≢ [])
    × (verdicts : List Verdict) × JudgeAll x claims verdicts × (j ≡ judged_of verdicts) × (text ≡ verdict_lines claims verdicts)

-- no claims are read, for want of memory or since one isn't written so
abbrev pub IsUnread : (bytes : List ℕ) → Ending → Type 0
IsUnread bytes came = (came ≡ Memory) ⊎ ((at : Pos) × (came ≡ ClaimRefused at) × IsRefusedAt (chars bytes) at)

-- nothing is decided, for this cause
abbrev pub IsUndecided : Search → Ending → Type 0
IsUndecided sought came = IsUnread sought.script.items came ⊎ ((came ≡ NoClaim) × HasClaims (chars sought.script.items) [])
