-- When nothing but time can go on (own).
use Rattle.std.specs.Prelude.{◌≡◌, ◌∷◌, [], ℕ, List, Some, false, slice_get}
use Rattle.hs_base.specs.declared.exn.Exn.TheVariants.{BlockedIndefinitely}
use Rattle.hs_rules.specs.declared.entry.Entry.{Entry}
use Rattle.hs_rules.specs.declared.entry.Entry.TheVariants.{Stranded}
use Rattle.rules_expansion.specs.trees.Programs.{Fn}
use Rattle.rules_waiting.specs.Waiting.{sleepers_of}
use Rattle.hs_rules.specs.Terms.{Throw}
use Rattle.hs_rules.specs.State.{Thread, State, resume_all}
use Rattle.hs_rules.specs.Entries.{stranded, Leads}
use Rattle.hs_rules.specs.Runs.{IsRun}
use Rattle.rules_meaning.specs.CoreMeaning.{code_of}
use Rattle.hs_laws.specs.Standing.{NoneWorks}

-- In the state of a run where there is no work, main hasn't finished and nobody sleeps, those who are to be stranded, if there
-- are any, may be: a Stranded is legal, and throws `BlockedIndefinitely` at each of them.
abbrev pub WaitingThreadsAreStranded : Type 0
WaitingThreadsAreStranded =
    (ds : List Fn) (es : List Entry) (s : State) → IsRun ds es s → NoneWorks s →
    (main : Thread) → slice_get s.threads 0 ≡ Some main → main.finished ≡ false → sleepers_of s.blocked ≡ [] →
    (t : ℕ) (ts : List ℕ) → stranded s ≡ t ∷ ts →
    Leads (code_of ds) s Stranded (resume_all (stranded s) (Throw BlockedIndefinitely) s)
