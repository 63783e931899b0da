-- Runs (own): lists of entries that are legal one after another, from the first state of a script.
use Rattle.std.specs.Prelude.{◌≡◌, ℕ, List, [], ◌∷◌, Option, Some, None}
use Rattle.hs_rules.specs.declared.entry.Entry.{Entry}
use Rattle.rules_expansion.specs.trees.Programs.{Fn}
use Rattle.rules_expansion.specs.Core.{Core}
use Rattle.rules_meaning.specs.CoreMeaning.{Code, code_of}
use Rattle.rules_expansion.specs.Expansion.{main_of}
use Rattle.hs_rules.specs.State.{State, first}
use Rattle.hs_rules.specs.Entries.{next, Leads}

-- ---- from any state of some code

-- the entries lead from the one state to the other, each legal in the state that those before it leave
abbrev pub Run : Code → State → List Entry → State → Type 0
Run code s [] u = s ≡ u
Run code s (e ∷ es) u = (m : State) × Leads code s e m × Run code m es u

abbrev pub then_next : Option State → (State → Option State) → Option State
then_next None k = None
then_next (Some s) k = k s

-- the state that the entries leave, where they are legal
abbrev pub after_from : Code → State → List Entry → Option State
after_from code s [] = Some s
after_from code s (e ∷ es) = then_next (next code s e) (λ u. after_from code u es)

-- ---- of a script

abbrev pub begun : Option Core → Option State
begun None = None
begun (Some main) = Some (first main)

-- the first state of a script that has a `main`
abbrev pub first_of : List Fn → Option State
first_of ds = begun (main_of ds)

-- the state that a history leaves, where it is a run of the script
abbrev pub after : List Fn → List Entry → Option State
after ds es = then_next (first_of ds) (λ s. after_from (code_of ds) s es)

-- a history is a run of a script that leaves this state
abbrev pub IsRun : List Fn → List Entry → State → Type 0
IsRun ds es u = (s : State) × (first_of ds ≡ Some s) × Run (code_of ds) s es u

-- ---- what a run prints

abbrev pub output_of : Option State → List ℕ
output_of None = []
output_of (Some s) = s.output

abbrev pub errors_of : Option State → List ℕ
errors_of None = []
errors_of (Some s) = s.errors

-- the bytes that a run writes to standard output
abbrev pub out : List Fn → List Entry → List ℕ
out ds es = output_of (after ds es)

-- the bytes that a run writes to standard error
abbrev pub err : List Fn → List Entry → List ℕ
err ds es = errors_of (after ds es)
