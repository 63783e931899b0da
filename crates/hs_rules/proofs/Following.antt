-- A history in which nobody is stranded is a run where its entries follow one another.
use Rattle.std.proofs.Common.{◌≡◌, List, [], ◌∷◌, Option, Some, None, refl}
use Rattle.std.proofs.lemmas.Option.{same_Some}
use Rattle.hs_rules.specs.declared.entry.Entry.{Entry}
use Rattle.hs_rules.specs.declared.entry.Entry.TheVariants as entry
use Rattle.rules_expansion.specs.trees.Programs.{Fn}
use Rattle.rules_meaning.specs.CoreMeaning.{Code, code_of}
use Rattle.hs_rules.specs.State.{State}
use Rattle.hs_rules.specs.Entries.{next, IsTimely}
use Rattle.hs_rules.specs.Runs.{Run, IsRun, then_next, after_from, after, first_of}

abbrev pub IsOrdinary : Entry → Type 0
IsOrdinary entry.Stranded = ⊥
IsOrdinary _ = Unit {0}

abbrev pub AllOrdinary : List Entry → Type 0
AllOrdinary [] = Unit {0}
AllOrdinary (e ∷ es) = IsOrdinary e × AllOrdinary es

timely : (code : Code) (s : State) (e : Entry) → IsOrdinary e → IsTimely code s e
timely code s (entry.Local t k) o = tt
timely code s (entry.Op t) o = tt
timely code s (entry.Receive t) o = tt
timely code s (entry.Wake t) o = tt
timely code s (entry.Finish t) o = tt
timely code s (entry.Tick at) o = tt
timely code s entry.Stranded o = absurd o

then_some : (o : Option State) (k : State → Option State) (u : State) → then_next o k ≡ Some u → (m : State) × (o ≡ Some m) × (k m ≡ Some u)
then_some None k u h = let e : ⊥ = cc in absurd e
then_some (Some m) k u h = (m, refl, h)

pub run_of : (code : Code) (s u : State) (es : List Entry) → AllOrdinary es → after_from code s es ≡ Some u → Run code s es u
run_of code s u [] o h = same_Some s u h
run_of code s u (e ∷ es) o h =
    let (m, stepped, rest) = then_some (next code s e) (λ v. after_from code v es) u h in
    (m, (stepped, timely code s e o.0), run_of code m u es o.1 rest)

pub is_run_of : (ds : List Fn) (u : State) (es : List Entry) → AllOrdinary es → after ds es ≡ Some u → IsRun ds es u
is_run_of ds u es o h =
    let (s, first, rest) = then_some (first_of ds) (λ v. after_from (code_of ds) v es) u h in
    (s, first, run_of (code_of ds) s u es o rest)
