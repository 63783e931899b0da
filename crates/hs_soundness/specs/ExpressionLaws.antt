-- What the expressions of core actions give (own).
use Rattle.std.specs.Prelude.{◌≡◌, ℕ, List}
use Rattle.hs_base.specs.declared.tree.script.Script.{Script}
use Rattle.rules_expansion.specs.trees.Programs.{Fn, script_of}
use Rattle.rules_meaning.specs.Values.{V, Env}
use Rattle.rules_sorts.specs.Sorts.{SortedName, Sort}
use Rattle.rules_typing.specs.Typing.{Ctx}
use Rattle.rules_typing.specs.TypingScripts.{Accepted, sigs_from}
use Rattle.rules_meaning.specs.Meaning.{functions_of}
use Rattle.rules_code.specs.Slots.{roots_of, run}
use Rattle.rules_expansion.specs.Core.{CoreEx}
use Rattle.rules_meaning.specs.CoreMeaning.{value_of_core}
use Rattle.rules_code.specs.CodeTrees.{slotted_core_ex}
use Rattle.rules_sorts.specs.TypedMeaning.{any_cell}
use Rattle.hs_soundness.specs.CoreSorts.{CoreHas, FitsScope, GoodSort, SlotsFit, names_of}

-- In an accepted script an expression that has a sort in a scope gives a value of that sort or an exception, in every
-- environment that fits the scope.
abbrev pub ExpressionsKeepSorts : Type 0
ExpressionsKeepSorts =
    (s : Script) (here : ℕ) (g : List SortedName) (env : Env) (e : CoreEx) (k : Sort) → Accepted s →
    CoreHas (record { sigs = sigs_from 0 (script_of s); here = here }) g e k → FitsScope any_cell g env →
    GoodSort any_cell k (value_of_core (functions_of (script_of s)) env e)

-- An expression that has a sort in a scope gives the same with slots for the names of the scope, in values of slots that are an
-- environment and fit the scope, as with names in that environment.
abbrev pub SlotsMeanTheSame : Type 0
SlotsMeanTheSame =
    (script : List Fn) (c : Ctx) (g : List SortedName) (env : Env) (vs : List V) (e : CoreEx) (k : Sort) → CoreHas c g e k →
    SlotsFit any_cell g env vs →
    run (slotted_core_ex (roots_of script) (names_of g) e) vs ≡ value_of_core (functions_of script) env e
