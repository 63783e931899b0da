-- That all that a run evaluates may be evaluated (own).
use Rattle.std.specs.Prelude.{◌≡◌, ℕ, List, Some, slice_get}
use Rattle.hs_base.specs.declared.tree.script.Script.{Script}
use Rattle.hs_rules.specs.declared.entry.Entry.{Entry}
use Rattle.rules_expansion.specs.trees.Programs.{script_of}
use Rattle.rules_expansion.specs.Core.{Core}
use Rattle.rules_meaning.specs.Values.{Env}
use Rattle.rules_meaning.specs.CoreMeaning.{code_of}
use Rattle.rules_typing.specs.TypingScripts.{Accepted}
use Rattle.hs_rules.specs.Terms.{Do, Term}
use Rattle.hs_rules.specs.LocalRules.{locals}
use Rattle.hs_rules.specs.State.{State, Thread}
use Rattle.hs_rules.specs.Runs.{IsRun}
use Rattle.hs_progress.specs.Evaluated.{MayEvaluate}

-- In a state of a run of an accepted script, and after any number of local rules of a thread from there: where the thread is to
-- do an action, what the first step of that action evaluates may be evaluated in its environment.
abbrev pub RunsMayEvaluate : Type 0
RunsMayEvaluate =
    (s : Script) → Accepted s →
    (es : List Entry) (u : State) → IsRun (script_of s) es u →
    (t : ℕ) (th : Thread) → slice_get u.threads t ≡ Some th →
    (k : ℕ) (x : Term) → locals (code_of (script_of s)) k th.term ≡ Some x →
    (a : Core) (env : Env) → x.part ≡ Do a env →
    MayEvaluate (script_of s) a env
