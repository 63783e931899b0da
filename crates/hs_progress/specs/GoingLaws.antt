-- Never stuck (own).
use Rattle.std.specs.Prelude.{◌≡◌, ℕ, List, Some}
use Rattle.hs_base.specs.declared.tree.script.Script.{Script}
use Rattle.hs_rules.specs.declared.entry.Entry.{Entry}
use Rattle.rules_expansion.specs.trees.Programs.{script_of}
use Rattle.rules_meaning.specs.CoreMeaning.{code_of}
use Rattle.rules_typing.specs.TypingScripts.{Accepted}
use Rattle.hs_rules.specs.Terms.{Operation, Performs, mask_at}
use Rattle.hs_rules.specs.State.{State, Thread}
use Rattle.hs_rules.specs.Primitives.{operated}
use Rattle.hs_rules.specs.Entries.{IsLegal}
use Rattle.hs_rules.specs.Runs.{IsRun}
use Rattle.hs_progress.specs.GoingOn.{MainRuns, IsRunning, own_entry}

-- In a state of a run of an accepted script, where main hasn't finished, the own entry of each thread that hasn't finished and
-- isn't blocked is legal.
abbrev pub RunningThreadsGoOn : Type 0
RunningThreadsGoOn =
    (s : Script) → Accepted s →
    (es : List Entry) (u : State) → IsRun (script_of s) es u → MainRuns u →
    (t : ℕ) (th : Thread) → IsRunning u t th →
    IsLegal (code_of (script_of s)) u (own_entry t th.term.part th.term.frames)

-- In a state of a run of an accepted script the operation of a thread that hasn't finished and isn't blocked leaves a state.
abbrev pub OperationsLeaveStates : Type 0
OperationsLeaveStates =
    (s : Script) → Accepted s →
    (es : List Entry) (u : State) → IsRun (script_of s) es u →
    (t : ℕ) (th : Thread) → IsRunning u t th →
    (op : Operation) → th.term.part ≡ Performs op →
    (v : State) × (operated t (mask_at th.term.frames) op u ≡ Some v)
