-- What is to be shown without a run, each of it.
use Rattle.std.proofs.Common.{◌≡◌, ◌≤◌, ℕ, List, length, subst}
use Rattle.std.specs.Prelude.{Option}
use Rattle.conc_task.specs.declared.words.command.Command.{Command}
use Rattle.conc_task.specs.declared.task.Asked.{Asked}
use Rattle.conc_task.specs.declared.task.Asked.TheVariants.{Outcomes, Claims, Module, Document}
use Rattle.conc_task.specs.declared.task.Task.{Task}
use Rattle.conc_task.specs.declared.task.Task.TheVariants.{Show}
use Rattle.conc_task.specs.Commands.{Traces}
use Rattle.conc_task.specs.Tasks.{HasAsked, HasNumber, HasTask, NumbersOutcome}
use Rattle.conc_top.specs.Answers.{IsShortIn, IsShownOf, IsUnshown}
use Rattle.conc_top.proofs.Shown.{Answers}
use Rattle.conc_top.proofs.Listings.{list_answers}
use Rattle.conc_top.proofs.Decisions.{claims_answers}
use Rattle.conc_top.proofs.Printing.{module_answers}
use Rattle.conc_top.proofs.Questions.{document_answers}

pub has_asked : (command : Option Command) (before now : Option (List ℕ)) (task : Task) (it : Asked) → task ≡ Show it → HasTask command before now task → HasAsked command before now it
has_asked command before now task it is has = subst (HasTask command before now) is has

pub has_number : (task : Task) (it : Asked) → task ≡ Show it → HasNumber task → NumbersOutcome it
has_number task it is has = subst HasNumber is has

-- the bytes that claims are read of are those of a script
pub is_short : (command : Option Command) (before now : Option (List ℕ)) (it : Asked) → HasAsked command before now it → IsShortIn it
is_short command before now (Outcomes sought witness) has = tt
is_short command before now (Claims sought) has = has.1.accepted.0.0
is_short command before now (Module script) has = tt
is_short command before now (Document question replay) has = tt

-- no history is written
pub asked_traces : (command : Option Command) (before now : Option (List ℕ)) (it : Asked) → HasAsked command before now it → Traces command → ⊥
asked_traces command before now (Outcomes sought witness) has traces = subst Traces has.0 traces
asked_traces command before now (Claims sought) has traces = subst Traces has.0 traces
asked_traces command before now (Module script) has traces = subst Traces has.0 traces
asked_traces command before now (Document question replay) has traces = subst Traces has.asks traces

pub asked_answers : (command : Option Command) (before now : Option (List ℕ)) (it : Asked) → HasAsked command before now it → (read_fault write_fault : Type 0)
    → Answers command before now (IsShownOf it) (IsUnshown it) read_fault write_fault
asked_answers command before now (Outcomes sought witness) has read_fault write_fault = list_answers command before now sought witness has read_fault write_fault
asked_answers command before now (Claims sought) has read_fault write_fault = claims_answers command before now sought has read_fault write_fault
asked_answers command before now (Module script) has read_fault write_fault = module_answers command before now script has read_fault write_fault
asked_answers command before now (Document question replay) has read_fault write_fault = document_answers command before now question replay has read_fault write_fault
