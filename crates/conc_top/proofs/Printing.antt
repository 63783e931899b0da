-- What the module of a script comes to.
use Rattle.std.proofs.Common.{◌≡◌, ℕ, List, refl, sym, ap, subst, inl}
use Rattle.std.specs.Prelude.{Option, Some}
use Rattle.hs_base.specs.declared.clock_choice.ClockChoice.{ClockChoice}
use Rattle.hs_base.specs.declared.tree.script.Script.{Script}
use Rattle.hs_rules.specs.declared.entry.Entry.{Entry}
use Rattle.conc_caps.specs.Runs.{Shown}
use Rattle.conc_task.specs.declared.words.command.Command.{Command}
use Rattle.conc_task.specs.declared.task.Asked.TheVariants as asked
use Rattle.conc_task.specs.Commands.{IsInput, source_limit}
use Rattle.conc_task.specs.Inputs.{ReadThrough}
use Rattle.conc_task.specs.Tasks.{HasModule}
use Rattle.conc_top.specs.declared.ending.Ending.{Ending}
use Rattle.conc_top.specs.declared.ending.Ending.TheVariants.{Memory, Printed}
use Rattle.conc_top.specs.Searches.{IsModule}
use Rattle.conc_top.specs.Causes.{IsDue, IsReadThrough}
use Rattle.conc_top.specs.Answers.{IsIdle, IsShown, IsShownOf, IsUnshown, Keeps}
use Rattle.conc_top.proofs.Answering.{few_through}
use Rattle.conc_top.proofs.Searching.{left_is}
use Rattle.conc_top.proofs.Shown.{Answers, ShowsAs, ShowsNone}

module _ (command : Option Command) (before left_now : Option (List ℕ)) (script : Script) (has : HasModule command before left_now script) where
  abbrev bytes : List ℕ
  bytes = has.1.bytes

  all_read : ReadThrough (source_limit command) before left_now
  all_read = subst (λ n. ReadThrough n before left_now) (sym (ap source_limit has.0)) has.1.through

  printed : (P : Ending → Type 0) (came : Ending) (text : List ℕ) → IsShownOf (asked.Module script) came text → (IsModule bytes text → P Printed) → P came
  printed P came text (is, same) holds = subst P (sym is) (holds (script, has.1.accepted, same))

  unprinted : (P : Ending → Type 0) → P Memory → (came : Ending) → IsUnshown (asked.Module script) came → P came
  unprinted P memory came is = subst P (sym is) memory

  keeps_module : (choice : Option ClockChoice) (text : List ℕ) (given : Ending) (es : List Entry) (lent now : Shown) → IsModule bytes text
      → IsShown (λ t. t ≡ text) Printed given es lent now → Keeps command before bytes choice Printed given es lent now
  keeps_module choice text given es lent now has_text kept =
      record { no_entry = kept.no_entry; no_errors = kept.no_errors; no_wait = kept.no_wait; text = kept.text; shows = subst (IsModule bytes) (sym kept.shows) has_text; told = kept.told }

  pub module_answers : (read_fault write_fault : Type 0) → Answers command before left_now (IsShownOf (asked.Module script)) (IsUnshown (asked.Module script)) read_fault write_fault
  module_answers read_fault write_fault = record {
    bytes = bytes;
    input = subst (λ c. IsInput c before bytes) (sym has.0) has.1.left;
    through = all_read;
    due = λ came text shows. printed (IsDue command before bytes read_fault write_fault) came text shows (λ found. (has.0, (script, has.1.accepted)));
    lacks_due = λ came lacks. unprinted (IsDue command before bytes read_fault write_fault) tt came lacks;
    shown_through = λ came text shows. printed (λ z. IsReadThrough (source_limit command) z before left_now) came text shows (λ found. all_read);
    lacks_through = λ came lacks. unprinted (λ z. IsReadThrough (source_limit command) z before left_now) (few_through (source_limit command) before left_now all_read) came lacks;
    keeps = λ choice came text given es lent now shows.
        printed (λ z. IsShown (λ t. t ≡ text) z given es lent now → Keeps command before bytes choice z given es lent now) came text shows (keeps_module choice text given es lent now);
    lacks_keeps = λ choice came given es lent now lacks. unprinted (λ z. IsIdle z given es lent now → Keeps command before bytes choice z given es lent now) (λ memory. inl memory) came lacks;
    shows = λ left known came text shows. printed (λ z. ShowsAs command left z text) came text shows (λ found. subst (λ b. IsModule b text) (sym (left_is before left bytes known has.1.left)) found);
    lacks = λ came lacks. unprinted ShowsNone tt came lacks;
  }
