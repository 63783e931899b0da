-- What a list of outcomes comes to.
use Rattle.std.proofs.Math.Logic.{∥∥₁_map}
use Rattle.std.proofs.Common.{◌≡◌, ◌<◌, ℕ, List, length, refl, sym, ap, subst, ◌∙◌, inl, inr}
use Rattle.std.specs.Prelude.{Option, Some}
use Rattle.hs_base.specs.declared.clock_choice.ClockChoice.{ClockChoice}
use Rattle.hs_rules.specs.declared.entry.Entry.{Entry}
use Rattle.conc_caps.specs.Runs.{Shown}
use Rattle.outcome_listing.specs.declared.explored.Explored.{Explored}
use Rattle.outcome_listing.specs.declared.explored.Extent.{Extent}
use Rattle.conc_task.specs.declared.words.command.Command.{Command}
use Rattle.conc_task.specs.declared.words.command.Command.TheVariants as commands
use Rattle.conc_task.specs.declared.task.Search.{Search}
use Rattle.conc_task.specs.declared.task.Asked.TheVariants as asked
use Rattle.conc_task.specs.Commands.{IsInput, source_limit}
use Rattle.conc_task.specs.Inputs.{ReadThrough}
use Rattle.conc_task.specs.Tasks.{HasSearch}
use Rattle.conc_top.specs.declared.ending.Ending.{Ending}
use Rattle.conc_top.specs.declared.ending.Ending.TheVariants.{Memory, Outcomes, NoOutcome}
use Rattle.conc_top.specs.Searches.{bounds_of, HasListing, IsListingOf, IsSearched, IsUnlisted, LacksOutcome}
use Rattle.conc_top.specs.Causes.{IsDue, IsReadThrough}
use Rattle.conc_top.specs.Answers.{IsIdle, IsShown, IsShownOf, IsUnshown, Keeps}
use Rattle.conc_top.proofs.Answering.{few_through}
use Rattle.conc_top.proofs.Searching.{explored, left_is}
use Rattle.conc_top.proofs.Shown.{Answers, ShowsAs, ShowsNone}

module _ (command : Option Command) (before left_now : Option (List ℕ)) (sought : Search) (witness : Option ℕ) (has : HasSearch command before left_now sought witness) where
  abbrev bytes : List ℕ
  bytes = sought.script.items

  listing : (extent : Extent) (text : List ℕ) → IsListingOf sought witness extent text → HasListing command bytes extent text
  listing extent text (x, promised, whole, told) =
      (bounds_of sought, witness, (has.0, refl), ∥∥₁_map (explored before left_now sought has.1 x promised) (λ e. record { found = x; explored = e; whole = whole; told = told }))

  fewer : (number : ℕ) (x : Explored) → IsSearched sought x → witness ≡ Some number → length x.outcomes < number → LacksOutcome command bytes number
  fewer number x promised named few =
      (bounds_of sought, (has.0 ∙ ap (λ w. Some (commands.Outcomes sought.clock sought.states sought.fuel w)) named, refl), ∥∥₁_map (explored before left_now sought has.1 x promised) (λ e. (x, e, few)))

  -- the answer where no text is told
  unlisted : (P : Ending → Type 0) → P Memory → ((number : ℕ) → LacksOutcome command bytes number → P (NoOutcome number)) → (came : Ending) → IsUnlisted sought witness came → P came
  unlisted P memory none came (inl is) = subst P (sym is) memory
  unlisted P memory none came (inr (x, promised, inl is)) = subst P (sym is) memory
  unlisted P memory none came (inr (x, promised, inr (number, is, named, few))) = subst P (sym is) (none number (fewer number x promised named few))

  all_read : ReadThrough (source_limit command) before left_now
  all_read = subst (λ n. ReadThrough n before left_now) (sym (ap source_limit has.0)) has.1.through

  -- the answer with a text
  listed : (P : Ending → Type 0) (came : Ending) (text : List ℕ) → IsShownOf (asked.Outcomes sought witness) came text → ((extent : Extent) → HasListing command bytes extent text → P (Outcomes extent)) → P came
  listed P came text (extent, is, found) holds = subst P (sym is) (holds extent (listing extent text found))

  keeps_list : (choice : Option ClockChoice) (text : List ℕ) (given : Ending) (es : List Entry) (lent now : Shown) (extent : Extent) → HasListing command bytes extent text
      → IsShown (λ t. t ≡ text) (Outcomes extent) given es lent now → Keeps command before bytes choice (Outcomes extent) given es lent now
  keeps_list choice text given es lent now extent has_text kept =
      record { no_entry = kept.no_entry; no_errors = kept.no_errors; no_wait = kept.no_wait; text = kept.text; shows = subst (HasListing command bytes extent) (sym kept.shows) has_text; told = kept.told }

  pub list_answers : (read_fault write_fault : Type 0) → Answers command before left_now (IsShownOf (asked.Outcomes sought witness)) (IsUnshown (asked.Outcomes sought witness)) read_fault write_fault
  list_answers read_fault write_fault = record {
    bytes = bytes;
    input = subst (λ c. IsInput c before bytes) (sym has.0) has.1.input;
    through = all_read;
    due = λ came text shows. listed (IsDue command before bytes read_fault write_fault) came text shows (λ extent found. (text, found));
    lacks_due = λ came lacks. unlisted (IsDue command before bytes read_fault write_fault) tt (λ number found. found) came lacks;
    shown_through = λ came text shows. listed (λ z. IsReadThrough (source_limit command) z before left_now) came text shows (λ extent found. all_read);
    lacks_through = λ came lacks.
        unlisted (λ z. IsReadThrough (source_limit command) z before left_now) (few_through (source_limit command) before left_now all_read) (λ number found. all_read) came lacks;
    keeps = λ choice came text given es lent now shows.
        listed (λ z. IsShown (λ t. t ≡ text) z given es lent now → Keeps command before bytes choice z given es lent now) came text shows (keeps_list choice text given es lent now);
    lacks_keeps = λ choice came given es lent now lacks.
        unlisted (λ z. IsIdle z given es lent now → Keeps command before bytes choice z given es lent now) (λ memory. inl memory) (λ number found line. line) came lacks;
    shows = λ left known came text shows.
        listed (λ z. ShowsAs command left z text) came text shows (λ extent found. subst (λ b. HasListing command b extent text) (sym (left_is before left bytes known has.1.input)) found);
    lacks = λ came lacks. unlisted ShowsNone tt (λ number found. tt) came lacks;
  }
