-- What the claims of a script come to.
use Rattle.std.proofs.Math.Logic.{∥∥₁_map}
use Rattle.std.proofs.Common.{◌≡◌, ℕ, List, [], refl, sym, ap, subst, inl, inr}
use Rattle.std.specs.Prelude.{Option, Some}
use Rattle.std.specs.Str.{chars}
use Rattle.hs_base.specs.declared.clock_choice.ClockChoice.{ClockChoice}
use Rattle.hs_base.specs.declared.pos.Pos.{Pos}
use Rattle.hs_base.specs.declared.tree.script.Script.{Script}
use Rattle.hs_rules.specs.declared.entry.Entry.{Entry}
use Rattle.rules_code.specs.Codes.{body_of}
use Rattle.rules_expansion.specs.trees.Programs.{script_of}
use Rattle.conc_caps.specs.Runs.{Shown}
use Rattle.rules_code.specs.declared.code.CodeBody.{CodeBody}
use Rattle.outcome_laws.specs.Timings.{IsEndless}
use Rattle.outcome_listing.specs.declared.bounds.Bounds.{Bounds}
use Rattle.outcome_listing.specs.declared.explored.Endless.{Endless}
use Rattle.outcome_listing.specs.declared.explored.Endless.TheVariants as endless
use Rattle.outcome_listing.specs.declared.explored.Explored.{Explored}
use Rattle.conc_outcomes.specs.Exploring.{Explores}
use Rattle.conc_top.proofs.Told.{are_all, are_outcomes, goes_round, never_ends}
use Rattle.claim_lines.specs.declared.verdict.Judged.{Judged}
use Rattle.claim_lines.specs.Reading.{HasClaims, IsRefusedAt}
use Rattle.claim_lines.specs.Telling.{IsListOf}
use Rattle.claim_lines.specs.Verdicts.{HasRound}
use Rattle.claim_lines.proofs.Told.{all_tell}
use Rattle.conc_task.specs.declared.words.command.Command.{Command}
use Rattle.conc_task.specs.declared.task.Search.{Search}
use Rattle.conc_task.specs.declared.task.Asked.TheVariants as asked
use Rattle.conc_task.specs.Commands.{IsInput, source_limit}
use Rattle.conc_task.specs.Inputs.{ReadThrough}
use Rattle.conc_task.specs.Tasks.{HasClaims as IsAskedForClaims}
use Rattle.conc_top.specs.declared.ending.Ending.{Ending}
use Rattle.conc_top.specs.declared.ending.Ending.TheVariants.{Memory, Claims, ClaimRefused, NoClaim}
use Rattle.conc_top.specs.Searches.{bounds_of, HasDecision, IsDecisionOf, IsExplored, IsUndecided}
use Rattle.conc_top.specs.Causes.{IsDue, IsReadThrough}
use Rattle.conc_top.specs.Answers.{IsIdle, IsShown, IsShownOf, IsUnshown, Keeps}
use Rattle.conc_top.proofs.Answering.{few_through}
use Rattle.conc_top.proofs.Searching.{explored, left_is}
use Rattle.conc_top.proofs.Shown.{Answers, ShowsAs, ShowsNone}

-- a round that was found shows that the script is endless
comes_round : (bounds : Bounds) (script : Script) (b : CodeBody) (x : Explored) → Explores bounds script b x → (e : Endless) → x.endless ≡ e → HasRound e → IsEndless bounds.clock (script_of script)
comes_round bounds script b x promised endless.Never is round = absurd round
comes_round bounds script b x promised (endless.Round to back) is round = goes_round bounds script b x promised to back is
comes_round bounds script b x promised endless.Unknown is round = absurd round

-- the list of a search is one of the outcomes of the script
list_of : (sought : Search) (x : Explored) (e : IsExplored (bounds_of sought) sought.script.items x) → IsListOf sought.clock (script_of e.script) x
list_of sought x e = record {
  each = are_outcomes (bounds_of sought) e.script e.body x e.explores;
  all = are_all (bounds_of sought) e.script e.body x e.explores;
  ends = never_ends (bounds_of sought) e.script e.body x e.explores;
  round = comes_round (bounds_of sought) e.script e.body x e.explores x.endless refl;
}

module _ (command : Option Command) (before left_now : Option (List ℕ)) (sought : Search) (has : IsAskedForClaims command before left_now sought) where
  abbrev bytes : List ℕ
  bytes = sought.script.items

  decision : (j : Judged) (text : List ℕ) → IsDecisionOf sought j text → HasDecision command bytes j text
  decision j text (x, promised, claims, read, some, verdicts, judges, whole, told) = (
    bounds_of sought,
    (has.0, refl),
    ∥∥₁_map (explored before left_now sought has.1 x promised) (λ e. record {
      found = x;
      explored = e;
      claims = claims;
      read = read;
      some = some;
      verdicts = verdicts;
      judges = judges;
      tell = all_tell sought.clock (script_of e.script) x (list_of sought x e) claims verdicts judges;
      whole = whole;
      told = told;
    }),
  )

  -- the answer where nothing is decided
  undecided : (P : Ending → Type 0) → P Memory → ((at : Pos) → IsRefusedAt (chars bytes) at → P (ClaimRefused at)) → (HasClaims (chars bytes) [] → P NoClaim) → (came : Ending) → IsUndecided sought came → P came
  undecided P memory refused none came (inl (inl is)) = subst P (sym is) memory
  undecided P memory refused none came (inl (inr (at, is, wrong))) = subst P (sym is) (refused at wrong)
  undecided P memory refused none came (inr (is, read)) = subst P (sym is) (none read)

  all_read : ReadThrough (source_limit command) before left_now
  all_read = subst (λ n. ReadThrough n before left_now) (sym (ap source_limit has.0)) has.1.through

  -- the answer with a text
  decided : (P : Ending → Type 0) (came : Ending) (text : List ℕ) → IsShownOf (asked.Claims sought) came text → ((j : Judged) → HasDecision command bytes j text → P (Claims j)) → P came
  decided P came text (j, is, found) holds = subst P (sym is) (holds j (decision j text found))

  keeps_decision : (choice : Option ClockChoice) (text : List ℕ) (given : Ending) (es : List Entry) (lent now : Shown) (j : Judged) → HasDecision command bytes j text
      → IsShown (λ t. t ≡ text) (Claims j) given es lent now → Keeps command before bytes choice (Claims j) given es lent now
  keeps_decision choice text given es lent now j has_text kept =
      record { no_entry = kept.no_entry; no_errors = kept.no_errors; no_wait = kept.no_wait; text = kept.text; shows = subst (HasDecision command bytes j) (sym kept.shows) has_text; told = kept.told }

  pub claims_answers : (read_fault write_fault : Type 0) → Answers command before left_now (IsShownOf (asked.Claims sought)) (IsUnshown (asked.Claims sought)) read_fault write_fault
  claims_answers read_fault write_fault = record {
    bytes = bytes;
    input = subst (λ c. IsInput c before bytes) (sym has.0) has.1.input;
    through = all_read;
    due = λ came text shows. decided (IsDue command before bytes read_fault write_fault) came text shows (λ j found. (text, found));
    lacks_due = λ came lacks.
        undecided (IsDue command before bytes read_fault write_fault) tt
        (λ at wrong. ((bounds_of sought, (has.0, refl)), ((body_of sought.code).of.value, has.1.accepted), wrong))
        (λ read. ((bounds_of sought, (has.0, refl)), ((body_of sought.code).of.value, has.1.accepted), read)) came lacks;
    shown_through = λ came text shows. decided (λ z. IsReadThrough (source_limit command) z before left_now) came text shows (λ j found. all_read);
    lacks_through = λ came lacks.
        undecided (λ z. IsReadThrough (source_limit command) z before left_now) (few_through (source_limit command) before left_now all_read) (λ at wrong. all_read) (λ read. all_read) came lacks;
    keeps = λ choice came text given es lent now shows.
        decided (λ z. IsShown (λ t. t ≡ text) z given es lent now → Keeps command before bytes choice z given es lent now) came text shows (keeps_decision choice text given es lent now);
    lacks_keeps = λ choice came given es lent now lacks.
        undecided (λ z. IsIdle z given es lent now → Keeps command before bytes choice z given es lent now) (λ memory. inl memory) (λ at wrong line. line) (λ read line. line) came lacks;
    shows = λ left known came text shows.
        decided (λ z. ShowsAs command left z text) came text shows (λ j found. subst (λ b. HasDecision command b j text) (sym (left_is before left bytes known has.1.input)) found);
    lacks = λ came lacks. undecided ShowsNone tt (λ at wrong. tt) (λ read. tt) came lacks;
  }
