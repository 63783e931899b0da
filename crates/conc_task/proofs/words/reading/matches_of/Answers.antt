use Rattle.std.proofs.Common.{◌≡◌, ◌∙◌, ◌↔◌, Bool, true, false, Result, Ok, Err, IsErrAnd, MatchResult, refl, sym, ap, map, string_bytes, List}
use Rattle.clap.specs.Words.{App, Text, fault_of, is_simple, is_simple_and_free, kind_of, subcommand_of, subcommand_rows_of, takes}
use Rattle.clap.specs.declared.error.Error.{Error}
use Rattle.clap.specs.declared.error.kind.ErrorKind.TheVariants.{OutOfMemory}
use Rattle.conc_task.specs.declared.words.command.WordsFault.{WordsFault}
use Rattle.conc_task.specs.declared.words.command.WordsFault.TheVariants.{NotUnderstood, NoMemory}
use Rattle.conc_task.specs.words.Program.{program}
use Rattle.conc_task.specs.words.Commands.{WhenNotUnderstood}
use Rattle.conc_task.proofs.words_lemmas.Faultless.{takes_ok}
use Rattle.conc_task.proofs.words.reading.matches_of.Goals as goal

-- words that were not understood are not taken
refused : {X : Type 0} (r : Result X WordsFault) (P : X → Type 0) (e : Error) (is_taken : Bool)
    → IsErrAnd r (λ fault. (fault ≡ NoMemory) ↔ (kind_of e ≡ OutOfMemory)) → (is_taken ≡ true → kind_of e ≡ OutOfMemory)
    → MatchResult r P (WhenNotUnderstood (is_taken ≡ false))
refused (Ok x) P e is_taken is memory = absurd is
refused (Err NoMemory) P e is_taken is memory = tt
refused (Err NotUnderstood) P e true is memory =
    let no : NotUnderstood ≡ NoMemory = is.1 (memory refl) in
    let never : ⊥ = cc in
    absurd never
refused (Err NotUnderstood) P e false is memory = refl

pub returns-in_err-try_get_matches_from : goal.returns-in_err-try_get_matches_from
returns-in_err-try_get_matches_from c =
    let words : List Text = map (λ word. string_bytes word) c.args.words.now in
    refused c.from_residual-in_err-try_get_matches_from.result (λ m. (takes program words ≡ true) × (subcommand_rows_of m ≡ subcommand_of program words)) c.in_err-try_get_matches_from.field-0.0 (takes program words) c.from_residual-in_err-try_get_matches_from.ensures.1
    (λ taken. c.in_err-try_get_matches_from.ensures.passes (ap (λ (a : App). takes a words) c.in_ok-command.ensures ∙ taken))

pub returns : goal.returns
returns c =
    let words : List Text = map (λ word. string_bytes word) c.args.words.now in
    let none : fault_of program words ≡ _ = ap (λ (a : App). fault_of a words) (sym c.in_ok-command.ensures) ∙ c.in_ok-try_get_matches_from.ensures.kinds (ap is_simple_and_free c.in_ok-command.ensures) in (
      takes_ok program words refl refl refl none,
      (c.in_ok-try_get_matches_from.ensures.matches (ap is_simple c.in_ok-command.ensures)).1 ∙ ap (λ (a : App). subcommand_of a words) c.in_ok-command.ensures,
    )
