use Rattle.std.proofs.Common.{rules, ◌≡◌, IfErr, IfOk, MatchResult, Result, Ok, Err, None, Some, List, map, string_bytes}
use Rattle.clap.specs.Words.{Text}
use Rattle.conc_task.specs.declared.words.command.Command.{Command}
use Rattle.conc_task.specs.declared.words.command.WordsFault.{WordsFault}
use Rattle.conc_task.specs.declared.words.command.WordsFault.TheVariants.{NotUnderstood, NoMemory}
use Rattle.conc_task.specs.words.Commands.{IsRefused, IsWithin, WhenNotUnderstood, command_of}
use Rattle.conc_task.proofs.words_lemmas.Taken.{refused, within}
use Rattle.conc_task.proofs.words.reading.read_words.Goals as goal

abbrev IsExact : List Text → Result Command WordsFault → Type 0
IsExact words r = MatchResult r (λ c. command_of words ≡ Some c) (WhenNotUnderstood (command_of words ≡ None))

within_ok : (words : List Text) (r : Result Command WordsFault) → IsExact words r → IfOk r IsWithin
within_ok words (Ok c) e = within words c e
within_ok words (Err fault) e = tt

refused_err : (words : List Text) (r : Result Command WordsFault) → IsExact words r → IfErr r (WhenNotUnderstood (IsRefused words))
refused_err words (Ok c) e = tt
refused_err words (Err NotUnderstood) e = refused words e
refused_err words (Err NoMemory) e = tt

pub returns-clause-within : goal.returns-clause-within
returns-clause-within c =
    let words : List Text = map (λ word. string_bytes word) c.args.words.now in
    let exact : IsExact words c.ok_or.result = search rules in
    within_ok words c.ok_or.result exact

pub returns-clause-refused : goal.returns-clause-refused
returns-clause-refused c =
    let words : List Text = map (λ word. string_bytes word) c.args.words.now in
    let exact : IsExact words c.ok_or.result = search rules in
    refused_err words c.ok_or.result exact
