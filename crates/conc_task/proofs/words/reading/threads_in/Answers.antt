use Rattle.std.proofs.Common.{◌∙◌, ap, codes}
use Rattle.std.specs.Prelude.{option_and_then}
use Rattle.std.specs.Str.Parse.{ExplainsUnsignedError, HasUnsignedDigitsIfOk, ParsesUnsigned}
use Rattle.clap.specs.Words.{found_of}
use Rattle.clap.proofs.WalkLemmas.{one_text-rows}
use Rattle.conc_task.specs.words.Commands.{written}
use Rattle.conc_task.proofs.words_lemmas.Numbers.{got_is}
use Rattle.conc_task.proofs.words.reading.threads_in.Goals as goal

pub returns : goal.returns
returns c =
    got_is _ (λ bs r. ParsesUnsigned 32 10 bs r × ExplainsUnsignedError 10 bs r × HasUnsignedDigitsIfOk bs r) 32 _ _ (λ u r g. g.0) c.get_one.ensures.none c.get_one.ensures.value
    ∙ ap (option_and_then (written 32)) (one_text-rows (found_of c.args.entries.now) (codes "threads"))
