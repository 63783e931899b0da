-- The words of a report.
use Rattle.std.specs.Prelude.{List, ℕ, codes}
use Rattle.trace_report.specs.declared.tally.writing.Word.{Word}
use Rattle.trace_report.specs.declared.tally.writing.Word.TheVariants as word

abbrev pub word_text : Word → List ℕ
word_text word.Done = codes "done"
word_text word.Failed = codes "failed"
word_text word.Waiting = codes "waiting"
word_text word.Running = codes "running"
