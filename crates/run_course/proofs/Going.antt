-- What calls of the record beside its clock did.
use Rattle.std.specs.Prelude.{Result, Ok, Err, IfOk, OnOk, OnErr}
use Rattle.std.proofs.Common.{ℕ, Bool, inl, inr, refl}
use Rattle.hs_base.specs.declared.no_memory.NoMemory.{NoMemory}
use Rattle.hs_rules.specs.declared.entry.Entry.{Entry}
use Rattle.hs_rules.specs.declared.entry.Entry.TheVariants as entry
use Rattle.run_course.specs.declared.history.record.Record.{Record}
use Rattle.run_course.specs.history.Records.{Same, Appended}
use Rattle.run_course.specs.clocked.Clocks.{Looked}
use Rattle.run_course.proofs.clocked_lemmas.Going as so
use Rattle.run_course.proofs.Kept.{IsSilent, Went, looked}

pub silently : (e : Entry) (old new : Record) → IsSilent e → so.Went e old new → Went old new
silently e old new silent (inl h) = inr (e, h, silent)
silently e old new silent (inr h) = inl h

pub went_look : (r : Result Bool NoMemory) (old new : Record) → IfOk r (λ ticked. Looked ticked old new) → OnErr r (Same old new) → Went old new
went_look (Ok ticked) old new ok err = looked ticked old new ok
went_look (Err x) old new ok err = inl err

pub went_sleep : (r : Result Unit NoMemory) (old new : Record) → OnOk r ((at : ℕ) × Appended (entry.Tick at) old new) → OnErr r (Same old new) → Went old new
went_sleep (Ok u) old new ok err = inr (entry.Tick ok.0, ok.1, (λ x. (refl, refl)))
went_sleep (Err x) old new ok err = inl err
