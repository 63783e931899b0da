-- What follows from the answers of a desk.
use Rattle.std.specs.Prelude.{Result, Ok, Err, IfOk}
use Rattle.std.proofs.Common.{◌++◌, [], ◌∷◌, inl, inr, List, Option, ap, sym, ◌∙◌, append_assoc}
use mathlib.Core.List.{IsPrefix}
use Rattle.hs_rules.specs.declared.entry.Entry.{Entry}
use Rattle.hs_rules.specs.declared.entry.Entry.TheVariants as entry
use Rattle.frame_stack.specs.declared.sliced.Slice.{Slice}
use Rattle.run_course.specs.declared.history.record.Record.{Record}
use Rattle.run_course.specs.declared.ends.RunEnd.{RunEnd}
use Rattle.run_course.specs.Settled.{Accepted, Begins}
use Rattle.conc_world.specs.declared.answers.Made.{Made}
use Rattle.conc_world.specs.declared.answers.Made.TheVariants.{Before, Anew}
use Rattle.conc_world.specs.declared.answers.Committed.{Committed}
use Rattle.conc_world.specs.declared.answers.Committed.TheVariants.{Taken, Stale, Short, Ended, NoMemory}
use Rattle.conc_world.specs.Committing.{IsCommitted, IsCommittedBy}
use Rattle.conc_world.proofs.Turning.{begins_alike}

-- what follows from it holds too of an answer that is there
pub ok_also : {T E : Type 0} {P Q : T → Type 0} (r : Result T E) → ((x : T) → P x → Q x) → IfOk r P → IfOk r Q
ok_also (Ok x) more is = more x is
ok_also (Err e) more is = tt

-- ---- the history after a slice was judged begins with the one before

accepted_begins : (s : Slice) (ended : Option RunEnd) (old new : Record) → Accepted s ended old new → Begins old.history.list new.history.list
accepted_begins s ended old new (inl h) = (entry.Local s.tid s.steps ∷ [], h.0.history)
accepted_begins s ended old new (inr h) = begins_alike old.history.list new.history.list h.0.history

judged_begins : (c : Committed) (s : Slice) (old_end : Option RunEnd) (old : Record) (new_end : Option RunEnd) (new : Record) → IsCommitted c s old_end old new_end new → Begins old.history.list new.history.list
judged_begins Ended s old_end old new_end new h = begins_alike old.history.list new.history.list (ap (λ (r : Record). r.history.list) h.1)
judged_begins (Stale w) s old_end old new_end new h = begins_alike old.history.list new.history.list (ap (λ (r : Record). r.history.list) h.2)
judged_begins (Short n) s old_end old new_end new h = begins_alike old.history.list new.history.list (ap (λ (r : Record). r.history.list) h.4)
judged_begins Taken s old_end old new_end new h = accepted_begins s new_end old new h.3
judged_begins NoMemory s old_end old new_end new h = begins_alike old.history.list new.history.list h.1.history

committed_begins : (m : Made) (c : Committed) (s : Slice) (old_end : Option RunEnd) (old : Record) (new_end : Option RunEnd) (new : Record) → IsCommittedBy m c s old_end old new_end new → Begins old.history.list new.history.list
committed_begins Before c s old_end old new_end new h = judged_begins c s old_end old new_end new h
committed_begins Anew Ended s old_end old new_end new h = absurd h
committed_begins Anew (Stale w) s old_end old new_end new h = absurd h
committed_begins Anew (Short n) s old_end old new_end new h = absurd h
committed_begins Anew Taken s old_end old new_end new h = judged_begins Taken h.slice old_end old new_end new h.taken
committed_begins Anew NoMemory s old_end old new_end new h = judged_begins NoMemory s old_end old new_end new h

-- and so does one that went on from there
pub went_on : (m : Made) (c : Committed) (s : Slice) (old_end : Option RunEnd) (old : Record) (new_end : Option RunEnd) (new : Record) → IsCommittedBy m c s old_end old new_end new → (last : List Entry) → Begins new.history.list last → IsPrefix old.history.list last
went_on m c s old_end old new_end new h last more =
    let first = committed_begins m c s old_end old new_end new h in
    (first.0 ++ more.0, sym (append_assoc old.history.list first.0 more.0) ∙ sym (ap (λ z. z ++ more.0) first.1) ∙ sym more.1)
