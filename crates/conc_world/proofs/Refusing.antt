-- What is known where a refusal was found, and where none was.
use Rattle.std.specs.Prelude.{◌≤◌, Result, Ok, Err, OnErr, MatchOption}
use Rattle.std.proofs.Common.{◌≡◌, Option, Some, None, ap, subst, sym}
use Rattle.frame_stack.specs.declared.sliced.Slice.{Slice}
use Rattle.world_entries.specs.Worlds.{state_of, Starts}
use Rattle.run_course.specs.declared.history.record.Record.{Record}
use Rattle.run_course.specs.history.Records.{Same}
use Rattle.run_course.specs.declared.ends.RunEnd.{RunEnd}
use Rattle.conc_world.specs.declared.answers.Committed.{Committed}
use Rattle.conc_world.specs.declared.answers.Committed.TheVariants.{Taken, Stale, Short, Ended, NoMemory}
use Rattle.conc_world.specs.Jobs.{left}
use Rattle.conc_world.specs.Committing.{IsCommitted, IsTakenOrRefused, IsCommittedAnew}

-- what holds anyway holds where there is an error
pub on_err : {T E : Type 0} (P : Type 0) (r : Result T E) → P → OnErr r P
on_err P (Ok x) p = tt
on_err P (Err e) p = p

pub none_found : (s : Slice) (ended : Option RunEnd) (r : Record) (o : Option Committed) → o ≡ None → MatchOption o ((ended ≡ None) × Starts s r.world × (s.steps ≤ left r)) (λ why. IsCommitted why s ended r ended r) → (ended ≡ None) × Starts s r.world × (s.steps ≤ left r)
none_found s ended r o e h = subst (λ z. MatchOption z ((ended ≡ None) × Starts s r.world × (s.steps ≤ left r)) (λ why. IsCommitted why s ended r ended r)) e h

-- the answer of a refusal after which all is as it was
pub refused_here : (s : Slice) (ended : Option RunEnd) (r : Record) (o : Option Committed) (why : Committed) → o ≡ Some why → MatchOption o ((ended ≡ None) × Starts s r.world × (s.steps ≤ left r)) (λ why. IsCommitted why s ended r ended r) → (new_end : Option RunEnd) (new : Record) → new_end ≡ ended → new ≡ r → IsCommitted why s ended r new_end new
refused_here s ended r o why e h new_end new same_end same =
    let is : IsCommitted why s ended r ended r = subst (λ z. MatchOption z ((ended ≡ None) × Starts s r.world × (s.steps ≤ left r)) (λ why. IsCommitted why s ended r ended r)) e h in
    subst (λ x. IsCommitted why s ended r new_end x) (sym same) (subst (λ x. IsCommitted why s ended r x r) (sym same_end) is)

-- a record that didn't change
pub unchanged : (old new : Record) → new ≡ old → Same old new
unchanged old new e = record {
  history = ap (λ (r : Record). r.history.list) e;
  world = λ b. ap (λ (r : Record). state_of b r.world) e;
  plan = (ap (λ (r : Record). r.fuel) e, ap (λ (r : Record). r.limits) e, ap (λ (r : Record). r.of) e);
}

-- what became of a slice that was made anew in the place of a late one
pub made_anew : (late s : Slice) (old_end : Option RunEnd) (old : Record) (new_end : Option RunEnd) (new : Record) → s.ticket ≡ late.ticket → s.tid ≡ late.tid → s.of.value ≡ late.of.value
    → (c : Committed) → IsTakenOrRefused c → IsCommitted c s old_end old new_end new → IsCommittedAnew c late old_end old new_end new
made_anew late s old_end old new_end new ticket tid code Ended judged h = absurd judged
made_anew late s old_end old new_end new ticket tid code (Stale w) judged h = absurd judged
made_anew late s old_end old new_end new ticket tid code (Short n) judged h = absurd judged
made_anew late s old_end old new_end new ticket tid code Taken judged h = record { slice = s; ticket = ticket; tid = tid; code = code; taken = h }
made_anew late s old_end old new_end new ticket tid code NoMemory judged h = h
