-- What stays of a desk whose history goes on, and what a desk has at first.
use Rattle.std.specs.Prelude.{Result, Ok, Err, OnOk, OnErr}
use Rattle.std.proofs.Common.{◌≡◌, ◌≤◌, ℕ, List, Option, Some, None, arith, sym, ap, ◌∙◌, subst}
use Rattle.std.proofs.Math.Logic.{∥∥₁_map}
use Rattle.std.specs.declared.snapshot.Snapshot.{Snapshot}
use Rattle.hs_base.specs.declared.no_memory.NoMemory.{NoMemory}
use Rattle.rules_code.specs.declared.code.CodeBody.{CodeBody}
use Rattle.hs_rules.specs.declared.entry.Entry.{Entry}
use Rattle.conc_world.specs.declared.tickets.tickets.Out.{Out}
use Rattle.conc_world.specs.declared.tickets.tickets.Tickets.{Tickets}
use Rattle.conc_world.specs.tickets.Out.{job, IsIdle}
use Rattle.run_course.specs.declared.history.record.Record.{Record}
use Rattle.run_course.specs.history.Records.{Same}
use Rattle.run_course.specs.declared.ends.RunEnd.{RunEnd}
use Rattle.run_course.specs.declared.ends.RunEnd.TheVariants as end
use Rattle.run_course.specs.Endings.{IsConcluded, IsOpen}
use Rattle.run_course.specs.Settled.{GoesOn, IsAtRest, KeepsPlan}
use Rattle.conc_world.specs.Jobs.{Knows}
use Rattle.conc_world.proofs.Knowing.{knows_more}

-- ---- no ending holds where none was set
pub concluded_open : (ended : Option RunEnd) (r : Record) → IsConcluded ended r → ended ≡ None → IsOpen r
concluded_open ended r h e = subst (λ z. IsConcluded z r) e h

pub settled_open : (result : Result Unit NoMemory) (before ended : Option RunEnd) (r : Record) → OnOk result (IsAtRest ended r) → OnErr result ((before ≡ None) × (ended ≡ Some end.Memory)) → ended ≡ None → IsOpen r
settled_open (Ok u) before ended r ok err e = (subst (λ z. IsAtRest z r) e ok).1
settled_open (Err x) before ended r ok err e = let z : None ≡ Some end.Memory = sym e ∙ err.1 in absurd (cc z)

-- ---- the code stays
pub code_kept : (b : CodeBody) (old new : Record) → b ≡ old.of.value → KeepsPlan old new → b ≡ new.of.value
code_kept b old new e plan = e ∙ sym (ap (λ (z : Snapshot CodeBody). z.value) plan.of)

pub code_alike : (b : CodeBody) (old new : Record) → b ≡ old.of.value → Same old new → b ≡ new.of.value
code_alike b old new e h = e ∙ sym (ap (λ (z : Snapshot CodeBody). z.value) h.plan.2)

-- ---- what the tickets know of a history that goes on
pub knows_on : (s : Tickets) (seen : ℕ) (before after : Option RunEnd) (old new : List Entry) → GoesOn before old after new → ∥ Knows s seen old ∥₁ → ∥ Knows s seen new ∥₁
knows_on s seen before after old new g known = ∥∥₁_map known (λ k. subst (Knows s seen) (sym g.begins) (knows_more s seen old g.more k))

-- ---- where no job is out
none_out : (s : Tickets) (k : ℕ) (o : Out) → job s k ≡ None → job s k ≡ Some o → ⊥
none_out s k o none out = let z : None ≡ Some o = sym none ∙ out in cc z

pub idle_few : (s : Tickets) (n : ℕ) → IsIdle s → (k : ℕ) (o : Out) → job s k ≡ Some o → k ≤ n
idle_few s n idle k o out = absurd (none_out s k o (idle.job k) out)

pub idle_knows : (s : Tickets) (es : List Entry) → IsIdle s → Knows s 0 es
idle_knows s es idle = record {
  within = omega arith;
  made = λ k o out. absurd (none_out s k o (idle.job k) out);
  marked = λ k o out. absurd (none_out s k o (idle.job k) out);
}
