use Rattle.std.proofs.Common.{◌≡◌, ◌-◌, true, Some, None, IsSome}
use Rattle.hs_rules.specs.Histories.{steps_of}
use Rattle.run_course.specs.declared.ends.RunEnd.TheVariants as end
use Rattle.run_course.specs.Endings.{IsOpen}
use Rattle.run_course.specs.Settled.{Begins, KeepsPlan, OnlyGoes}
use Rattle.run_course.proofs.More.{left_to_do}
use Rattle.run_course.proofs.course.Course.settle_on.Given as goal

-- the history has gone on where there was no ending, and where it rests nothing else is legal
abbrev pub invariant-loop-rests : goal.invariant-loop-rests
invariant-loop-rests g l = record {
  rests : l.rests ≡ true → (l.self.end ≡ None) × OnlyGoes l.self.clocked.«record» × IsOpen l.self.clocked.«record»;
  memory : l.self.end ≡ Some end.Memory → l.initial.self.end ≡ Some end.Memory;
  begins : Begins l.initial.self.clocked.«record».history.list l.self.clocked.«record».history.list;
  plan : KeepsPlan l.initial.self.clocked.«record» l.self.clocked.«record»;
  lent : (l.self.out_lent ≡ l.initial.self.out_lent) × (l.self.err_lent ≡ l.initial.self.err_lent) × (l.self.clocked.lent ≡ l.initial.self.clocked.lent);
  over : IsSome l.initial.self.end → l.self ≡ l.initial.self;
}

abbrev pub decreases-loop-rests : goal.decreases-loop-rests
decreases-loop-rests g l = left_to_do l.rests l.self.end (l.self.clocked.«record».fuel - steps_of l.self.clocked.«record».history.list)
