use Rattle.std.proofs.Common.{◌≡◌, ◌-◌, false, None, IsSome}
use Rattle.hs_rules.specs.Histories.{steps_of}
use Rattle.run_course.proofs.More.{left_to_do}
use Rattle.run_course.specs.Settled.{Begins, KeepsPlan}
use Rattle.conc_world.specs.Jobs.{NoneOut}
use Rattle.conc_world.proofs.running.alone.Given as goal

-- the history has gone on where there was no ending, and no job is out while there is none
abbrev pub invariant-loop-desk : goal.invariant-loop-desk
invariant-loop-desk g l = record {
  idle : l.desk.course.end ≡ None → NoneOut l.desk.tickets;
  begins : Begins l.fn.desk.course.clocked.«record».history.list l.desk.course.clocked.«record».history.list;
  plan : KeepsPlan l.fn.desk.course.clocked.«record» l.desk.course.clocked.«record»;
  lent : (l.desk.course.out_lent ≡ l.fn.desk.course.out_lent) × (l.desk.course.err_lent ≡ l.fn.desk.course.err_lent) × (l.desk.course.clocked.lent ≡ l.fn.desk.course.clocked.lent);
  over : IsSome l.fn.desk.course.end → l.desk.course ≡ l.fn.desk.course;
  code : l.desk.code ≡ l.fn.desk.code;
}

abbrev pub decreases-loop-desk : goal.decreases-loop-desk
decreases-loop-desk g l = left_to_do false l.desk.course.end (l.desk.course.clocked.«record».fuel - steps_of l.desk.course.clocked.«record».history.list)
