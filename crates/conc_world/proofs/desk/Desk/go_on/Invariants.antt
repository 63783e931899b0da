use Rattle.std.proofs.Common.{◌≡◌, None}
use Rattle.run_course.specs.Settled.{Begins, KeepsPlan}
use Rattle.conc_world.proofs.desk.Desk.go_on.Given as goal

-- there is no ending while it goes on, and the history begins with the one before
abbrev pub invariant-loop : goal.invariant-loop
invariant-loop g l = record {
  none : l.self.course.end ≡ None;
  begins : Begins l.fn.self.course.clocked.«record».history.list l.self.course.clocked.«record».history.list;
  plan : KeepsPlan l.fn.self.course.clocked.«record» l.self.course.clocked.«record»;
  lent : (l.self.course.out_lent ≡ l.fn.self.course.out_lent) × (l.self.course.err_lent ≡ l.fn.self.course.err_lent) × (l.self.course.clocked.lent ≡ l.fn.self.course.clocked.lent);
  tickets : (l.self.tickets ≡ l.fn.self.tickets) × (l.self.given ≡ l.fn.self.given);
  code : l.self.code ≡ l.fn.self.code;
}
