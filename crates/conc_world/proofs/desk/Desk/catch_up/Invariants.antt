use Rattle.std.proofs.Common.{◌≡◌, ◌-◌, ℕ, length}
use Rattle.conc_world.specs.tickets.Out.{ticket_of}
use Rattle.conc_world.specs.Jobs.{SameJobs}
use Rattle.conc_world.proofs.desk.Desk.catch_up.Given as goal

-- nothing changes but what the tickets know
abbrev pub invariant-loop-self : goal.invariant-loop-self
invariant-loop-self g l = record {
  jobs : SameJobs l.initial.self.tickets l.self.tickets;
  threads : (t : ℕ) → ticket_of l.self.tickets t ≡ ticket_of l.initial.self.tickets t;
  course : l.self.course ≡ l.initial.self.course;
  given : l.self.given ≡ l.initial.self.given;
  code : l.self.code ≡ l.initial.self.code;
}

-- the entries that are left
abbrev pub decreases-loop-self : goal.decreases-loop-self
decreases-loop-self g l = length l.self.course.clocked.«record».history.list - l.self.seen
