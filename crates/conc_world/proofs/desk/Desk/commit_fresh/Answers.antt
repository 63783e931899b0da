use Rattle.std.proofs.Common.{subst, sym}
use Rattle.conc_world.specs.declared.tickets.tickets.Tickets.{Tickets}
use Rattle.conc_world.specs.Committing.{IsCommitted, TicketBack}
use Rattle.conc_world.proofs.desk.Desk.commit_fresh.Goals as goal

pub returns-clause-committed : goal.returns-clause-committed
returns-clause-committed g c =
    let old = c.args.self.now in
    subst (λ k. IsCommitted c.append-answer.result c.args.slice old.course.end old.course.clocked.«record» k.end k.clocked.«record») (sym c.take_back.ensures.course) c.append-answer.ensures.committed

pub returns-clause-ticket : goal.returns-clause-ticket
returns-clause-ticket g c =
    subst (λ (s : Tickets). TicketBack c.append-answer.result c.args.slice.ticket s c.take_back.new.self.tickets) c.append-answer.ensures.tickets.0 c.take_back.ensures.ticket
