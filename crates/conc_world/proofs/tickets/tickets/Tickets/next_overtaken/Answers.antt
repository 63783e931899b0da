-- A ticket below the least isn't among them.
use Rattle.std.proofs.Common.{ℕ, ◌≤◌, All, subst}
use Rattle.conc_world.proofs.tickets_lemmas.Marks.{none_below}
use Rattle.conc_world.proofs.tickets.tickets.Tickets.next_overtaken.Goals as goal

pub returns-clause-least : goal.returns-clause-least
returns-clause-least c = λ q lt.
    let k = c.in_ok-ticket.ticket in
    none_below k c.args.self.now.overtaken.items q (subst (All (λ (x : ℕ). k ≤ x)) c.deref.ensures.value c.in_ok-ticket.ensures.least) lt
