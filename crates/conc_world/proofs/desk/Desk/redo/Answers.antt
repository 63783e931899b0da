use Rattle.std.proofs.Common.{◌∙◌, ap, subst, sym}
use Rattle.conc_world.specs.Committing.{TicketBack}
use Rattle.conc_world.proofs.Refusing.{made_anew, unchanged}
use Rattle.conc_world.proofs.desk.Desk.redo.Goals as goal

pub returns-in-Ok-clause-committed : goal.returns-in-Ok-clause-committed
returns-in-Ok-clause-committed g c =
    let old = c.args.self.now.course in
    let new = c.commit_fresh.new.self.course in
    let of = c.in-Ok.ensures.of in
    made_anew c.args.late.now c.in-Ok.slice old.end old.clocked.«record» new.end new.clocked.«record» of.1 of.0 (of.2 ∙ sym c.requires.code) c.commit_fresh.result c.commit_fresh.ensures.judged c.commit_fresh.ensures.committed

pub returns-in-Ok-clause-ticket : goal.returns-in-Ok-clause-ticket
returns-in-Ok-clause-ticket g c =
    subst (λ k. TicketBack c.commit_fresh.result k c.args.self.now.tickets c.commit_fresh.new.self.tickets) c.in-Ok.ensures.of.1 c.commit_fresh.ensures.ticket

pub returns-in-Err-clause-committed : goal.returns-in-Err-clause-committed
returns-in-Err-clause-committed g c =
    let old = c.args.self.now.course in
    let new = c.no_memory.new.self.course in
    (c.requires.none, unchanged old.clocked.«record» new.clocked.«record» (ap (λ z. z.«record») c.no_memory.ensures.clocked), c.no_memory.ensures.none c.requires.none)
