use Rattle.std.specs.Prelude.{length}
use Rattle.std.proofs.Common.{◌≡◌, ◌+◌, ◌∙◌, ℕ, ap, arith, subst, sym}
use Rattle.std.proofs.lemmas.Grind.{common_steps}
use Rattle.conc_world.specs.tickets.Out.{job, ticket_of, HasRoom}
use Rattle.run_course.specs.history.Records.{Same}
use Rattle.conc_world.specs.Jobs.{Added, IsJob}
use Rattle.conc_world.proofs.Knowing.{added_after}
use Rattle.conc_world.proofs.desk.Desk.make_job.Goals as goal

pub give-requires-clause-room : goal.give-requires-clause-room
give-requires-clause-room g c = subst HasRoom (sym c.next_ready.ensures.tickets.0) c.in_ok-room.ensures.ok

pub returns-clause-some : goal.returns-clause-some
returns-clause-some g c =
    let old = c.args.self.now in
    let mid = c.next_ready.new.self in
    let new = c.give.new.self in
    let made = c.in_ok-job.job in
    let ok = c.in_ok-job.ensures.ok in
    let next : c.in-Some.ticket ≡ old.given + 1 = grind (arith, common_steps, c.in-Some.ensures) in
    let seen = c.next_ready.ensures.tickets.2 ∙ c.in_ok-room.ensures.seen ∙ c.catch_up.ensures.seen ∙ ap (λ k. length k.clocked.«record».history.list) c.catch_up.ensures.course in
    let jobs = λ (j : ℕ). ap (λ s. job s j) c.next_ready.ensures.tickets.0 ∙ c.in_ok-room.ensures.jobs j ∙ c.catch_up.ensures.jobs j in
    let threads = λ (t : ℕ). ap (λ s. ticket_of s t) c.next_ready.ensures.tickets.0 ∙ c.in_ok-room.ensures.threads t ∙ c.catch_up.ensures.threads t in
    let added = added_after old.tickets mid.tickets new.tickets c.in-Some.ticket c.in-Some-next_ready.t mid.seen (length old.course.clocked.«record».history.list) seen jobs threads c.give.ensures.added in (
      subst (λ k. IsJob made k.clocked.«record») (sym c.give.ensures.course) ok.0,
      ok.2 ∙ next,
      c.give.ensures.given ∙ sym ok.2,
      subst (λ (k : ℕ). Added k made.tid (length old.course.clocked.«record».history.list) old.tickets new.tickets) (sym ok.2)
          (subst (λ (t : ℕ). Added c.in-Some.ticket t (length old.course.clocked.«record».history.list) old.tickets new.tickets) (sym ok.1) added),
    )

pub returns-clause-same : goal.returns-clause-same
returns-clause-same g c =
    let old = c.args.self.now in
    let before = c.in_ok-room.ensures.course ∙ c.catch_up.ensures.course in
    subst (λ k. Same k.clocked.«record» c.give.new.self.course.clocked.«record») before
    (subst (λ k. Same c.room.new.self.course.clocked.«record» k.clocked.«record») (sym c.give.ensures.course) c.next_ready.ensures.same)
