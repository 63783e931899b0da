use Rattle.std.proofs.Common.{ap, inr, sym, ◌∙◌, subst, refl, ◌<◌}
use Rattle.hs_rules.specs.Histories.{steps_of}
use Rattle.hs_rules.specs.declared.entry.Entry.TheVariants as entry
use Rattle.run_course.specs.declared.history.acts.Next.TheVariants as next
use Rattle.run_course.specs.Endings.{IsConcluded, IsOpen}
use Rattle.run_course.specs.Settled.{OnlyGoes}
use Rattle.run_course.proofs.Ended.{only_goes}
use Rattle.run_course.proofs.More.{appended_more, looked_more, looked_same, next_kept}
use Rattle.run_course.proofs.course.Course.turn.Goals as goal

pub look-requires-clause-next : goal.look-requires-clause-next
look-requires-clause-next g c =
    next_kept c.next-next.new.self.«record» c.ends.new.self.clocked.«record» c.next-next.result next.Goes (ap (λ k. k.«record») c.ends.ensures.clocked) c.in-Goes.is c.next-next.ensures.next

pub sleep-requires-clause-next : goal.sleep-requires-clause-next
sleep-requires-clause-next g c =
    next_kept c.next-next.new.self.«record» c.ends.new.self.clocked.«record» c.next-next.result (next.Sleeps c.in-Sleeps.due) (ap (λ k. k.«record») c.ends.ensures.clocked) c.in-Sleeps.is c.next-next.ensures.next

pub returns-in_ok-ticked-in-Goes-clause-rests : goal.returns-in_ok-ticked-in-Goes-clause-rests
returns-in_ok-ticked-in-Goes-clause-rests g c = λ e.
    let mid = c.ends.new.self.clocked.«record» in
    let new = c.look.new.self.clocked.«record» in
    let goes = c.ends.ensures.goes c.if-ends.false in
    let open_still = subst (λ z. IsConcluded z mid) goes.0 c.ends.ensures.concluded in
    let rests = only_goes mid (next_kept c.next-next.new.self.«record» mid c.next-next.result next.Goes (ap (λ k. k.«record») c.ends.ensures.clocked) c.in-Goes.is c.next-next.ensures.next) in
    let same = sym (looked_same c.in_ok-ticked-in-Goes.ticked mid new e c.in_ok-ticked-in-Goes.ensures.ok) in
    (c.look.ensures.end, subst OnlyGoes same rests, subst IsOpen same open_still)

pub returns-in_ok-ticked-in-Goes-clause-more : goal.returns-in_ok-ticked-in-Goes-clause-more
returns-in_ok-ticked-in-Goes-clause-more g c = λ e.
    let mid = c.ends.new.self.clocked.«record» in
    let new = c.look.new.self.clocked.«record» in
    let steps = ap steps_of c.next-next.ensures.same.history in
    let kept = ap (λ k. steps_of k.«record».history.list) c.ends.ensures.clocked in
    inr (subst (λ n. n < steps_of new.history.list) (kept ∙ steps) (looked_more c.in_ok-ticked-in-Goes.ticked mid new e c.in_ok-ticked-in-Goes.ensures.ok))

pub returns-in_ok-sleep-in-Sleeps-clause-more : goal.returns-in_ok-sleep-in-Sleeps-clause-more
returns-in_ok-sleep-in-Sleeps-clause-more g c = λ e.
    let mid = c.ends.new.self.clocked.«record» in
    let new = c.sleep.new.self.clocked.«record» in
    let steps = ap steps_of c.next-next.ensures.same.history in
    let kept = ap (λ k. steps_of k.«record».history.list) c.ends.ensures.clocked in
    let h = c.in_ok-sleep-in-Sleeps.ensures.ok in
    inr (subst (λ n. n < steps_of new.history.list) (kept ∙ steps) (appended_more (entry.Tick h.0) mid new refl h.1))
