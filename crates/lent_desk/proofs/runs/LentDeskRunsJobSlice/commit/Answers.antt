use Rattle.std.proofs.Common.{◌≡◌, ◌++◌, subst}
use mathlib.Core.List.{IsPrefix}
use Rattle.lent_desk.proofs.Keeping.{went_on}
use Rattle.lent_desk.proofs.runs.LentDeskRunsJobSlice.commit.Goals as goal

pub returns-in-Taken-clause-history : goal.returns-in-Taken-clause-history
returns-in-Taken-clause-history g c =
    let old = c.deref_mut.result.now.course in
    let mid = c.commit_or_redo-committed.new.self.course in
    let goes = c.go_on_after.ensures.goes in
    let last = c.go_on_after.new.desk.course.clocked.«record».history.list in
    let begins = subst (λ d. last ≡ d.course.clocked.«record».history.list ++ goes.more) c.deref_mut-in-Taken.ensures.value goes.begins in
    subst (λ d. IsPrefix d.course.clocked.«record».history.list last) c.deref_mut.ensures.value
    (went_on _ _ c.args.slice old.end old.clocked.«record» mid.end mid.clocked.«record» c.commit_or_redo-committed.ensures.committed last (goes.more, begins))
