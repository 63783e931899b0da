use Rattle.std.proofs.Common.{ap, not, refl, inr, subst, ◌⊎◌, IsSome}
use Rattle.run_course.proofs.More.{Less, acted_more, looked_more, looked_same}
use Rattle.run_course.proofs.course.Course.look_and_act.Goals as goal

pub returns-in_ok-act-clause-ok : goal.returns-in_ok-act-clause-ok
returns-in_ok-act-clause-ok g c =
    let old = c.args.self.now.clocked.«record» in
    let mid = c.look.new.self.clocked.«record» in
    let new = c.act.new.self.clocked.«record» in
    let same = looked_same c.in_ok-look.field-0 old mid (ap not c.if-not-branch.true) c.in_ok-look.ensures.ok in
    (refl, subst (λ z. IsSome c.act.new.self.end ⊎ Less z new) same (acted_more c.args.act c.act.new.self.end mid new c.in_ok-act.ensures.ok))

pub returns-else-not-branch-clause-ok : goal.returns-else-not-branch-clause-ok
returns-else-not-branch-clause-ok g c =
    let old = c.args.self.now.clocked.«record» in
    let new = c.look.new.self.clocked.«record» in
    (refl, inr (looked_more c.in_ok-look.field-0 old new (ap not c.if-not-branch.false) c.in_ok-look.ensures.ok))
