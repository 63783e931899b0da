use Rattle.std.proofs.Common.{◌≤◌, ◌∙◌, List, length, arith, refl}
use Rattle.std.proofs.Math.Logic.{∥∥₁_elim}
use Rattle.std.proofs.Props.{props}
use Rattle.hs_rules.specs.declared.entry.Entry.{Entry}
use Rattle.conc_world.proofs.desk.Desk.catch_up.Goals as goal

pub loop-self-init : goal.loop-self-init
loop-self-init g c = record { jobs = λ k. refl; threads = λ t. refl; course = refl; given = refl; code = refl }

pub loop-self-preserved : goal.loop-self-preserved
loop-self-preserved g c =
    let was = c.loop-self.invariant in
    let now = c.look.ensures in
    record {
      jobs = λ k. now.jobs k ∙ was.jobs k;
      threads = λ t. now.threads t ∙ was.threads t;
      course = now.course ∙ was.course;
      given = now.given ∙ was.given;
      code = now.code ∙ was.code;
    }

pub returns-clause-seen : goal.returns-clause-seen
returns-clause-seen g c =
    let s = c.loop-self.self in
    let es : List Entry = s.course.clocked.«record».history.list in
    let within : s.seen ≤ length es = ∥∥₁_elim s.knows (hlevel props) (λ k. k.within) in
    let is = c.len.ensures in
    omega (arith, within, is)
