use Rattle.std.proofs.Common.{◌∙◌, arith}
use Rattle.conc_world.proofs.Turning.{job_starts, job_within}
use Rattle.conc_world.proofs.desk.Desk.slice_of.Goals as goal

pub returns-in-Ok-clause-of : goal.returns-in-Ok-clause-of
returns-in-Ok-clause-of g c =
    let same = c.in-Ok.ensures.same in
    let job = c.in_ok-job.ensures.ok in
    (same.1 ∙ job.1, same.0 ∙ job.2, same.4 ∙ job.0.code)

pub returns-in-Ok-clause-starts : goal.returns-in-Ok-clause-starts
returns-in-Ok-clause-starts g c =
    let same = c.in-Ok.ensures.same in
    job_starts c.in-Ok.slice c.in_ok-job.job c.args.self.now.course.clocked.«record» c.in_ok-job.ensures.ok.0 same.1 same.2 same.3

pub returns-in-Ok-clause-fuel : goal.returns-in-Ok-clause-fuel
returns-in-Ok-clause-fuel g c =
    let steps = c.in-Ok.ensures.steps.1 in
    let least = c.min.ensures in
    job_within c.in-Ok.slice c.in_ok-job.job c.args.self.now.course.clocked.«record» c.in_ok-job.ensures.ok.0 (omega (arith, steps, least))
