use Rattle.std.proofs.Common.{ap}
use Rattle.conc_world.proofs.Refusing.{none_found, refused_here}
use Rattle.conc_world.proofs.desk.Desk.commit_or_redo.Goals as goal

pub commit_fresh-requires-clause-none : goal.commit_fresh-requires-clause-none
commit_fresh-requires-clause-none g c = (none_found c.args.slice c.args.self.now.course.end c.args.self.now.course.clocked.«record» c.in-Ok.found c.in_default-found.is c.in-Ok.ensures.refused).0

pub commit_fresh-requires-clause-starts : goal.commit_fresh-requires-clause-starts
commit_fresh-requires-clause-starts g c = (none_found c.args.slice c.args.self.now.course.end c.args.self.now.course.clocked.«record» c.in-Ok.found c.in_default-found.is c.in-Ok.ensures.refused).1

pub commit_fresh-requires-clause-fuel : goal.commit_fresh-requires-clause-fuel
commit_fresh-requires-clause-fuel g c = (none_found c.args.slice c.args.self.now.course.end c.args.self.now.course.clocked.«record» c.in-Ok.found c.in_default-found.is c.in-Ok.ensures.refused).2

pub returns-in-Some-clause-committed : goal.returns-in-Some-clause-committed
returns-in-Some-clause-committed g c =
    let old = c.args.self.now.course in
    let new = c.take_back.new.self.course in
    refused_here c.args.slice old.end old.clocked.«record» c.in-Ok.found c.in-Some.refused c.in-Some.is c.in-Ok.ensures.refused new.end new.clocked.«record» (ap (λ z. z.end) c.take_back.ensures.course) (ap (λ z. z.clocked.«record») c.take_back.ensures.course)
