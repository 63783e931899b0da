use Rattle.conc_world.proofs.Refusing.{none_found}
use Rattle.conc_world.proofs.desk.Desk.commit.Goals as goal

pub commit_fresh-requires-clause-none : goal.commit_fresh-requires-clause-none
commit_fresh-requires-clause-none g c = (none_found c.args.slice c.args.self.now.course.end c.args.self.now.course.clocked.«record» c.in-Ok.found c.in_default-found.is c.in-Ok.ensures.refused).0

pub commit_fresh-requires-clause-starts : goal.commit_fresh-requires-clause-starts
commit_fresh-requires-clause-starts g c = (none_found c.args.slice c.args.self.now.course.end c.args.self.now.course.clocked.«record» c.in-Ok.found c.in_default-found.is c.in-Ok.ensures.refused).1

pub commit_fresh-requires-clause-fuel : goal.commit_fresh-requires-clause-fuel
commit_fresh-requires-clause-fuel g c = (none_found c.args.slice c.args.self.now.course.end c.args.self.now.course.clocked.«record» c.in-Ok.found c.in_default-found.is c.in-Ok.ensures.refused).2
