use Rattle.std.proofs.Common.{length}
use Rattle.term_graph.proofs.stepping.+push_all.Given as goal

-- fewer frames each time
abbrev pub decreases-push_all : goal.decreases-push_all
decreases-push_all l = length l.frames.now.list
