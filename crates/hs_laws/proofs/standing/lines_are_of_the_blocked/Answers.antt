use Rattle.hs_laws.proofs.CellSteps.{line_leaves, line_more}
use Rattle.hs_laws.proofs.standing.lines_are_of_the_blocked.Goals as goal

pub returns-clause-leaves : goal.returns-clause-leaves
returns-clause-leaves c = line_leaves

pub returns-clause-blocks : goal.returns-clause-blocks
returns-clause-blocks c = λ m t r ws. line_more m ws (record { thread = t; reason = r })
