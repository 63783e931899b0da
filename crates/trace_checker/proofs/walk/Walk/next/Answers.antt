use Rattle.trace_checker.proofs.Following.{misspelled}
use Rattle.trace_checker.proofs.walk.Walk.next.Goals as goal

pub returns-in-Spelling-clause-err : goal.returns-in-Spelling-clause-err
returns-in-Spelling-clause-err c = λ b text es h. misspelled b text es c.args.self.now h c.in-Spelling.ensures.1 c.in-Spelling.ensures.0
