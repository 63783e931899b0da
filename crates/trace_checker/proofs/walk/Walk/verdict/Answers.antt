use Rattle.trace_checker.proofs.Following.{verified}
use Rattle.trace_checker.proofs.walk.Walk.verdict.Goals as goal

pub returns : goal.returns
returns c = λ b text es h spells. verified b text es c.args.self.now c.reached-end.result h spells c.reached-end.ensures.reached
