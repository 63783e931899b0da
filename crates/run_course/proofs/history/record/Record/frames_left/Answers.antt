use Rattle.std.proofs.Common.{arith}
use Rattle.hs_rules.specs.declared.entry.LimitKind.TheVariants as limit
use Rattle.run_course.proofs.history_lemmas.Exceeding.{record_within}
use Rattle.run_course.proofs.history.record.Record.frames_left.Goals as goal

pub overflow_sub-result : goal.overflow_sub-result
overflow_sub-result c = let r = c.args.self.now in let k = record_within r limit.Frames in omega (arith, k, r.world.threads.framed)

pub returns : goal.returns
returns c = let r = c.args.self.now in let k = record_within r limit.Frames in omega (arith, k, r.world.threads.framed)
