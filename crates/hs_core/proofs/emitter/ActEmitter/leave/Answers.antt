use Rattle.std.proofs.Common.{arith}
use Rattle.hs_core.proofs.Waits.{moves_off, moves_stay}
use Rattle.hs_core.proofs.emitter.ActEmitter.leave.Goals as goal

pub returns-then-len-base : goal.returns-then-len-base
returns-then-len-base c = λ d m e. let l = c.len.ensures in let t = c.if-len-base.true in moves_off d (omega (arith, e, l, t)) c.off.ensures

pub returns-else-len-base : goal.returns-else-len-base
returns-else-len-base c = λ d m e. let l = c.len.ensures in let t = c.if-len-base.false in moves_stay d (omega (arith, e, l, t))
