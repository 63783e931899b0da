use Rattle.std.proofs.Common.{List, drop}
use Rattle.rules_code.specs.CodeTrees.{Sa}
use Rattle.hs_core.specs.Emits.{DoneIn, Emits}
use Rattle.hs_core.specs.Opening.{Opened, wrap_all, HoldAll}
use Rattle.hs_core.proofs.emitter.ActEmitter.closed.Given as goal

abbrev pub invariant-back : goal.invariant-back
invariant-back l = (os : List Opened) (t : Sa) → Emits (HoldAll l.fn.self l.fn.pending os × DoneIn l.fn.self l.fn.last t) l.fn.self l.self l.id (λ s. wrap_all (drop l.i os) t)
