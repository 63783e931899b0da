use Rattle.std.proofs.Common.{[], take, map}
use Rattle.rules_expansion.specs.trees.Programs.{fn_of}
use Rattle.hs_core.specs.Placing.{Functions}
use Rattle.hs_core.proofs.emitter.ActEmitter.functions.Given as goal

abbrev pub invariant-each : goal.invariant-each
invariant-each l = Functions l.defs l.fn.self l.self [] l.funs (map fn_of (take l.def-index l.script.defs))
