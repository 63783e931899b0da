use Rattle.std.proofs.Common.{take, drop}
use Rattle.std.specs.Option.{option_copied}
use Rattle.rules_expansion.specs.trees.Programs.{act_of}
use Rattle.rules_expansion.specs.Templates.{steps}
use Rattle.hs_core.specs.Opening.{OpensAll}
use Rattle.hs_core.specs.Making.{filling_of}
use Rattle.hs_core.proofs.Waits.{Gone}
use Rattle.hs_core.proofs.emitter.ActEmitter.+expand.Given as goal

abbrev pub invariant-stmts-each : goal.invariant-stmts-each
invariant-stmts-each l = OpensAll l.defs l.fn.self l.self l.pending (take l.stmt-index l.stmts)

abbrev pub invariant-derived-steps : goal.invariant-derived-steps
invariant-derived-steps l = Gone l.defs (filling_of (option_copied l.parts.subject) (option_copied l.parts.name) (act_of l.a)) l.fn.form l.fn.self l.self l.making (drop l.step-index (steps l.fn.form))
