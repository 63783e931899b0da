use Rattle.std.proofs.Common.{◌≡◌, [], take, map}
use Rattle.rules_expansion.specs.trees.Programs.{fn_of}
use Rattle.rules_code.specs.Slots.{roots_of}
use Rattle.hs_nodes.specs.Standing.{Known}
use Rattle.hs_core.proofs.expanding.places.Given as goal

abbrev pub invariant-defs : goal.invariant-defs
invariant-defs l = l.fn.emitter.nodes ≡ [] → l.fn.emitter.scope ≡ [] → Known l.emitter.nodes l.places.all (roots_of (map fn_of (take l.def-index l.script.defs))) × (l.emitter.scope ≡ [])
