use Rattle.std.proofs.Common.{◌≡◌, ◌++◌, drop, map}
use Rattle.rules_expansion.specs.trees.Programs.{fn_of}
use Rattle.rules_expansion.specs.Expansion.{actions_of}
use Rattle.hs_core.specs.Numbering.{names_of}
use Rattle.hs_core.proofs.defs.action_names.Given as goal

abbrev pub invariant-defs : goal.invariant-defs
invariant-defs l = l.names ++ names_of (actions_of (map fn_of (drop l.def-index l.script.defs))) ≡ names_of (actions_of (map fn_of l.script.defs))
