use Rattle.std.proofs.Common.{◌≡◌, ◌++◌, drop, map, string_bytes}
use Rattle.std.specs.List.{flat_map}
use Rattle.rules_expansion.specs.trees.Programs.{par_of}
use Rattle.haskell_module.specs.Modules.{parameter_end}
use Rattle.haskell_module.proofs.module.write_parameter_ends.Given as goal

abbrev pub invariant-each : goal.invariant-each
invariant-each l = string_bytes l.text ++ flat_map parameter_end (map par_of (drop l._parameter-index l.parameters)) ≡ string_bytes l.fn.text ++ flat_map parameter_end (map par_of l.parameters)
