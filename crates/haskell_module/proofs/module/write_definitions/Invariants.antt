use Rattle.std.proofs.Common.{◌≡◌, ◌++◌, drop, map, string_bytes}
use Rattle.std.specs.List.{flat_map}
use Rattle.rules_expansion.specs.trees.Programs.{fn_of}
use Rattle.haskell_module.specs.Modules.{def_text}
use Rattle.haskell_module.proofs.module.write_definitions.Given as goal

abbrev pub invariant-each : goal.invariant-each
invariant-each l = string_bytes l.text ++ flat_map def_text (map fn_of (drop l.def-index l.defs)) ≡ string_bytes l.fn.text ++ flat_map def_text (map fn_of l.defs)
