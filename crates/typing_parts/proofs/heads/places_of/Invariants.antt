use Rattle.std.proofs.Common.{◌≡◌, ◌++◌, length, drop, map}
use Rattle.rules_expansion.specs.trees.Programs.{par_of}
use Rattle.rules_typing.specs.TypingScripts.{param_types}
use Rattle.typing_table.specs.Meaning.{Grows}
use Rattle.typing_parts.specs.Heads.{AllBelow}
use Rattle.typing_parts.specs.Views.{place_types}
use Rattle.typing_parts.proofs.heads.places_of.Given as goal

abbrev pub invariant-params : goal.invariant-params
invariant-params l = Grows l.fn.interner.types.nodes l.interner.types.nodes × AllBelow l.places (length l.interner.types.nodes) × (place_types l.interner.types.nodes l.places ++ param_types (map par_of (drop l.p-index l.ps)) ≡ param_types (map par_of l.ps))
