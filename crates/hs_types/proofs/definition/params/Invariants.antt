use Rattle.std.proofs.Common.{◌≡◌, ◌&&◌, drop, map}
use Rattle.rules_expansion.specs.trees.Programs.{par_of}
use Rattle.rules_typing.specs.TypingScripts.{params_in, param_faults, none_of}
use Rattle.typing_judge.specs.Least.{least}
use Rattle.typing_parts.specs.Judged.{names, kept}
use Rattle.hs_types.proofs.definition.params.Given as goal

abbrev pub invariant-each : goal.invariant-each
invariant-each l = record {
  scope : params_in (names l.types.nodes l.checker) (map par_of (drop l.p-index l.ps)) ≡ params_in (names l.types.nodes l.fn.checker) (map par_of l.ps);
  faults : least (kept l.types.nodes l.checker) (param_faults (names l.types.nodes l.checker) (map par_of (drop l.p-index l.ps))) ≡ least (kept l.types.nodes l.fn.checker) (param_faults (names l.types.nodes l.fn.checker) (map par_of l.ps));
  sound : (l.sound && none_of (param_faults (names l.types.nodes l.checker) (map par_of (drop l.p-index l.ps)))) ≡ none_of (param_faults (names l.types.nodes l.fn.checker) (map par_of l.ps));
}
