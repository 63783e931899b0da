use Rattle.std.proofs.Common.{◌≡◌, [], drop, map}
use Rattle.rules_expansion.specs.trees.Programs.{par_of}
use Rattle.rules_typing.specs.TypingSizes.{param_names}
use Rattle.typing_parts.specs.Views.{scope_of}
use Rattle.hs_types.proofs.progress.bind_params.Given as goal

abbrev pub invariant-each : goal.invariant-each
invariant-each l = record {
  scope : param_names (scope_of [] l.meter.scope.items) (map par_of (drop l.p-index l.ps)) ≡ param_names (scope_of [] l.fn.meter.scope.items) (map par_of l.ps);
  before : l.meter.extents ≡ l.fn.meter.extents;
}
