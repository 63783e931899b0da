use Rattle.std.proofs.Common.{◌≡◌, [], drop, map}
use Rattle.rules_expansion.specs.trees.Programs.{fn_of}
use Rattle.typing_judge.specs.JudgingScripts.{faults_from}
use Rattle.typing_judge.specs.Least.{least}
use Rattle.typing_parts.specs.Views.{kept_of, scope_of, sigs_of}
use Rattle.hs_types.specs.Steps.{measured_of}
use Rattle.hs_types.proofs.progress.Progress.definitions.Given as goal

abbrev pub invariant-each : goal.invariant-each
invariant-each l = record {
  scope : scope_of [] l.self.meter.scope.items ≡ [];
  types : l.funs.types ≡ l.fn.funs.types;
  sigs : l.funs.sigs ≡ l.fn.funs.sigs;
  faults : least (kept_of l.fn.funs.types.nodes l.self.first.fault) (faults_from (sigs_of l.fn.funs.types.nodes l.fn.funs.sigs) (measured_of l.self) l.i (map fn_of (drop l.i l.ds))) ≡ least (kept_of l.fn.funs.types.nodes l.fn.self.first.fault) (faults_from (sigs_of l.fn.funs.types.nodes l.fn.funs.sigs) (measured_of l.fn.self) 0 (map fn_of l.ds));
}
