use Rattle.std.proofs.Common.{◌≡◌, drop}
use Rattle.rules_typing.specs.Typing.{is_each}
use Rattle.typing_judge.specs.Least.{least}
use Rattle.typing_parts.specs.Views.{place_types, tys_of}
use Rattle.typing_parts.specs.Judged.{names, kept, unmet, all_met}
use Rattle.typing_parts.proofs.checker.Checker.each_is.Given as goal

abbrev pub invariant-each : goal.invariant-each
invariant-each l = record {
  scope : names l.types.nodes l.self ≡ names l.types.nodes l.fn.self;
  holds : all_met (is_each (place_types l.types.nodes (drop l.i l.params)) (tys_of l.types.nodes (drop l.i l.us))) ≡ all_met (is_each (place_types l.types.nodes l.params) (tys_of l.types.nodes l.us));
  faults : least (kept l.types.nodes l.self) (unmet l.p (is_each (place_types l.types.nodes (drop l.i l.params)) (tys_of l.types.nodes (drop l.i l.us)))) ≡ least (kept l.types.nodes l.fn.self) (unmet l.p (is_each (place_types l.types.nodes l.params) (tys_of l.types.nodes l.us)));
}
