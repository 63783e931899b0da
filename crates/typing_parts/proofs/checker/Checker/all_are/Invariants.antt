use Rattle.std.proofs.Common.{◌≡◌, drop, map}
use Rattle.typing_table.specs.Meaning.{type_in}
use Rattle.rules_typing.specs.Typing.{is}
use Rattle.typing_judge.specs.Least.{least}
use Rattle.typing_parts.specs.Views.{tys_of}
use Rattle.typing_parts.specs.Judged.{names, kept, unmet, all_met}
use Rattle.typing_parts.proofs.checker.Checker.all_are.Given as goal

abbrev pub invariant-each : goal.invariant-each
invariant-each l = record {
  scope : names l.types.nodes l.self ≡ names l.types.nodes l.fn.self;
  holds : all_met (map (is (type_in l.types.nodes l.t)) (tys_of l.types.nodes (drop l.u-index l.us))) ≡ all_met (map (is (type_in l.types.nodes l.t)) (tys_of l.types.nodes l.us));
  faults : least (kept l.types.nodes l.self) (unmet l.p (map (is (type_in l.types.nodes l.t)) (tys_of l.types.nodes (drop l.u-index l.us)))) ≡ least (kept l.types.nodes l.fn.self) (unmet l.p (map (is (type_in l.types.nodes l.t)) (tys_of l.types.nodes l.us)));
}
