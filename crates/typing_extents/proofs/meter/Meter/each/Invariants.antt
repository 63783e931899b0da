use Rattle.std.proofs.Common.{drop, []}
use Rattle.rules_expansion.specs.trees.Trees.{exs_of}
use Rattle.rules_typing.specs.TypingSizes.{worst_exs}
use Rattle.typing_parts.specs.Views.{scope_of, sigs_of}
use Rattle.typing_extents.specs.Measuring.{exts_of, Worst}
use Rattle.typing_extents.proofs.meter.Meter.each.Given as goal

abbrev pub invariant-each : goal.invariant-each
invariant-each l = Worst l.fn.self l.self l.x
    (worst_exs (sigs_of l.funs.types.nodes l.funs.sigs) (exts_of l.fn.self.extents) (scope_of [] l.fn.self.scope.items) (exs_of (drop l.e-index l.es)))
    (worst_exs (sigs_of l.funs.types.nodes l.funs.sigs) (exts_of l.fn.self.extents) (scope_of [] l.fn.self.scope.items) (exs_of l.es))
