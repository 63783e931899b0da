use Rattle.std.proofs.Common.{◌≡◌, ◌≤◌, ◌-◌, min, max, length, drop, []}
use Rattle.rules_expansion.specs.trees.Programs.{rest_of}
use Rattle.rules_typing.specs.TypingSizes.{worst_bl}
use Rattle.typing_parts.specs.Views.{scope_of, sigs_of}
use Rattle.typing_extents.specs.Measuring.{exts_of}
use Rattle.typing_extents.proofs.meter.Meter.+worst.Given as goal

abbrev pub invariant-block-stmts : goal.invariant-block-stmts
invariant-block-stmts l = record {
  mark : l.mark ≡ length (scope_of [] l.fn.self.scope.items);
  long : length (scope_of [] l.fn.self.scope.items) ≤ length (scope_of [] l.self.scope.items);
  back : drop (length (scope_of [] l.self.scope.items) - length (scope_of [] l.fn.self.scope.items)) (scope_of [] l.self.scope.items) ≡ scope_of [] l.fn.self.scope.items;
  before : l.self.extents ≡ l.fn.self.extents;
  size : min (max l.x.size (worst_bl (sigs_of l.funs.types.nodes l.funs.sigs) (exts_of l.fn.self.extents) (scope_of [] l.self.scope.items) (rest_of (drop l.st-index l.b.stmts) l.b.last)).size) 1000001 ≡ min (worst_bl (sigs_of l.funs.types.nodes l.funs.sigs) (exts_of l.fn.self.extents) (scope_of [] l.fn.self.scope.items) (rest_of l.b.stmts l.b.last)).size 1000001;
  height : min (max l.x.height (worst_bl (sigs_of l.funs.types.nodes l.funs.sigs) (exts_of l.fn.self.extents) (scope_of [] l.self.scope.items) (rest_of (drop l.st-index l.b.stmts) l.b.last)).height) 1000001 ≡ min (worst_bl (sigs_of l.funs.types.nodes l.funs.sigs) (exts_of l.fn.self.extents) (scope_of [] l.fn.self.scope.items) (rest_of l.b.stmts l.b.last)).height 1000001;
  narrow : l.x.size ≤ 1000001;
  low : l.x.height ≤ 1000001;
}
