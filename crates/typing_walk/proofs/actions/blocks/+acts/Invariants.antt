use Rattle.std.proofs.Common.{◌≡◌, ◌≤◌, ◌+◌, ◌-◌, ◌*◌, length, drop, max}
use Rattle.hs_base.specs.declared.tree.action.Block.{size-Block}
use Rattle.rules_expansion.specs.trees.Programs.{rest_of}
use Rattle.typing_judge.specs.JudgingActions.{judge_bl}
use Rattle.typing_judge.specs.Least.{least}
use Rattle.typing_parts.specs.Contexts.{ctx_of}
use Rattle.typing_parts.specs.Judged.{names, kept}
use Rattle.typing_walk.proofs.actions.blocks.+acts.Given as goal

-- Each goes down its trees; of those that are given one whole the caller stands above.
abbrev pub decreases-action : goal.decreases-action
decreases-action l = 7 * goal.size-action l

abbrev pub decreases-stmt : goal.decreases-stmt
decreases-stmt l = 7 * goal.size-stmt l + 1

abbrev pub decreases-block : goal.decreases-block
decreases-block l = 7 * goal.size-block l + 2

abbrev pub decreases-in_block : goal.decreases-in_block
decreases-in_block l = 7 * goal.size-in_block l + 3

abbrev pub decreases-in_masking : goal.decreases-in_masking
decreases-in_masking l = 7 * goal.size-in_masking l + 3

abbrev pub decreases-restored : goal.decreases-restored
decreases-restored l = 7 * goal.size-restored l + 3

abbrev pub decreases-second : goal.decreases-second
decreases-second l = 7 * goal.size-second l + 3

abbrev pub decreases-third : goal.decreases-third
decreases-third l = 7 * goal.size-third l + 3

abbrev pub decreases-caught : goal.decreases-caught
decreases-caught l = 7 * goal.size-caught l + 3

abbrev pub decreases-under : goal.decreases-under
decreases-under l = 7 * goal.size-under l + 3

abbrev pub decreases-in_cell : goal.decreases-in_cell
decreases-in_cell l = 7 * goal.size-in_cell l + 4

abbrev pub decreases-in_scope : goal.decreases-in_scope
decreases-in_scope l = 7 * goal.size-in_scope l + 4

abbrev pub decreases-under_two : goal.decreases-under_two
decreases-under_two l = 7 * goal.size-under_two l + 4

abbrev pub decreases-in_arms : goal.decreases-in_arms
decreases-in_arms l = 7 * goal.size-in_arms l + 5

abbrev pub decreases-arms_at : goal.decreases-arms_at
decreases-arms_at l = 7 * goal.size-arms_at l + 6

abbrev pub decreases-in_bracket : goal.decreases-in_bracket
decreases-in_bracket l = 7 * max (goal.size-in_bracket l) (size-Block l.d.now) + 4

abbrev pub invariant-block-stmts : goal.invariant-block-stmts
invariant-block-stmts l = record {
  mark : l.mark ≡ length (names l.funs.types.nodes l.fn.checker);
  long : length (names l.funs.types.nodes l.fn.checker) ≤ length (names l.funs.types.nodes l.checker);
  back : drop (length (names l.funs.types.nodes l.checker) - length (names l.funs.types.nodes l.fn.checker)) (names l.funs.types.nodes l.checker) ≡ names l.funs.types.nodes l.fn.checker;
  type : (judge_bl (ctx_of l.funs) (names l.funs.types.nodes l.fn.checker) (rest_of l.b.stmts l.b.last)).type ≡ (judge_bl (ctx_of l.funs) (names l.funs.types.nodes l.checker) (rest_of (drop l.st-index l.b.stmts) l.b.last)).type;
  faults : least (kept l.funs.types.nodes l.fn.checker) (judge_bl (ctx_of l.funs) (names l.funs.types.nodes l.fn.checker) (rest_of l.b.stmts l.b.last)).faults ≡ least (kept l.funs.types.nodes l.checker) (judge_bl (ctx_of l.funs) (names l.funs.types.nodes l.checker) (rest_of (drop l.st-index l.b.stmts) l.b.last)).faults;
}
