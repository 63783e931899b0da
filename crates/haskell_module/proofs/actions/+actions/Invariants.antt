use Rattle.std.proofs.Common.{◌≡◌, ◌+◌, ◌*◌, ◌++◌, max, drop, string_bytes}
use Rattle.hs_base.specs.declared.tree.action.Block.{size-Block}
use Rattle.rules_expansion.specs.trees.Programs.{rest_of}
use Rattle.haskell_module.specs.Actions.{lines}
use Rattle.haskell_module.proofs.actions.+actions.Given as goal

-- Each goes down its trees; of those that are given one whole the caller stands above.
abbrev pub decreases-write_action : goal.decreases-write_action
decreases-write_action l = 16 * goal.size-write_action l

abbrev pub decreases-write_line : goal.decreases-write_line
decreases-write_line l = 16 * goal.size-write_line l + 1

abbrev pub decreases-write_last : goal.decreases-write_last
decreases-write_last l = 16 * goal.size-write_last l + 1

abbrev pub decreases-write_bind : goal.decreases-write_bind
decreases-write_bind l = 16 * goal.size-write_bind l + 2

abbrev pub decreases-write_stmt : goal.decreases-write_stmt
decreases-write_stmt l = 16 * goal.size-write_stmt l + 3

abbrev pub decreases-write_lines : goal.decreases-write_lines
decreases-write_lines l = 16 * goal.size-write_lines l + 4

abbrev pub decreases-write_block : goal.decreases-write_block
decreases-write_block l = 16 * goal.size-write_block l + 5

abbrev pub decreases-write_body : goal.decreases-write_body
decreases-write_body l = 16 * goal.size-write_body l + 6

abbrev pub decreases-write_bound : goal.decreases-write_bound
decreases-write_bound l = 16 * goal.size-write_bound l + 6

abbrev pub decreases-write_bound_two : goal.decreases-write_bound_two
decreases-write_bound_two l = 16 * goal.size-write_bound_two l + 6

abbrev pub decreases-write_in_thread : goal.decreases-write_in_thread
decreases-write_in_thread l = 16 * goal.size-write_in_thread l + 7

abbrev pub decreases-write_unmasking : goal.decreases-write_unmasking
decreases-write_unmasking l = 16 * goal.size-write_unmasking l + 6

abbrev pub decreases-write_around : goal.decreases-write_around
decreases-write_around l = 16 * goal.size-write_around l + 7

abbrev pub decreases-write_around_bound : goal.decreases-write_around_bound
decreases-write_around_bound l = 16 * goal.size-write_around_bound l + 7

abbrev pub decreases-write_fork : goal.decreases-write_fork
decreases-write_fork l = 16 * goal.size-write_fork l + 8

abbrev pub decreases-write_fork_unmasking : goal.decreases-write_fork_unmasking
decreases-write_fork_unmasking l = 16 * goal.size-write_fork_unmasking l + 7

abbrev pub decreases-write_scoped : goal.decreases-write_scoped
decreases-write_scoped l = 16 * goal.size-write_scoped l + 9

abbrev pub decreases-write_masking : goal.decreases-write_masking
decreases-write_masking l = 16 * goal.size-write_masking l + 8

abbrev pub decreases-write_restore : goal.decreases-write_restore
decreases-write_restore l = 16 * goal.size-write_restore l + 7

abbrev pub decreases-write_modify : goal.decreases-write_modify
decreases-write_modify l = 16 * goal.size-write_modify l + 7

abbrev pub decreases-write_timeout : goal.decreases-write_timeout
decreases-write_timeout l = 16 * goal.size-write_timeout l + 7

abbrev pub decreases-write_choice : goal.decreases-write_choice
decreases-write_choice l = 16 * (max (goal.size-write_choice l) (size-Block l.b.now)) + 7

abbrev pub decreases-write_catch : goal.decreases-write_catch
decreases-write_catch l = 16 * (max (goal.size-write_catch l) (size-Block l.b.now)) + 7

abbrev pub decreases-write_both : goal.decreases-write_both
decreases-write_both l = 16 * (max (goal.size-write_both l) (size-Block l.b.now)) + 7

abbrev pub decreases-write_both_in_threads : goal.decreases-write_both_in_threads
decreases-write_both_in_threads l = 16 * (max (goal.size-write_both_in_threads l) (size-Block l.b.now)) + 8

abbrev pub decreases-write_guard : goal.decreases-write_guard
decreases-write_guard l = 16 * (max (goal.size-write_guard l) (size-Block l.b.now)) + 9

abbrev pub decreases-write_bracket : goal.decreases-write_bracket
decreases-write_bracket l = 16 * (max (max (goal.size-write_bracket l) (size-Block l.b.now)) (size-Block l.d.now)) + 7

abbrev pub decreases-write_with_async : goal.decreases-write_with_async
decreases-write_with_async l = 16 * (max (goal.size-write_with_async l) (size-Block l.b.now)) + 8

abbrev pub decreases-write_maybe_arms : goal.decreases-write_maybe_arms
decreases-write_maybe_arms l = 16 * (max (goal.size-write_maybe_arms l) (size-Block l.b.now)) + 7

abbrev pub decreases-write_either_arms : goal.decreases-write_either_arms
decreases-write_either_arms l = 16 * (max (goal.size-write_either_arms l) (size-Block l.b.now)) + 7

abbrev pub decreases-write_list_arms : goal.decreases-write_list_arms
decreases-write_list_arms l = 16 * (max (goal.size-write_list_arms l) (size-Block l.b.now)) + 7

abbrev pub decreases-write_pair_arm : goal.decreases-write_pair_arm
decreases-write_pair_arm l = 16 * goal.size-write_pair_arm l + 7

abbrev pub decreases-write_arms : goal.decreases-write_arms
decreases-write_arms l = 16 * goal.size-write_arms l + 8

abbrev pub decreases-write_case : goal.decreases-write_case
decreases-write_case l = 16 * goal.size-write_case l + 9

-- what is written, and the lines of what is left, are the whole
abbrev pub invariant-write_lines-stmts : goal.invariant-write_lines-stmts
invariant-write_lines-stmts l = string_bytes l.text ++ lines (rest_of (drop l.stmt-index l.block.stmts) l.block.last) ≡ string_bytes l.fn.text ++ lines (rest_of l.block.stmts l.block.last)
