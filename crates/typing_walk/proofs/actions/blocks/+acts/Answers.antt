use Rattle.std.proofs.Common.{[], ◌∷◌, ap, ◌∙◌, sym}
use Rattle.hs_base.specs.declared.tree.action.BlockArms.{BlockArms}
use Rattle.rules_expansion.specs.trees.Trees.{ex_of}
use Rattle.rules_expansion.specs.trees.Programs.{case_act, act_of, act_arms_of, bl_of, stmt_of}
use Rattle.rules_typing.specs.Typing.{a_cell, bound, inner_of, of}
use Rattle.rules_typing.specs.TypingActions.{form_of_acts, row_async, row_bracket, row_modify, row_timeout}
use Rattle.rules_expansion.proofs.trees_lemmas.EquationsOfActions.{act-NewEmptyMVar, act-ThrowIo, act-Call, act-Unary, act-Binary, act-Scoped, act-Masking, act-Restore, act-Case, act-ModifyMVar, act-Bracket, act-Timeout, act-WithAsync, stmt-Bind, stmt-Let}
use Rattle.typing_judge.specs.Judging.{judge, needing, own, part, parts2, unless_full}
use Rattle.typing_judge.specs.JudgingActions.{judge_act, judge_act_arms, judge_bl}
use Rattle.typing_parts.specs.Contexts.{ctx_of}
use Rattle.typing_parts.specs.Views.{opt_ty}
use Rattle.typing_parts.specs.Judged.{names}
use Rattle.typing_walk.proofs.actions_lemmas.Acted.{stated}
use Rattle.typing_walk.proofs.actions_lemmas.Following.{tail0, tail1, tail2}
use Rattle.typing_walk.proofs.actions.blocks.+acts.Goals as goal

pub action-returns-in-NewEmptyMVar : goal.action-returns-in-NewEmptyMVar
action-returns-in-NewEmptyMVar t c = tail0 c.args.funs.now.types.nodes _ _ _ _ _ (ap (judge_act (ctx_of c.args.funs.now) (names c.args.funs.now.types.nodes c.args.checker.now)) (ap act_of c.in-NewEmptyMVar.is ∙ act-NewEmptyMVar c.in-NewEmptyMVar.p c.in-NewEmptyMVar.w)) c.empty_cell.ensures

pub action-returns-in-ThrowIo : goal.action-returns-in-ThrowIo
action-returns-in-ThrowIo t c = tail0 c.args.funs.now.types.nodes _ _ _ _ _ (ap (judge_act (ctx_of c.args.funs.now) (names c.args.funs.now.types.nodes c.args.checker.now)) (ap act_of c.in-ThrowIo.is ∙ act-ThrowIo c.in-ThrowIo.p c.in-ThrowIo.w c.in-ThrowIo.e)) c.throw.ensures

pub action-returns-in-Call : goal.action-returns-in-Call
action-returns-in-Call t c = tail0 c.args.funs.now.types.nodes _ _ _ _ _ (ap (judge_act (ctx_of c.args.funs.now) (names c.args.funs.now.types.nodes c.args.checker.now)) (ap act_of c.in-Call.is ∙ act-Call c.in-Call.x c.in-Call.es)) c.applied.ensures

pub action-returns-in-Unary : goal.action-returns-in-Unary
action-returns-in-Unary t c = tail0 c.args.funs.now.types.nodes _ _ _ _ _ (ap (judge_act (ctx_of c.args.funs.now) (names c.args.funs.now.types.nodes c.args.checker.now)) (ap act_of c.in-Unary.is ∙ act-Unary c.in-Unary.w c.in-Unary.p c.in-Unary.e)) c.unary.ensures

pub action-returns-in-Binary : goal.action-returns-in-Binary
action-returns-in-Binary t c = tail0 c.args.funs.now.types.nodes _ _ _ _ _ (ap (judge_act (ctx_of c.args.funs.now) (names c.args.funs.now.types.nodes c.args.checker.now)) (ap act_of c.in-Binary.is ∙ act-Binary c.in-Binary.w c.in-Binary.p c.in-Binary.d c.in-Binary.e)) c.binary.ensures

pub action-returns-in-Scoped : goal.action-returns-in-Scoped
action-returns-in-Scoped t c = tail0 c.args.funs.now.types.nodes _ _ _ _ _ (ap (judge_act (ctx_of c.args.funs.now) (names c.args.funs.now.types.nodes c.args.checker.now)) (ap act_of c.in-Scoped.is ∙ act-Scoped c.in-Scoped.w c.in-Scoped.p c.in-Scoped.b)) c.in_block.ensures

pub action-returns-in-Masking : goal.action-returns-in-Masking
action-returns-in-Masking t c = tail0 c.args.funs.now.types.nodes _ _ _ _ _ (ap (judge_act (ctx_of c.args.funs.now) (names c.args.funs.now.types.nodes c.args.checker.now)) (ap act_of c.in-Masking.is ∙ act-Masking c.in-Masking.w c.in-Masking.p c.in-Masking.x c.in-Masking.b)) c.in_masking.ensures

pub action-returns-in-Restore : goal.action-returns-in-Restore
action-returns-in-Restore t c = tail0 c.args.funs.now.types.nodes _ _ _ _ _ (ap (judge_act (ctx_of c.args.funs.now) (names c.args.funs.now.types.nodes c.args.checker.now)) (ap act_of c.in-Restore.is ∙ act-Restore _ c.in-Restore.x c.in-Restore.b)) c.restored.ensures

pub action-returns-in_ok-t-in-Case : goal.action-returns-in_ok-t-in-Case
action-returns-in_ok-t-in-Case t c =
    let k = ctx_of c.args.funs.now in let g : BlockArms = c.get.result.now in
    tail1 c.args.funs.now.types.nodes c.args.checker.now c.type_of-in-Case.new.checker _ _ _ _ _ (λ s u. needing c.in-Case.p (of (form_of_acts (act_arms_of g)) u ∷ []) (judge_act_arms k s c.in-Case.p u (act_arms_of g)))
    (ap (judge_act (ctx_of c.args.funs.now) (names c.args.funs.now.types.nodes c.args.checker.now)) (ap act_of c.in-Case.is ∙ (act-Case c.in-Case.p c.in-Case.e c.in-Case.arms ∙ ap (λ z. case_act c.in-Case.p (ex_of c.in-Case.e) (act_arms_of z)) (sym c.get.ensures))))
    c.in_ok-t-in-Case.ensures c.arms_at.ensures

pub action-returns-in_ok-t-in-ModifyMVar : goal.action-returns-in_ok-t-in-ModifyMVar
action-returns-in_ok-t-in-ModifyMVar t c =
    let k = ctx_of c.args.funs.now in
    tail1 c.args.funs.now.types.nodes c.args.checker.now c.type_of-in-ModifyMVar.new.checker _ _ _ _ _ (λ s u. needing c.in-ModifyMVar.p (of a_cell u ∷ []) (part (unless_full s c.in-ModifyMVar.x (judge_bl k (bound c.in-ModifyMVar.x (inner_of u) ∷ s) (bl_of c.in-ModifyMVar.b))) (λ v. own c.in-ModifyMVar.p (row_modify u v))))
    (ap (judge_act (ctx_of c.args.funs.now) (names c.args.funs.now.types.nodes c.args.checker.now)) (ap act_of c.in-ModifyMVar.is ∙ act-ModifyMVar c.in-ModifyMVar.p c.in-ModifyMVar.e c.in-ModifyMVar.x c.in-ModifyMVar.b)) c.in_ok-t-in-ModifyMVar.ensures c.in_cell.ensures

pub action-returns-in_ok-t-in-Bracket : goal.action-returns-in_ok-t-in-Bracket
action-returns-in_ok-t-in-Bracket t c =
    let k = ctx_of c.args.funs.now in
    tail1 c.args.funs.now.types.nodes c.args.checker.now c.block-in-Bracket.new.checker _ _ _ _ _ (λ s u. unless_full s c.in-Bracket.x (parts2 (judge_bl k (bound c.in-Bracket.x u ∷ s) (bl_of c.in-Bracket.d)) (judge_bl k (bound c.in-Bracket.x u ∷ s) (bl_of c.in-Bracket.h)) (λ v w. own c.in-Bracket.p (row_bracket v w))))
    (ap (judge_act (ctx_of c.args.funs.now) (names c.args.funs.now.types.nodes c.args.checker.now)) (ap act_of c.in-Bracket.is ∙ act-Bracket c.in-Bracket.p c.in-Bracket.b c.in-Bracket.x c.in-Bracket.d c.in-Bracket.h)) c.in_ok-t-in-Bracket.ensures c.in_bracket.ensures

pub action-returns-in_ok-t-in-Timeout : goal.action-returns-in_ok-t-in-Timeout
action-returns-in_ok-t-in-Timeout t c =
    let k = ctx_of c.args.funs.now in
    tail2 c.args.funs.now.types.nodes c.args.checker.now c.type_of-in-Timeout.new.checker _ _ _ _ _ (λ s. judge_bl k s (bl_of c.in-Timeout.b)) (λ u v. own c.in-Timeout.p (row_timeout u v))
    (ap (judge_act (ctx_of c.args.funs.now) (names c.args.funs.now.types.nodes c.args.checker.now)) (ap act_of c.in-Timeout.is ∙ act-Timeout c.in-Timeout.p c.in-Timeout.e c.in-Timeout.b)) c.in_ok-t-in-Timeout.ensures c.second-in-Timeout.ensures

pub action-returns-in_ok-t-in-WithAsync : goal.action-returns-in_ok-t-in-WithAsync
action-returns-in_ok-t-in-WithAsync t c =
    let k = ctx_of c.args.funs.now in
    tail1 c.args.funs.now.types.nodes c.args.checker.now c.block-in-WithAsync.new.checker _ _ _ _ _ (λ s u. part (own c.in-WithAsync.p (row_async u)) (λ v. unless_full s c.in-WithAsync.x (judge_bl k (bound c.in-WithAsync.x v ∷ s) (bl_of c.in-WithAsync.d))))
    (ap (judge_act (ctx_of c.args.funs.now) (names c.args.funs.now.types.nodes c.args.checker.now)) (ap act_of c.in-WithAsync.is ∙ act-WithAsync c.in-WithAsync.p c.in-WithAsync.b c.in-WithAsync.x c.in-WithAsync.d)) c.in_ok-t-in-WithAsync.ensures c.in_scope.ensures

pub stmt-returns-in_ok-b-in-Bind : goal.stmt-returns-in_ok-b-in-Bind
stmt-returns-in_ok-b-in-Bind t c =
    let k = ctx_of c.args.funs.now in
    stated c.args.funs.now.types.nodes k c.args.checker.now c.check_room.new.self c.action-in-Bind.new.checker c.begin.new.self c.in_ok-b-in-Bind.b c.in-Bind.x (opt_ty c.args.funs.now.types.nodes c.in_ok-t-in-Bind.t) (λ s. judge_act k s (act_of c.in-Bind.a)) (stmt_of c.args.st.now)
    (λ rest. ap (λ z. judge_bl k (names c.args.funs.now.types.nodes c.args.checker.now) (z rest)) (ap stmt_of c.in-Bind.is ∙ stmt-Bind c.in-Bind.x c.in-Bind.a))
    c.check_room.ensures.0 c.check_room.ensures.1 c.in_ok-t-in-Bind.ensures c.in_ok-b-in-Bind.ensures

pub stmt-returns-in_ok-b-in-Let : goal.stmt-returns-in_ok-b-in-Let
stmt-returns-in_ok-b-in-Let t c =
    let k = ctx_of c.args.funs.now in
    stated c.args.funs.now.types.nodes k c.args.checker.now c.check_room-in-Let.new.self c.type_of.new.checker c.begin-in-Let.new.self c.in_ok-b-in-Let.b c.in-Let.x (opt_ty c.args.funs.now.types.nodes c.in_ok-t-in-Let.t) (λ s. judge k s (ex_of c.in-Let.e)) (stmt_of c.args.st.now)
    (λ rest. ap (λ z. judge_bl k (names c.args.funs.now.types.nodes c.args.checker.now) (z rest)) (ap stmt_of c.in-Let.is ∙ stmt-Let c.in-Let.x c.in-Let.e))
    c.check_room-in-Let.ensures.0 c.check_room-in-Let.ensures.1 c.in_ok-t-in-Let.ensures c.in_ok-b-in-Let.ensures
