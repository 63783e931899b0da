use Rattle.std.proofs.Common.{refl, ap, ◌∙◌, sym}
use Rattle.rules_expansion.specs.trees.Programs.{act_of}
use Rattle.rules_expansion.proofs.trees_lemmas.EquationsOfActions.{act-Bare, act-NewEmptyMVar, act-ThrowIo, act-Call, act-Unary, act-Binary, act-Scoped, act-Masking, act-Restore, act-If, act-Case, act-ModifyMVar, act-Catch, act-Guard, act-Bracket, act-Timeout, act-WithAsync}
use Rattle.rules_typing.specs.TypingSizes as rule
use Rattle.typing_parts.specs.Views.{sigs_of}
use Rattle.typing_extents.proofs.Steps.{at, act_at, ex_at, bl_at, under_bl_at, act_arms_at, empty, worse_two, tail0}
use Rattle.typing_extents.proofs.meter.Meter.+worst.Goals as goal

pub action-returns-in-Bare : goal.action-returns-in-Bare
action-returns-in-Bare t c =
    let gs = sigs_of c.args.funs.now.types.nodes c.args.funs.now.sigs in
    let o = c.args.self.now in
    let v = c.in-Bare in
    empty o c.nothing.result _ (ap (λ z. at (act_at gs z) o) (ap act_of v.is ∙ act-Bare _ _)) c.nothing.ensures

pub action-returns-in-NewEmptyMVar : goal.action-returns-in-NewEmptyMVar
action-returns-in-NewEmptyMVar t c =
    let gs = sigs_of c.args.funs.now.types.nodes c.args.funs.now.sigs in
    let o = c.args.self.now in
    let v = c.in-NewEmptyMVar in
    empty o c.nothing-in-NewEmptyMVar.result _ (ap (λ z. at (act_at gs z) o) (ap act_of v.is ∙ act-NewEmptyMVar _ _)) c.nothing-in-NewEmptyMVar.ensures

pub action-returns-in-Unary : goal.action-returns-in-Unary
action-returns-in-Unary t c =
    let gs = sigs_of c.args.funs.now.types.nodes c.args.funs.now.sigs in
    let o = c.args.self.now in
    let v = c.in-Unary in
    tail0 _ _ _ _ _ (ap (λ z. at (act_at gs z) o) (ap act_of v.is ∙ act-Unary _ _ v.e)) c.extent.ensures

pub action-returns-in-ThrowIo : goal.action-returns-in-ThrowIo
action-returns-in-ThrowIo t c =
    let gs = sigs_of c.args.funs.now.types.nodes c.args.funs.now.sigs in
    let o = c.args.self.now in
    let v = c.in-ThrowIo in
    tail0 _ _ _ _ _ (ap (λ z. at (act_at gs z) o) (ap act_of v.is ∙ act-ThrowIo _ _ v.e)) c.extent-in-ThrowIo.ensures

pub action-returns-in-Binary : goal.action-returns-in-Binary
action-returns-in-Binary t c =
    let gs = sigs_of c.args.funs.now.types.nodes c.args.funs.now.sigs in
    let o = c.args.self.now in
    let v = c.in-Binary in
    tail0 _ _ _ _ _ (ap (λ z. at (act_at gs z) o) (ap act_of v.is ∙ act-Binary _ _ v.e v.f)) c.both.ensures

pub action-returns-in-Call : goal.action-returns-in-Call
action-returns-in-Call t c =
    let gs = sigs_of c.args.funs.now.types.nodes c.args.funs.now.sigs in
    let o = c.args.self.now in
    let v = c.in-Call in
    tail0 _ _ _ _ _ (ap (λ z. at (act_at gs z) o) (ap act_of v.is ∙ act-Call _ v.es)) c.each.ensures

pub action-returns-in-Scoped : goal.action-returns-in-Scoped
action-returns-in-Scoped t c =
    let gs = sigs_of c.args.funs.now.types.nodes c.args.funs.now.sigs in
    let o = c.args.self.now in
    let v = c.in-Scoped in
    tail0 _ _ _ _ _ (ap (λ z. at (act_at gs z) o) (ap act_of v.is ∙ act-Scoped _ _ v.b)) c.block-in-Scoped.ensures

pub action-returns-in-Restore : goal.action-returns-in-Restore
action-returns-in-Restore t c =
    let gs = sigs_of c.args.funs.now.types.nodes c.args.funs.now.sigs in
    let o = c.args.self.now in
    let v = c.in-Restore in
    tail0 _ _ _ _ _ (ap (λ z. at (act_at gs z) o) (ap act_of v.is ∙ act-Restore _ _ v.b)) c.block-in-Restore.ensures

pub action-returns-in-Masking : goal.action-returns-in-Masking
action-returns-in-Masking t c =
    let gs = sigs_of c.args.funs.now.types.nodes c.args.funs.now.sigs in
    let o = c.args.self.now in
    let v = c.in-Masking in
    tail0 _ _ _ _ _ (ap (λ z. at (act_at gs z) o) (ap act_of v.is ∙ act-Masking _ _ v.v v.b)) c.under_block-in-Masking.ensures

pub action-returns-in_ok-y-in-Case : goal.action-returns-in_ok-y-in-Case
action-returns-in_ok-y-in-Case t c =
    let gs = sigs_of c.args.funs.now.types.nodes c.args.funs.now.sigs in
    let o = c.args.self.now in
    let v = c.in-Case in
    worse_two o c.extent-in-Case.new.self c.act_arms.new.self c.in_ok-x-in-Case.x c.in_ok-y-in-Case.y c.worse-in-Case.result (at (ex_at gs v.e) o) _ (act_arms_at gs c.get.result.now)
    (ap (λ z. at (act_at gs z) o) (ap act_of v.is ∙ act-Case _ v.e v.arms) ∙ ap (λ z. rule.worse (at (ex_at gs v.e) o) (at (act_arms_at gs z) o)) (sym c.get.ensures)) c.in_ok-x-in-Case.ensures c.in_ok-y-in-Case.ensures c.worse-in-Case.ensures

pub action-returns-in_ok-y-in-ModifyMVar : goal.action-returns-in_ok-y-in-ModifyMVar
action-returns-in_ok-y-in-ModifyMVar t c =
    let gs = sigs_of c.args.funs.now.types.nodes c.args.funs.now.sigs in
    let o = c.args.self.now in
    let v = c.in-ModifyMVar in
    worse_two o c.extent-in-ModifyMVar.new.self c.under_block.new.self c.in_ok-x-in-ModifyMVar.x c.in_ok-y-in-ModifyMVar.y c.worse-in-ModifyMVar.result (at (ex_at gs v.e) o) _ (under_bl_at gs v.v v.b)
    (ap (λ z. at (act_at gs z) o) (ap act_of v.is ∙ act-ModifyMVar _ v.e v.v v.b)) c.in_ok-x-in-ModifyMVar.ensures c.in_ok-y-in-ModifyMVar.ensures c.worse-in-ModifyMVar.ensures

pub action-returns-in_ok-y-in-Catch : goal.action-returns-in_ok-y-in-Catch
action-returns-in_ok-y-in-Catch t c =
    let gs = sigs_of c.args.funs.now.types.nodes c.args.funs.now.sigs in
    let o = c.args.self.now in
    let v = c.in-Catch in
    worse_two o c.block-in-Catch.new.self c.under_block-in-Catch.new.self c.in_ok-x-in-Catch.x c.in_ok-y-in-Catch.y c.worse-in-Catch.result (at (bl_at gs v.b) o) _ (under_bl_at gs v.v v.d)
    (ap (λ z. at (act_at gs z) o) (ap act_of v.is ∙ act-Catch _ v.b v.v v.d)) c.in_ok-x-in-Catch.ensures c.in_ok-y-in-Catch.ensures c.worse-in-Catch.ensures

pub action-returns-in_ok-y-in-Guard : goal.action-returns-in_ok-y-in-Guard
action-returns-in_ok-y-in-Guard t c =
    let gs = sigs_of c.args.funs.now.types.nodes c.args.funs.now.sigs in
    let o = c.args.self.now in
    let v = c.in-Guard in
    worse_two o c.block-in-Guard.new.self c.block-in-Guard-2.new.self c.in_ok-x-in-Guard.x c.in_ok-y-in-Guard.y c.worse-in-Guard.result (at (bl_at gs v.b) o) _ (bl_at gs v.d)
    (ap (λ z. at (act_at gs z) o) (ap act_of v.is ∙ act-Guard _ _ v.b v.d)) c.in_ok-x-in-Guard.ensures c.in_ok-y-in-Guard.ensures c.worse-in-Guard.ensures

pub action-returns-in_ok-y-in-Timeout : goal.action-returns-in_ok-y-in-Timeout
action-returns-in_ok-y-in-Timeout t c =
    let gs = sigs_of c.args.funs.now.types.nodes c.args.funs.now.sigs in
    let o = c.args.self.now in
    let v = c.in-Timeout in
    worse_two o c.extent-in-Timeout.new.self c.block-in-Timeout.new.self c.in_ok-x-in-Timeout.x c.in_ok-y-in-Timeout.y c.worse-in-Timeout.result (at (ex_at gs v.e) o) _ (bl_at gs v.b)
    (ap (λ z. at (act_at gs z) o) (ap act_of v.is ∙ act-Timeout _ v.e v.b)) c.in_ok-x-in-Timeout.ensures c.in_ok-y-in-Timeout.ensures c.worse-in-Timeout.ensures

pub action-returns-in_ok-y-in-WithAsync : goal.action-returns-in_ok-y-in-WithAsync
action-returns-in_ok-y-in-WithAsync t c =
    let gs = sigs_of c.args.funs.now.types.nodes c.args.funs.now.sigs in
    let o = c.args.self.now in
    let v = c.in-WithAsync in
    worse_two o c.block-in-WithAsync.new.self c.under_block-in-WithAsync.new.self c.in_ok-x-in-WithAsync.x c.in_ok-y-in-WithAsync.y c.worse-in-WithAsync.result (at (bl_at gs v.b) o) _ (under_bl_at gs v.v v.d)
    (ap (λ z. at (act_at gs z) o) (ap act_of v.is ∙ act-WithAsync _ v.b v.v v.d)) c.in_ok-x-in-WithAsync.ensures c.in_ok-y-in-WithAsync.ensures c.worse-in-WithAsync.ensures

pub action-returns-in_ok-z-in-If : goal.action-returns-in_ok-z-in-If
action-returns-in_ok-z-in-If t c =
    let gs = sigs_of c.args.funs.now.types.nodes c.args.funs.now.sigs in
    let o = c.args.self.now in
    let v = c.in-If in
    worse_two o c.block.new.self c.block-in-If.new.self c.worse.result c.in_ok-z-in-If.z c.worse-in-If.result (rule.worse (at (ex_at gs v.e) o) (at (bl_at gs v.b) o)) _ (bl_at gs v.d)
    (ap (λ z. at (act_at gs z) o) (ap act_of v.is ∙ act-If _ v.e v.b v.d))
    (worse_two o c.extent-in-If.new.self c.block.new.self c.in_ok-x-in-If.x c.in_ok-y-in-If.y c.worse.result (at (ex_at gs v.e) o) _ (bl_at gs v.b) refl c.in_ok-x-in-If.ensures c.in_ok-y-in-If.ensures c.worse.ensures)
    c.in_ok-z-in-If.ensures c.worse-in-If.ensures

pub action-returns-in_ok-z-in-Bracket : goal.action-returns-in_ok-z-in-Bracket
action-returns-in_ok-z-in-Bracket t c =
    let gs = sigs_of c.args.funs.now.types.nodes c.args.funs.now.sigs in
    let o = c.args.self.now in
    let v = c.in-Bracket in
    worse_two o c.under_block-in-Bracket.new.self c.under_block-in-Bracket-2.new.self c.worse-in-Bracket.result c.in_ok-z-in-Bracket.z c.worse-in-Bracket-2.result (rule.worse (at (bl_at gs v.b) o) (at (under_bl_at gs v.v v.d) o)) _ (under_bl_at gs v.v v.h)
    (ap (λ z. at (act_at gs z) o) (ap act_of v.is ∙ act-Bracket _ v.b v.v v.d v.h))
    (worse_two o c.block-in-Bracket.new.self c.under_block-in-Bracket.new.self c.in_ok-x-in-Bracket.x c.in_ok-y-in-Bracket.y c.worse-in-Bracket.result (at (bl_at gs v.b) o) _ (under_bl_at gs v.v v.d) refl c.in_ok-x-in-Bracket.ensures c.in_ok-y-in-Bracket.ensures c.worse-in-Bracket.ensures)
    c.in_ok-z-in-Bracket.ensures c.worse-in-Bracket-2.ensures
