use Rattle.std.proofs.Common.{Some, None, refl, ap, sym, ◌∙◌, ◌∷◌, length, get_or, arith}
use Rattle.rules_code.specs.declared.act.Act.TheVariants as k
use Rattle.rules_expansion.specs.trees.Trees.{ex_of}
use Rattle.rules_expansion.specs.Names.{Written}
use Rattle.rules_expansion.specs.Core.{OfScript}
use Rattle.rules_expansion.specs.Expansion.{on_two, derived, unary_row_core, core, block_core, masking_core}
use Rattle.rules_expansion.specs.trees.Programs.{choose_act, case_act, catch, bind, let_in, then, maybe_acts, either_acts, list_acts, pair_acts, act_of, bl_of, stmt_of, act_arms_of}
use Rattle.rules_expansion.proofs.trees_lemmas.EquationsOfActions.{act-Unary, act-Guard, act-If, act-Case, act-Catch, stmt-Bind, stmt-Let, stmt-Do, acts-OfMaybe, acts-OfEither, acts-OfList, acts-OfPair}
use Rattle.rules_code.specs.Slots.{slot_of, slotted}
use Rattle.rules_code.specs.CodeTrees.{a_if, a_maybe, a_either, a_list, a_pair, a_fork, a_fork_unmask, a_catch, a_mask, a_mask_hard, a_restore, slot_or_end}
use Rattle.hs_nodes.specs.declared.names.ScopedName.TheVariants as w
use Rattle.hs_core.specs.Defining.{roots}
use Rattle.hs_core.specs.Opening.{core_tree, block_tree, arms_tree}
use Rattle.hs_core.proofs.Afterwards.{held_branch, all_as_core, all_as_action, act_then, ex_act_then}
use Rattle.hs_core.proofs.Steps.{one, first, under, after1}
use Rattle.hs_core.proofs.Openings.{opens_first, opens_step, opens_bind, opens_let, opens_then, block_is, after_known, as_core, as_action, as_case, arms_two, arms_one, as_arms}
use Rattle.std.specs.Option.{option_copied}
use Rattle.rules_expansion.specs.declared.template.FormBlock.TheVariants as part
use Rattle.rules_expansion.specs.declared.template.Step.TheVariants as p
use Rattle.rules_expansion.specs.Templates.{steps}
use Rattle.hs_core.specs.Making.{filling_of}
use Rattle.hs_core.proofs.Waits.{gone_none, gone_at, gone_as, gone_all, moves_block, as_moves, drop_past}
use Rattle.hs_core.proofs.emitter.ActEmitter.+expand.Goals.{derived-in-Hole+in_ok-i-in-Hole+in_ok-add-in-Hole, derived-in_default+in_ok-step-in_default}
use Rattle.hs_core.proofs.emitter.ActEmitter.+expand.Goals as goal

pub named-returns : goal.named-returns
named-returns t c =
    under c.args.self.now c.block.new.self (w.Written c.args.x.now) c.in_ok-bind.ensures c.in_ok-id.ensures c.off.ensures

pub named_two-returns : goal.named_two-returns
named_two-returns t c =
    under c.args.self.now c.named.new.self (w.Written c.args.x.now) c.in_ok-bind.ensures c.in_ok-id.ensures c.off.ensures

pub masking-returns-in_ok-id-in-ForkIoWithUnmask : goal.masking-returns-in_ok-id-in-ForkIoWithUnmask
masking-returns-in_ok-id-in-ForkIoWithUnmask t c =
    as_core c.args.defs.now (ap (λ z. masking_core z (Written c.args.x.now) (block_core (bl_of c.args.b.now))) c.in-ForkIoWithUnmask.is) (one k.ForkUnmask a_fork_unmask (λ ts us x. refl) c.in_ok-i.ensures (λ k. k) c.in_ok-id-in-ForkIoWithUnmask.ensures)

pub masking-returns-in_ok-id-in-Mask : goal.masking-returns-in_ok-id-in-Mask
masking-returns-in_ok-id-in-Mask t c =
    as_core c.args.defs.now (ap (λ z. masking_core z (Written c.args.x.now) (block_core (bl_of c.args.b.now))) c.in-Mask.is) (one k.Mask a_mask (λ ts us x. refl) c.in_ok-i.ensures (λ k. k) c.in_ok-id-in-Mask.ensures)

pub masking-returns-in_ok-id-in-UninterruptibleMask : goal.masking-returns-in_ok-id-in-UninterruptibleMask
masking-returns-in_ok-id-in-UninterruptibleMask t c =
    as_core c.args.defs.now (ap (λ z. masking_core z (Written c.args.x.now) (block_core (bl_of c.args.b.now))) c.in-UninterruptibleMask.is) (one k.UninterruptibleMask a_mask_hard (λ ts us x. refl) c.in_ok-i.ensures (λ k. k) c.in_ok-id-in-UninterruptibleMask.ensures)

pub fork_form-returns : goal.fork_form-returns
fork_form-returns t c =
    one k.Fork a_fork (λ ts us x. refl) c.in_ok-i.ensures (λ k. k) c.in_ok-id.ensures

pub restore_form-returns : goal.restore_form-returns
restore_form-returns t c =
    after1 (λ s u. a_restore (slot_or_end (slot_of s (Written c.args.x.now)) s) u) c.in_ok-i.ensures (λ k. k) c.in_ok-id.ensures

pub block-returns : goal.block-returns
block-returns t c =
    block_is c.args.defs.now c.args.b.now c.get-end.result.now c.len-count.result c.in_ok-pending.pending c.get-end.ensures c.in_ok-pending.ensures c.in_ok-last.ensures c.len-count.ensures c.back_to.ensures c.in_ok-id.ensures

pub stmts-each-init : goal.stmts-each-init
stmts-each-init t c =
    opens_first c.args.defs.now c.new-pending.ensures

pub stmts-each-preserved : goal.stmts-each-preserved
stmts-each-preserved t c =
    opens_step c.args.defs.now c.each.pending c.args.stmts.now c.each.stmt-index c.stmt-item.result c.each.invariant c.in_ok-one.ensures (c.stmt-item.is ∙ ap (λ l. get_or l c.each.stmt-index c.stmt-item.result) c.as_slice-stmt-items.ensures) (let l = ap length c.as_slice-stmt-items.ensures in omega (arith, l)) c.in_ok-add.ensures.ok

pub stmt-returns-in_ok-bind-in-Bind : goal.stmt-returns-in_ok-bind-in-Bind
stmt-returns-in_ok-bind-in-Bind t c =
    opens_bind c.args.defs.now c.in-Bind.x.text (act_of c.in-Bind.a) c.args.stmt.now (bind c.in-Bind.x (act_of c.in-Bind.a)) c.in_ok-i-in-Bind.ensures c.in_ok-bind-in-Bind.ensures (ap stmt_of c.in-Bind.is ∙ stmt-Bind c.in-Bind.x c.in-Bind.a) (λ s y. refl)

pub stmt-returns-in_ok-bind-in-Let : goal.stmt-returns-in_ok-bind-in-Let
stmt-returns-in_ok-bind-in-Let t c =
    opens_let c.args.defs.now c.in-Let.x.text (ex_of c.in-Let.e) c.args.stmt.now (let_in c.in-Let.x (ex_of c.in-Let.e)) c.in_ok-i-in-Let.ensures c.in_ok-bind-in-Let.ensures (ap stmt_of c.in-Let.is ∙ stmt-Let c.in-Let.x c.in-Let.e) (λ s y. refl)

pub stmt-returns-in_ok-i-in-Do : goal.stmt-returns-in_ok-i-in-Do
stmt-returns-in_ok-i-in-Do t c =
    opens_then c.args.defs.now (act_of c.in-Do.a) c.args.stmt.now (then (act_of c.in-Do.a)) c.in_ok-i-in-Do.ensures (ap stmt_of c.in-Do.is ∙ stmt-Do c.in-Do.a) (λ s y. refl)

pub arms-returns-in_ok-id-in-OfMaybe : goal.arms-returns-in_ok-id-in-OfMaybe
arms-returns-in_ok-id-in-OfMaybe t c =
    λ u. as_arms c.args.defs.now u (maybe_acts (bl_of c.in-OfMaybe.a) c.in-OfMaybe.x (bl_of c.in-OfMaybe.b)) (act_arms_of c.args.arms.now) (ap act_arms_of c.in-OfMaybe.is ∙ acts-OfMaybe c.in-OfMaybe.a c.in-OfMaybe.x c.in-OfMaybe.b) (arms_two c.args.defs.now k.CaseMaybe a_maybe (λ ts us x y z. refl) c.in_ok-i-in-OfMaybe.ensures c.in_ok-j-in-OfMaybe.ensures c.in_ok-id-in-OfMaybe.ensures)

pub arms-returns-in_ok-id-in-OfEither : goal.arms-returns-in_ok-id-in-OfEither
arms-returns-in_ok-id-in-OfEither t c =
    λ u. as_arms c.args.defs.now u (either_acts c.in-OfEither.x (bl_of c.in-OfEither.a) c.in-OfEither.y (bl_of c.in-OfEither.b)) (act_arms_of c.args.arms.now) (ap act_arms_of c.in-OfEither.is ∙ acts-OfEither c.in-OfEither.x c.in-OfEither.a c.in-OfEither.y c.in-OfEither.b) (arms_two c.args.defs.now k.CaseEither a_either (λ ts us x y z. refl) c.in_ok-i-in-OfEither.ensures c.in_ok-j-in-OfEither.ensures c.in_ok-id-in-OfEither.ensures)

pub arms-returns-in_ok-id-in-OfList : goal.arms-returns-in_ok-id-in-OfList
arms-returns-in_ok-id-in-OfList t c =
    λ u. as_arms c.args.defs.now u (list_acts (bl_of c.in-OfList.a) c.in-OfList.x c.in-OfList.y (bl_of c.in-OfList.b)) (act_arms_of c.args.arms.now) (ap act_arms_of c.in-OfList.is ∙ acts-OfList c.in-OfList.a c.in-OfList.x c.in-OfList.y c.in-OfList.b) (arms_two c.args.defs.now k.CaseList a_list (λ ts us x y z. refl) c.in_ok-i-in-OfList.ensures c.in_ok-j-in-OfList.ensures c.in_ok-id-in-OfList.ensures)

pub arms-returns-in_ok-id-in-OfPair : goal.arms-returns-in_ok-id-in-OfPair
arms-returns-in_ok-id-in-OfPair t c =
    λ u. as_arms c.args.defs.now u (pair_acts c.in-OfPair.x c.in-OfPair.y (bl_of c.in-OfPair.a)) (act_arms_of c.args.arms.now) (ap act_arms_of c.in-OfPair.is ∙ acts-OfPair c.in-OfPair.x c.in-OfPair.y c.in-OfPair.a) (arms_one c.args.defs.now k.CasePair a_pair (λ ts us x y. refl) c.in_ok-i-in-OfPair.ensures c.in_ok-id-in-OfPair.ensures)

pub action-returns-in_ok-i-in-If : goal.action-returns-in_ok-i-in-If
action-returns-in_ok-i-in-If t c =
    all_as_action c.if_form.result c.args.self.now c.if_form.new.self c.args.defs.now (choose_act c.in-If.field-0 (ex_of c.in-If.e) (bl_of c.in-If.b) (bl_of c.in-If.d)) (act_of c.args.a.now) (ap act_of c.in-If.is ∙ act-If c.in-If.field-0 c.in-If.e c.in-If.b c.in-If.d)
    (ex_act_then c.if_form.result c.args.self.now c.if_form.new.self (λ s. slotted (roots c.args.defs.now) s (ex_of c.in-If.e)) (λ s. block_tree c.args.defs.now s (bl_of c.in-If.b)) c.args.defs.now (λ s u v. a_if u v (block_tree c.args.defs.now s (bl_of c.in-If.d))) c.in_ok-t-in-If.ensures c.in_ok-i-in-If.ensures c.if_form.ensures)

pub action-returns-in_ok-id-in-Case : goal.action-returns-in_ok-id-in-Case
action-returns-in_ok-id-in-Case t c =
    as_action c.args.defs.now (case_act c.in-Case.field-0 (ex_of c.in-Case.e) (act_arms_of c.get-two.result.now)) (act_of c.args.a.now) (ap act_of c.in-Case.is ∙ (act-Case c.in-Case.field-0 c.in-Case.e c.in-Case.arms ∙ ap (λ y. case_act c.in-Case.field-0 (ex_of c.in-Case.e) (act_arms_of y)) (sym c.get-two.ensures)))
    (as_case c.args.defs.now c.in-Case.field-0 (ex_of c.in-Case.e) (act_arms_of c.get-two.result.now) (after_known c.args.defs.now (λ s u. arms_tree c.args.defs.now s u (act_arms_of c.get-two.result.now)) c.in_ok-t-in-Case.ensures c.in_ok-id-in-Case.ensures))

pub action-returns-in-Derived : goal.action-returns-in-Derived
action-returns-in-Derived t c =
    let q = ap act_of c.in-Unary.is ∙ act-Unary c.in-Unary.word c.in-Unary.field-1 c.in-Unary.e in
    let f = c.in-Derived.form in
    let u = act_of c.args.a.now in
    all_as_core c.derived.result c.args.self.now c.derived.new.self c.args.defs.now (derived f (filling_of (option_copied c.parts.result.subject) (option_copied c.parts.result.name) u)) (core u)
    (ap core q ∙ (ap (λ z. unary_row_core z (OfScript (ex_of c.in-Unary.e))) (sym c.unary_row.ensures ∙ c.in-Derived.is) ∙ (ap (λ z. derived f (filling_of (Some c.in-Unary.e) None z)) (sym q)
    ∙ (ap (λ z. derived f (filling_of z None u)) (sym c.parts.ensures.subject) ∙ ap (λ z. derived f (filling_of (option_copied c.parts.result.subject) z u)) (sym c.parts.ensures.name)))))
    c.derived.ensures

pub action-returns-in-Guard : goal.action-returns-in-Guard
action-returns-in-Guard t c =
    let q = ap act_of c.in-Guard.is ∙ act-Guard c.in-Guard.word c.in-Guard.field-1 c.in-Guard.field-2 c.in-Guard.field-3 in
    let f = c.guard_row.result in
    let u = act_of c.args.a.now in
    let p = c.parts-in-Guard.result in
    all_as_core c.derived-in-Guard.result c.args.self.now _ c.args.defs.now (derived f (filling_of (option_copied p.subject) (option_copied p.name) u)) (core u)
    (ap core q ∙ (ap (λ z. derived z (on_two (block_core (bl_of c.in-Guard.field-2)) (block_core (bl_of c.in-Guard.field-3)))) (sym c.guard_row.ensures) ∙ (ap (λ z. derived f (filling_of None None z)) (sym q)
    ∙ (ap (λ z. derived f (filling_of z None u)) (sym c.parts-in-Guard.ensures.subject) ∙ ap (λ z. derived f (filling_of (option_copied p.subject) z u)) (sym c.parts-in-Guard.ensures.name)))))
    c.derived-in-Guard.ensures

pub action-returns-in_ok-i-in-Catch : goal.action-returns-in_ok-i-in-Catch
action-returns-in_ok-i-in-Catch t c =
    all_as_action c.catch_form.result c.args.self.now c.catch_form.new.self c.args.defs.now (catch c.in-Catch.field-0 (bl_of c.in-Catch.b) c.in-Catch.x (bl_of c.in-Catch.d)) (act_of c.args.a.now) (ap act_of c.in-Catch.is ∙ act-Catch c.in-Catch.field-0 c.in-Catch.b c.in-Catch.x c.in-Catch.d)
    (act_then c.catch_form.result c.args.self.now c.catch_form.new.self (λ s. block_tree c.args.defs.now s (bl_of c.in-Catch.b)) c.args.defs.now (λ s u. a_catch u (block_tree c.args.defs.now (Written c.in-Catch.x.text ∷ s) (bl_of c.in-Catch.d))) c.in_ok-i-in-Catch.ensures c.catch_form.ensures)

pub if_form-returns : goal.if_form-returns
if_form-returns t c =
    λ u A. held_branch c.args.defs.now u A k.If a_if (λ ts us x y z. refl) c.in_ok-j.ensures c.in_ok-id.ensures

pub catch_form-returns : goal.catch_form-returns
catch_form-returns t c =
    λ A. first k.Catch a_catch (λ ts us x y. refl) (λ k. k.1) c.in_ok-j.ensures (λ k. k.0) c.in_ok-id.ensures

pub derived-steps-init : goal.derived-steps-init
derived-steps-init t c =
    gone_none c.args.defs.now (filling_of (option_copied c.args.parts.subject) (option_copied c.args.parts.name) (act_of c.args.a.now)) c.args.form c.len.ensures c.new.ensures c.new-2.ensures refl

pub derived-steps-preserved : goal.derived-steps-preserved
derived-steps-preserved t c =
    let d = c.args.defs.now in
    let f = filling_of (option_copied c.args.parts.subject) (option_copied c.args.parts.name) (act_of c.args.a.now) in
    let all = c.steps-step-items.result.now in
    let x = get_or all c.steps.step-index (p.Hole part.First) in
    elim c.match-step.branch [
      | derived-in-Hole+in_ok-i-in-Hole+in_ok-add-in-Hole w ↦
          gone_as w.self-is w.making-is (gone_at d f c.args.form all c.steps.step-index (p.Hole part.First) c.steps-step-items.ensures c.steps-test.true c.steps.invariant
          (as_moves d f x (p.Hole w.in-Hole.part) w.in-Hole.is (moves_block d (λ s. core_tree d s (f.block w.in-Hole.part)) w.in_ok-i-in-Hole.ensures w.in_ok-add-in-Hole.ensures.ok)))
      | derived-in_default+in_ok-step-in_default w ↦
          gone_as w.self-is w.making-is (gone_at d f c.args.form all c.steps.step-index (p.Hole part.First) c.steps-step-items.ensures c.steps-test.true c.steps.invariant
          (w.in_ok-step-in_default.ensures f refl (sym c.in_ok-given.ensures) w.in_default.not-Hole))
    ]

pub derived-returns : goal.derived-returns
derived-returns t c =
    gone_all c.args.defs.now (filling_of (option_copied c.args.parts.subject) (option_copied c.args.parts.name) (act_of c.args.a.now)) c.args.form (drop_past (steps c.args.form) c.steps.step-index (let l = ap length c.steps-step-items.ensures in let e = c.steps-test.false in omega (arith, l, e))) c.steps.invariant c.act_off-id.ensures
