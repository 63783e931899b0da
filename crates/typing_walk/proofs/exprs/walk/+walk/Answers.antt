use Rattle.std.proofs.Common.{◌+◌, length, drop, get_or, ap, ◌∙◌, sym, subst, arith, refl}
use Rattle.std.specs.Prelude.{IfOk}
use Rattle.rules_expansion.specs.trees.Trees.{ex_of, exs_of, links_of, sum_links_of, list_links_of, sum_form, cons_form}
use Rattle.rules_expansion.proofs.trees_lemmas.Equations.{ex-Call, ex-List}
use Rattle.typing_judge.specs.Judging.{judge, judges, judge_links, typed}
use Rattle.typing_parts.specs.Contexts.{ctx_of}
use Rattle.typing_parts.specs.Views.{opt_ty, opt_tys}
use Rattle.typing_parts.specs.Judged.{names, Judged}
use Rattle.typing_parts.proofs.Noted.{opt_tys-pushed}
use Rattle.typing_parts.proofs.Chains.{gathered-length, links-drop, sum_links-drop, list_links-drop}
use Rattle.typing_walk.proofs.exprs_lemmas.Steps.{link_step, operand_step, part_step}
use Rattle.typing_walk.proofs.exprs.walk.+walk.Goals as goal

pub conses-close_conses-requires : goal.conses-close_conses-requires
conses-close_conses-requires t c = gathered-length c.args.funs.now.types.nodes (ctx_of c.args.funs.now) (names c.args.funs.now.types.nodes c.args.checker.now) (opt_ty c.args.funs.now.types.nodes c.args.t) c.in_ok-ts.ts c.args.ks.now c.in_ok-ts.ensures.types

pub links-links-preserved : goal.links-links-preserved
links-links-preserved t c =
    let ms = c.args.funs.now.types.nodes in
    let f = ctx_of c.args.funs.now in
    let ks = c.args.ks.now in
    let k = c.k-item.result in
    let i = c.links.k-index in
    let d = links-drop c.args.o ks i k (omega (arith, ap length c.as_slice-k-items.ensures)) (c.k-item.is ∙ ap (λ z. get_or z i k) c.as_slice-k-items.ensures) in
    let w = link_step ms f c.args.checker.now c.links.checker c.second.new.checker c.args.o c.args.o k.pos (ex_of k.operand) (links_of c.args.o (drop i ks)) (links_of c.args.o (drop (i + 1) ks))
    (opt_ty ms c.links.t) (opt_ty ms c.in_ok-t.t) (judge_links f (names ms c.args.checker.now) (typed (opt_ty ms c.args.t)) (links_of c.args.o ks))
    c.links.invariant.scope d refl c.links.invariant.type c.links.invariant.faults c.in_ok-t.ensures in
    record { scope = c.in_ok-t.ensures.scope ∙ c.links.invariant.scope; type = w.0; faults = w.1 }

pub sum_links-links-preserved : goal.sum_links-links-preserved
sum_links-links-preserved t c =
    let ms = c.args.funs.now.types.nodes in
    let f = ctx_of c.args.funs.now in
    let ks = c.args.ks.now in
    let k = c.k-item.result in
    let i = c.links.k-index in
    let d = sum_links-drop ks i k (omega (arith, ap length c.as_slice-k-items.ensures)) (c.k-item.is ∙ ap (λ z. get_or z i k) c.as_slice-k-items.ensures) in
    let w = link_step ms f c.args.checker.now c.links.checker c.second.new.checker (sum_form k.op) c.sum_form.result k.pos (ex_of k.operand) (sum_links_of (drop i ks)) (sum_links_of (drop (i + 1) ks))
    (opt_ty ms c.links.t) (opt_ty ms c.in_ok-t.t) (judge_links f (names ms c.args.checker.now) (typed (opt_ty ms c.args.t)) (sum_links_of ks))
    c.links.invariant.scope d c.sum_form.ensures c.links.invariant.type c.links.invariant.faults c.in_ok-t.ensures in
    record { scope = c.in_ok-t.ensures.scope ∙ c.links.invariant.scope; type = w.0; faults = w.1 }

pub operands-links-preserved : goal.operands-links-preserved
operands-links-preserved t c =
    let ms = c.args.funs.now.types.nodes in
    let f = ctx_of c.args.funs.now in
    let ks = c.args.ks.now in
    let k = c.k-item.result in
    let i = c.links.k-index in
    let d = list_links-drop ks i k (omega (arith, ap length c.as_slice-k-items.ensures)) (c.k-item.is ∙ ap (λ z. get_or z i k) c.as_slice-k-items.ensures) in
    let w = operand_step ms f c.args.checker.now c.links.checker c.type_of.new.checker k.pos (cons_form k.op) (ex_of k.operand) (list_links_of (drop i ks)) (list_links_of (drop (i + 1) ks)) (list_links_of ks)
    (opt_ty ms c.args.t) c.links.ts c.add.new.self c.in_ok-u.u
    c.links.invariant.scope d c.links.invariant.types c.links.invariant.faults c.in_ok-u.ensures c.in_ok-add.ensures.ok in
    record { scope = c.in_ok-u.ensures.scope ∙ c.links.invariant.scope; types = w.0; faults = w.1 }

pub types_of-parts-preserved : goal.types_of-parts-preserved
types_of-parts-preserved t c =
    let ms = c.args.funs.now.types.nodes in
    let f = ctx_of c.args.funs.now in
    let es = c.args.es.now in
    let e = c.e-item.result in
    let i = c.parts.e-index in
    let w = part_step ms f c.args.checker.now c.parts.checker c.type_of.new.checker es e i (opt_tys ms c.parts.ts) (opt_tys ms c.in_ok-ts.ts) (opt_ty ms c.in_ok-t.t) (judges f (names ms c.args.checker.now) (exs_of es))
    c.parts.invariant.scope (omega (arith, ap length c.as_slice-e-items.ensures)) (c.e-item.is ∙ ap (λ z. get_or z i e) c.as_slice-e-items.ensures)
    c.parts.invariant.types c.parts.invariant.faults c.in_ok-t.ensures (ap (opt_tys ms) c.in_ok-ts.ensures ∙ opt_tys-pushed ms c.parts.ts c.in_ok-t.t) in
    record { scope = c.in_ok-t.ensures.scope ∙ c.parts.invariant.scope; types = w.0; faults = w.1 }

pub type_of-returns-in-Call : goal.type_of-returns-in-Call
type_of-returns-in-Call t c =
    let ms = c.args.funs.now.types.nodes in
    let f = ctx_of c.args.funs.now in
    let s = names ms c.args.checker.now in
    subst (λ z. IfOk c.call.result (λ r. Judged ms c.args.checker.now c.call.new.checker (opt_ty ms r) (judge f s z))) (sym (ap ex_of c.in-Call.is ∙ ex-Call c.in-Call.x c.in-Call.es)) c.call.ensures

pub type_of-returns-in-List : goal.type_of-returns-in-List
type_of-returns-in-List t c =
    let ms = c.args.funs.now.types.nodes in
    let f = ctx_of c.args.funs.now in
    let s = names ms c.args.checker.now in
    subst (λ z. IfOk c.list.result (λ r. Judged ms c.args.checker.now c.list.new.checker (opt_ty ms r) (judge f s z))) (sym (ap ex_of c.in-List.is ∙ ex-List c.in-List.p c.in-List.es)) c.list.ensures
