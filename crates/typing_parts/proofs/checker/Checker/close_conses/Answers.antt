use Rattle.std.proofs.Common.{◌≡◌, ◌-◌, ◌+◌, length, drop, ap, ◌∙◌, sym, arith}
use Rattle.rules_expansion.specs.trees.Trees.{list_links_of, cons_form}
use Rattle.rules_typing.specs.Typing.{row_binary}
use Rattle.typing_judge.specs.Judging.{Found, folded, own, with2}
use Rattle.typing_judge.specs.Least.{least}
use Rattle.typing_parts.specs.Views.{opt_ty, opts_of}
use Rattle.typing_parts.specs.Judged.{kept}
use Rattle.typing_parts.proofs.Noted.{least-append}
use Rattle.typing_parts.proofs.Chains.{folded_step}
use Rattle.typing_parts.proofs.checker.Checker.close_conses.Goals as goal

pub links-preserved : goal.links-preserved
links-preserved c =
    let ms = c.args.types.now.nodes in
    let ts = c.as_slice-ts.result.now in
    let ks = c.as_slice-ks.result.now in
    let p = c.index-ks-i.result.pos in
    let f : Found = folded (opts_of ms (drop c.links.i ts)) (list_links_of (drop c.links.i ks)) in
    let l : length ts ≡ 1 + length ks = ap length c.as_slice-ts.ensures ∙ (c.requires ∙ ap (λ z. 1 + length z) (sym c.as_slice-ks.ensures)) in
    let e = folded_step ms ts ks (c.links.i - 1) c.links.i c.index-ts-i.result c.index-ks-i.result (omega arith) (omega (arith, l, c.links.invariant.within)) c.index-ts-i.is (omega (arith, c.links.invariant.within)) c.index-ks-i.is in
    let x = opt_ty ms c.index-ts-i.result in
    record {
      within = omega (arith, c.links.invariant.within);
      scope = c.in_ok-t-2.ensures.scope ∙ c.links.invariant.scope;
      type = c.in_ok-t-2.ensures.type ∙ (ap (λ z. (with2 x z (λ u v. own p (row_binary c.joined.result u v))).type) c.links.invariant.type
          ∙ (ap (λ o. (with2 x f.type (λ u v. own p (row_binary o u v))).type) c.joined.ensures ∙ sym (ap (λ z. z.type) e)));
      faults = c.in_ok-t-2.ensures.faults ∙ (ap (λ z. least (kept ms c.links.self) (with2 x z (λ u v. own p (row_binary c.joined.result u v))).faults) c.links.invariant.type
          ∙ (ap (λ o. least (kept ms c.links.self) (with2 x f.type (λ u v. own p (row_binary o u v))).faults) c.joined.ensures
          ∙ (ap (λ z. least z (with2 x f.type (λ u v. own p (row_binary (cons_form c.index-ks-i.result.op) u v))).faults) c.links.invariant.faults
          ∙ (sym (least-append (kept ms c.args.self.now) f.faults _) ∙ sym (ap (λ z. least (kept ms c.args.self.now) z.faults) e)))));
    }
