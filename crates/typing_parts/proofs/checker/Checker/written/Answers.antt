use Rattle.std.proofs.Common.{◌≡◌, cond, false, Some, ltb, refl, ap, ◌∙◌, sym}
use Rattle.rules_expansion.specs.trees.Trees.{ty_of}
use Rattle.rules_typing.specs.Typing.{wide, nodes}
use Rattle.typing_judge.specs.Judging.{good, bad}
use Rattle.typing_judge.specs.Least.{least}
use Rattle.typing_parts.specs.Judged.{kept}
use Rattle.typing_parts.proofs.checker.Checker.written.Goals as goal

pub returns : goal.returns
returns c =
    let w = c.args.w.now in
    let h : ltb 64 (nodes (ty_of w.ty)) ≡ false = sym c.is_wide_written.ensures ∙ c.if-is_wide_written.false in record {
      scope = refl;
      type = ap Some (c.in_ok-from_written.ensures c.args.types.now.nodes) ∙ sym (ap (λ b. (cond b (bad (wide w.pos)) (good (ty_of w.ty))).type) h);
      faults = sym (ap (λ b. least (kept c.args.types.now.nodes c.args.self.now) (cond b (bad (wide w.pos)) (good (ty_of w.ty))).faults) h);
    }
