use Rattle.std.proofs.Common.{◌+◌, ◌-◌, length, refl, subst, arith}
use Rattle.claim_lines.specs.declared.lines.Body.TheVariants.{WrongBefore}
use Rattle.claim_lines.specs.Fronts.{IsBody}
use Rattle.claim_lines.proofs.Heads.{before_length, line_wrong}
use Rattle.claim_lines.proofs.lines.read_line.Goals as goal

pub overflow_sub-result : goal.overflow_sub-result
overflow_sub-result c =
    let wrong : IsBody c.in-Some.body.now (WrongBefore c.in-WrongBefore.left) = subst (IsBody c.in-Some.body.now) c.in-WrongBefore.is c.in_ok-says.ensures in
    omega (arith, before_length c.args.line.now c.in-Some.body.now c.in-WrongBefore.left c.in-Some.ensures wrong)

pub returns-in-WrongBefore : goal.returns-in-WrongBefore
returns-in-WrongBefore c =
    let wrong : IsBody c.in-Some.body.now (WrongBefore c.in-WrongBefore.left) = subst (IsBody c.in-Some.body.now) c.in-WrongBefore.is c.in_ok-says.ensures in
    line_wrong c.args.line.now c.in-Some.body.now c.in-WrongBefore.left (length c.args.line.now - c.in-WrongBefore.left + 1) c.in-Some.ensures wrong refl
