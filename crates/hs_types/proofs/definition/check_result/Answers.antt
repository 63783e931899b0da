use Rattle.std.proofs.Common.{ap, ◌∙◌}
use Rattle.rules_typing.specs.Typing.{is}
use Rattle.typing_judge.specs.Least.{least}
use Rattle.typing_parts.specs.Judged.{kept, unmet1}
use Rattle.typing_table.specs.Meaning.{type_in}
use Rattle.hs_types.proofs.Noting.{ended}
use Rattle.hs_types.proofs.definition.check_result.Goals as goal

pub returns-in_ok-is-in-Some : goal.returns-in_ok-is-in-Some
returns-in_ok-is-in-Some c =
    let ms = c.args.types.now.nodes in
    let u = type_in ms c.in-Some.t in
    c.in_ok-is-in-Some.ensures.faults
    ∙ (ap (λ z. least (kept ms c.args.checker.now) (unmet1 c.args.x.now.pos (is z u))) (c.in_ok-want-in-Some.ensures ms)
    ∙ ended (kept ms c.args.checker.now) c.args.x.now c.args.w.now ms c.args.t c.in-Some.t c.in-Some.is)
