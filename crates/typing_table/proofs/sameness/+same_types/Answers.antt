use Rattle.std.proofs.Common.{ap, sym, ◌∙◌}
use Rattle.typing_judge.specs.Judging.{same}
use Rattle.typing_table.specs.Meaning.{known, type_in}
use Rattle.typing_table.proofs.Equations.{type-Known}
use Rattle.typing_table.proofs.Swapped.{same_swap}
use Rattle.typing_table.proofs.sameness.+same_types.Goals as goal

pub returns-in-Known-default : goal.returns-in-Known-default
returns-in-Known-default t c =
    let ms = c.args.types.now.nodes in
    let m = c.in-Known-default.m in
    let b = type_in ms c.args.b.now in
    c.stands_at.ensures ∙ same_swap b (known ms m)
    ∙ ap (λ z. same z b) (sym (ap (type_in ms) c.in-Known-default.is-0 ∙ type-Known ms m))
