use Rattle.std.proofs.Common.{◌≡◌, true, sym, subst}
use Rattle.typing_judge.specs.Judging.{same}
use Rattle.typing_judge.proofs.Laws.{same_self}
use Rattle.typing_table.specs.Meaning.{known}
use Rattle.typing_table.proofs.sameness.+same_places.Goals as goal

pub returns-then-m-n : goal.returns-then-m-n
returns-then-m-n t c =
    let ms = c.args.types.now.nodes in
    let m = c.args.m in
    sym (subst (λ z. same (known ms m) (known ms z) ≡ true) c.if-m-n.true (same_self (known ms m)))
