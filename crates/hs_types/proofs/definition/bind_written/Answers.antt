use Rattle.std.proofs.Common.{◌≡◌, ◌∷◌, OnOk, subst}
use Rattle.rules_typing.specs.Typing.{bound}
use Rattle.typing_parts.specs.Judged.{kept, names}
use Rattle.hs_types.proofs.definition.bind_written.Goals as goal

pub returns : goal.returns
returns c =
    let ms = c.args.types.now.nodes in
    let old = c.args.checker.now in
    let new = c.bind.new.self in
    subst (λ t. OnOk c.bind.result ((names ms new ≡ bound c.args.x.now t ∷ names ms old) × (kept ms new ≡ kept ms old))) (c.in_ok-t.ensures ms) c.bind.ensures
