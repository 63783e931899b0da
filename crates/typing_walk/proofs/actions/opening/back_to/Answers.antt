use Rattle.std.proofs.Common.{◌-◌, drop, ap, ◌∙◌, sym, refl, arith}
use Rattle.typing_parts.proofs.Tables.{scope_of-length, scope_of-take}
use Rattle.typing_parts.specs.Views.{scope_of}
use Rattle.typing_walk.proofs.actions.opening.back_to.Goals as goal

pub back_to-requires : goal.back_to-requires
back_to-requires c =
    let l = scope_of-length c.args._types.now.nodes c.args.checker.now.scope.items in
    omega (arith, c.requires, l)

pub returns : goal.returns
returns c =
    let ms = c.args._types.now.nodes in
    let es = c.args.checker.now.scope.items in
    let k = c.args.mark in
    let l = scope_of-length ms es in (
      ap (scope_of ms) c.back_to.ensures ∙ (scope_of-take ms k es (omega (arith, c.requires, l)) ∙ ap (λ n. drop (n - k) (scope_of ms es)) (sym l)),
      refl,
    )
