use Rattle.std.proofs.Common.{[], ◌∷◌, ◌++◌, sym, ap, ◌∙◌, subst}
use Rattle.number_states.specs.declared.state.NumberState.{NumberState}
use Rattle.number_states.specs.States.{contents, AllIn}
use Rattle.number_changes.proofs.Thrown.{with_flight, thrown_in, throw_becomes}
use Rattle.number_changes.proofs.throwing.throw_at.Goals as goal

-- src/throwing.rt
pub block-requires : goal.block-requires
block-requires c =
    let x = c.args.state.now in
    let h = c.exception.new.self in
    let flies = c.push_reserved.ensures.items ∙ ap (λ fs. fs ++ record { thrower = c.args.thrower; target = c.args.target; exn = c.in_ok-exn.exn } ∷ []) c.in_ok-reserve.ensures.items in
    subst (λ fs. AllIn h (with_flight fs (contents x))) (sym flies)
    (thrown_in c.args.numbers.now h c.in_ok-exn.ensures.grows x c.requires c.args.thrower c.args.target c.in_ok-exn.exn c.args.exn c.in_ok-exn.ensures.is)

pub returns-clause-is : goal.returns-clause-is
returns-clause-is c =
    let x = c.args.state.now in
    let h = c.exception.new.self in
    let u : NumberState = record x { flight = c.push_reserved.new.self } in
    let flies = c.push_reserved.ensures.items ∙ ap (λ fs. fs ++ record { thrower = c.args.thrower; target = c.args.target; exn = c.in_ok-exn.exn } ∷ []) c.in_ok-reserve.ensures.items in
    throw_becomes c.args.numbers.now h c.in_ok-exn.ensures.grows x c.requires c.args.thrower c.args.target c.in_ok-exn.exn c.args.exn c.in_ok-exn.ensures.is u c.block.new.self
    (ap (λ fs. with_flight fs (contents x)) flies) c.block.ensures
