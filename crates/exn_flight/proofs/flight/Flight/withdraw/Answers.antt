-- A thrower has one exception in flight at most, and the table has its place.
use Rattle.std.proofs.Common.{◌∙◌, nat_eq, sym, ap}
use Rattle.std.specs.HashMap.{get}
use Rattle.rules_waiting.specs.Waiting.{Flying, thrown_by, is_throwing}
use Rattle.exn_flight.proofs.Numbers.{without_absent}
use Rattle.exn_flight.proofs.Flying.{none_by, only_at, thrown_none, thrown_live, throwing_none}
use Rattle.exn_flight.proofs.flight.Flight.withdraw.Goals as goal

pub returns-in_err-place-clause-answer : goal.returns-in_err-place-clause-answer
returns-in_err-place-clause-answer c =
    let ts = c.self.inside.throws.list.items in
    let list = ap (λ x. x.list) c.self.view_is in
    let none = none_by ts (get nat_eq c.self.inside.throws.throwers) c.args.thrower c.self.invariant.at (sym c.place_of.ensures ∙ c.in_err-place.was) in
    c.from_residual.ensures ∙ sym (thrown_none ts c.args.thrower none) ∙ ap (thrown_by c.args.thrower) list

pub returns-in_err-place-clause-list : goal.returns-in_err-place-clause-list
returns-in_err-place-clause-list c =
    let ts = c.self.inside.throws.list.items in
    let list = ap (λ x. x.list) c.self.view_is in
    let none = none_by ts (get nat_eq c.self.inside.throws.throwers) c.args.thrower c.self.invariant.at (sym c.place_of.ensures ∙ c.in_err-place.was) in
    sym (without_absent (λ (f : Flying). f.thrower) c.args.thrower c.args.self.now.list (ap (is_throwing c.args.thrower) (sym list) ∙ throwing_none ts c.args.thrower none))

pub returns-clause-answer : goal.returns-clause-answer
returns-clause-answer c =
    let ts = c.self.inside.throws.list.items in
    let list = ap (λ x. x.list) c.self.view_is in
    let here = sym c.place_of.ensures ∙ c.in_ok-place.was in
    let at = c.self.invariant.at.place c.args.thrower c.in_ok-place.place here in
    let only = only_at ts (get nat_eq c.self.inside.throws.throwers) c.args.thrower c.in_ok-place.place c.self.invariant.at here in
    c.leave-e.ensures.answer ∙ sym (thrown_live ts c.args.thrower c.in_ok-place.place at.0 at.1 only) ∙ ap (thrown_by c.args.thrower) list
