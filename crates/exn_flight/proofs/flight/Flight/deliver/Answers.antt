-- The first at the target leaves.
use Rattle.std.proofs.Common.{◌∙◌, Some, sym, ap}
use Rattle.rules_waiting.specs.Waiting.{flying_to, first_thrown, withdrawn}
use Rattle.exn_flight.specs.Flights.{after_delivery}
use Rattle.exn_flight.proofs.Flying.{first_flying, none_flying}
use Rattle.exn_flight.proofs.flight.Flight.deliver.Goals as goal

pub returns-in_err-first-clause-answer : goal.returns-in_err-first-clause-answer
returns-in_err-first-clause-answer c =
    let ts = c.self.inside.throws.list.items in
    let list = ap (λ x. x.list) c.self.view_is in
    c.from_residual.ensures ∙ sym (none_flying ts c.args.target (c.self.invariant.first.none c.args.target (sym c.place_of.ensures ∙ c.in_err-first.was))) ∙ ap (λ fs. first_thrown (flying_to c.args.target fs)) list

pub returns-in_err-first-clause-list : goal.returns-in_err-first-clause-list
returns-in_err-first-clause-list c =
    let ts = c.self.inside.throws.list.items in
    let list = ap (λ x. x.list) c.self.view_is in
    ap (λ w. after_delivery w c.args.self.now.list) (sym (none_flying ts c.args.target (c.self.invariant.first.none c.args.target (sym c.place_of.ensures ∙ c.in_err-first.was))) ∙ ap (λ fs. first_thrown (flying_to c.args.target fs)) list)

pub returns-clause-answer : goal.returns-clause-answer
returns-clause-answer c =
    let ts = c.self.inside.throws.list.items in
    let list = ap (λ x. x.list) c.self.view_is in
    let first = c.self.invariant.first.some c.args.target c.in_ok-first.first (sym c.place_of.ensures ∙ c.in_ok-first.was) in
    ap (λ n. Some (n, c.leave.result.1)) c.leave.ensures.thrower ∙ sym (first_flying ts c.args.target c.in_ok-first.first c.leave.result.1 first (sym c.leave.ensures.answer)) ∙ ap (λ fs. first_thrown (flying_to c.args.target fs)) list

pub returns-clause-list : goal.returns-clause-list
returns-clause-list c =
    let ts = c.self.inside.throws.list.items in
    let list = ap (λ x. x.list) c.self.view_is in
    let first = c.self.invariant.first.some c.args.target c.in_ok-first.first (sym c.place_of.ensures ∙ c.in_ok-first.was) in
    let answer = ap (λ n. Some (n, c.leave.result.1)) c.leave.ensures.thrower ∙ sym (first_flying ts c.args.target c.in_ok-first.first c.leave.result.1 first (sym c.leave.ensures.answer)) ∙ ap (λ fs. first_thrown (flying_to c.args.target fs)) list in
    c.leave.ensures.list ∙ ap (withdrawn c.leave.result.0) list ∙ ap (λ w. after_delivery w c.args.self.now.list) answer
