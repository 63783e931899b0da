-- The table has the place of the first at each target.
use Rattle.std.proofs.Common.{◌∙◌, Some, sym, ap, arith}
use Rattle.std.proofs.lemmas.List.{get_or_read}
use Rattle.rules_waiting.specs.Waiting.{flying_to, first_thrown}
use Rattle.exn_flight.specs.Flights.{shown}
use Rattle.exn_flight.specs.Throwing.{throw_at, no_throw}
use Rattle.exn_flight.proofs.Growing.{live_within}
use Rattle.exn_flight.proofs.Over.{dead}
use Rattle.exn_flight.proofs.Flying.{first_flying, none_flying}
use Rattle.exn_flight.proofs.flight.Flight.first_for.Goals as goal

pub returns-in_err-first : goal.returns-in_err-first
returns-in_err-first c =
    let ts = c.self.inside.throws.list.items in
    let list = ap (λ x. x.list) c.self.view_is in
    ap shown c.from_residual.ensures ∙ sym (none_flying ts c.args.target (c.self.invariant.first.none c.args.target (sym c.place_of.ensures ∙ c.in_err-first.was))) ∙ ap (λ fs. first_thrown (flying_to c.args.target fs)) list

pub index-throw-requires : goal.index-throw-requires
index-throw-requires c =
    let list = c.self.inside.throws.list in
    let first = c.self.invariant.first.some c.args.target c.in_ok-first.first (sym c.place_of.ensures ∙ c.in_ok-first.was) in
    omega (arith, live_within list.items c.in_ok-first.first first.live, list.ok.0)

pub unreachable-requires : goal.unreachable-requires
unreachable-requires c =
    let ts = c.self.inside.throws.list.items in
    let first = c.self.invariant.first.some c.args.target c.in_ok-first.first (sym c.place_of.ensures ∙ c.in_ok-first.was) in
    let at = get_or_read ts c.in_ok-first.first c.index-throw.result.now (live_within ts c.in_ok-first.first first.live) c.index-throw.ensures no_throw in
    dead (throw_at ts c.in_ok-first.first).exn (ap (λ x. x.exn) (sym at) ∙ c.in-None.is) first.live

pub returns : goal.returns
returns c =
    let ts = c.self.inside.throws.list.items in
    let list = ap (λ x. x.list) c.self.view_is in
    let first = c.self.invariant.first.some c.args.target c.in_ok-first.first (sym c.place_of.ensures ∙ c.in_ok-first.was) in
    let at = get_or_read ts c.in_ok-first.first c.index-throw.result.now (live_within ts c.in_ok-first.first first.live) c.index-throw.ensures no_throw in
    ap (λ x. Some (x.thrower, c.in-Some.exn)) at ∙ sym (first_flying ts c.args.target c.in_ok-first.first c.in-Some.exn first (ap (λ x. x.exn) (sym at) ∙ c.in-Some.is)) ∙ ap (λ fs. first_thrown (flying_to c.args.target fs)) list
