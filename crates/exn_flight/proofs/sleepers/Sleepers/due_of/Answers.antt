-- A thread sleeps once at most, and the table has its place.
use Rattle.std.proofs.Common.{◌≡◌, ◌∙◌, nat_eq, Some, None, sym, ap}
use Rattle.std.specs.HashMap.{get}
use Rattle.std.specs.Option.{option_copied}
use Rattle.rules_waiting.specs.Waiting.{Sleeper, sorted_sleepers}
use Rattle.exn_flight.specs.Asleep.{Asleep, sleepers_at, due_of}
use Rattle.exn_flight.specs.Tournaments.{node}
use Rattle.exn_flight.proofs.Dues.{due_sorted, due_at, none_due}
use Rattle.exn_flight.proofs.Order.{has_sorted}
use Rattle.exn_flight.proofs.Placing.{node_within, asleep_none, only_placed, none_placed, distinct_once, once_placed}
use Rattle.exn_flight.proofs.sleepers.Sleepers.due_of.Goals as goal

pub at-requires : goal.at-requires
at-requires c =
    let at = c.self.invariant.place c.args.t c.in_ok-place.place (sym c.place_of.ensures ∙ c.in_ok-place.was) in
    node_within c.self.inside.tournament c.in_ok-place.place at.sleeper at.is

pub returns-in_err-place : goal.returns-in_err-place
returns-in_err-place c =
    let os = c.self.inside.tournament in
    let none = none_placed os c.self.inside.free (get nat_eq c.self.inside.places) c.args.t c.self.invariant (sym c.place_of.ensures ∙ c.in_err-place.was) in
    c.from_residual.ensures ∙ sym (ap (λ (x : Asleep). due_of c.args.t x.list) (sym c.self.view_is) ∙ none_due c.args.t (sorted_sleepers (sleepers_at os)) (has_sorted c.args.t (sleepers_at os) (asleep_none os c.args.t none)))

pub returns-in_err-sleeper : goal.returns-in_err-sleeper
returns-in_err-sleeper c =
    let at = c.self.invariant.place c.args.t c.in_ok-place.place (sym c.place_of.ensures ∙ c.in_ok-place.was) in
    let no : None ≡ Some at.sleeper = ap option_copied (sym c.in_err-sleeper.was) ∙ c.at.ensures ∙ at.is in
    absurd (cc no)

pub returns : goal.returns
returns c =
    let os = c.self.inside.tournament in
    let f = get nat_eq c.self.inside.places in
    let place = c.in_ok-place.place in
    let found = sym c.place_of.ensures ∙ c.in_ok-place.was in
    let at = c.self.invariant.place c.args.t place found in
    let s : Sleeper = c.in_ok-sleeper.sleeper.now in
    let is : node os place ≡ Some s = sym c.at.ensures ∙ ap option_copied c.in_ok-sleeper.was in
    let same : at.sleeper ≡ s = let z : Some at.sleeper ≡ Some s = sym at.is ∙ is in cc z in
    let own = ap (λ (x : Sleeper). x.thread) (sym same) ∙ at.thread in
    let once = distinct_once os (once_placed os c.self.inside.free f c.self.invariant) in
    ap Some c.due.ensures
    ∙ sym (ap (λ (x : Asleep). due_of c.args.t x.list) (sym c.self.view_is) ∙ due_sorted c.args.t (sleepers_at os) once ∙ due_at os c.args.t place s is own (only_placed os c.self.inside.free f c.args.t place c.self.invariant found))
