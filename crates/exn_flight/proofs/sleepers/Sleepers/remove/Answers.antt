-- A thread sleeps once at most, and the table has its place.
use Rattle.std.proofs.Common.{◌∙◌, nat_eq, sym, ap, subst}
use Rattle.std.specs.HashMap.{get}
use Rattle.rules_waiting.specs.Waiting.{Sleeper, is_sleeping, sorted_sleepers, still_asleep}
use Rattle.exn_flight.specs.Asleep.{sleepers_at, ArePlaced, AreInOrder}
use Rattle.exn_flight.proofs.Numbers.{without_absent}
use Rattle.exn_flight.proofs.SortedLeaving.{sorted_leaves}
use Rattle.exn_flight.proofs.Order.{has_sorted, still_sorted, sorted_in_order}
use Rattle.exn_flight.proofs.Placing.{node_within, asleep_none, asleep_at, left_from, placed_left, only_placed, none_placed, distinct_once, once_placed}
use Rattle.exn_flight.proofs.sleepers.Sleepers.remove.Goals as goal

pub returns-in_default-clause-answer : goal.returns-in_default-clause-answer
returns-in_default-clause-answer c =
    let os = c.self.inside.tournament in
    let none = none_placed os c.self.inside.free (get nat_eq c.self.inside.places) c.args.t c.self.invariant (sym c.place_of.ensures ∙ c.in_default.is) in
    sym (ap (λ x. is_sleeping c.args.t x.list) (sym c.self.view_is) ∙ has_sorted c.args.t (sleepers_at os) (asleep_none os c.args.t none))

pub returns-in_default-clause-list : goal.returns-in_default-clause-list
returns-in_default-clause-list c =
    let os = c.self.inside.tournament in
    let none = none_placed os c.self.inside.free (get nat_eq c.self.inside.places) c.args.t c.self.invariant (sym c.place_of.ensures ∙ c.in_default.is) in
    sym (without_absent (λ (s : Sleeper). s.thread) c.args.t c.args.self.now.list (ap (λ x. is_sleeping c.args.t x.list) (sym c.self.view_is) ∙ has_sorted c.args.t (sleepers_at os) (asleep_none os c.args.t none)))

pub returns-in_default-clause-order : goal.returns-in_default-clause-order
returns-in_default-clause-order c =
    let os = c.self.inside.tournament in
    subst (λ x. AreInOrder x.list) c.self.view_is (sorted_in_order (sleepers_at os) (distinct_once os (once_placed os c.self.inside.free (get nat_eq c.self.inside.places) c.self.invariant)))

pub set-requires : goal.set-requires
set-requires c =
    let at = c.self.invariant.place c.args.t c.in-Some.place (sym c.place_of.ensures ∙ c.in-Some.is) in
    node_within c.self.inside.tournament c.in-Some.place at.sleeper at.is

pub invariant_of-self : goal.invariant_of-self
invariant_of-self c =
    let os = c.self.inside.tournament in
    let f = get nat_eq c.self.inside.places in
    let g = get nat_eq c.clear.new.table in
    subst (λ rs. ArePlaced rs c.self.inside.free g) (sym c.set.ensures) (placed_left os c.self.inside.free c.in-Some.place c.args.t f g c.self.invariant (sym c.place_of.ensures ∙ c.in-Some.is) c.clear.ensures.place)

pub returns-clause-answer : goal.returns-clause-answer
returns-clause-answer c =
    let os = c.self.inside.tournament in
    let at = c.self.invariant.place c.args.t c.in-Some.place (sym c.place_of.ensures ∙ c.in-Some.is) in
    sym (ap (λ x. is_sleeping c.args.t x.list) (sym c.self.view_is) ∙ still_sorted c.args.t (sleepers_at os) (asleep_at os c.args.t c.in-Some.place at.sleeper at.is at.thread))

pub returns-clause-list : goal.returns-clause-list
returns-clause-list c =
    let os = c.self.inside.tournament in
    let here = sym c.place_of.ensures ∙ c.in-Some.is in
    let at = c.self.invariant.place c.args.t c.in-Some.place here in
    let only = only_placed os c.self.inside.free (get nat_eq c.self.inside.places) c.args.t c.in-Some.place c.self.invariant here in
    ap (λ rs. sorted_sleepers (sleepers_at rs)) c.set.ensures ∙ ap sorted_sleepers (left_from os c.args.t c.in-Some.place at.sleeper at.is at.thread only) ∙ sorted_leaves c.args.t (sleepers_at os) ∙ ap (λ x. still_asleep c.args.t x.list) c.self.view_is

pub returns-clause-order : goal.returns-clause-order
returns-clause-order c =
    let os = c.self.inside.tournament in
    let f = get nat_eq c.self.inside.places in
    let g = get nat_eq c.clear.new.table in
    let placed = subst (λ rs. ArePlaced rs c.self.inside.free g) (sym c.set.ensures) (placed_left os c.self.inside.free c.in-Some.place c.args.t f g c.self.invariant (sym c.place_of.ensures ∙ c.in-Some.is) c.clear.ensures.place) in
    sorted_in_order (sleepers_at c.set.new.self) (distinct_once c.set.new.self (once_placed c.set.new.self c.self.inside.free g placed))
