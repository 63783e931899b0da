-- The new sleeper is at the first free place.
use Rattle.std.proofs.Common.{◌≡◌, ◌≤◌, ◌<◌, ◌-◌, ◌∙◌, length, set, nat_eq, Some, sym, ap, subst, arith, false}
use Rattle.std.specs.HashMap.{get}
use Rattle.rules_waiting.specs.Waiting.{Sleeper, is_sleeping, sorted_sleepers, sleeper_added}
use Rattle.exn_flight.specs.Asleep.{sleepers_at, ArePlaced}
use Rattle.exn_flight.proofs.Sorting.{sorted_append}
use Rattle.exn_flight.proofs.Order.{has_unsorted, sorted_in_order}
use Rattle.exn_flight.proofs.Placing.{placed_added, added_behind, distinct_once, once_placed}
use Rattle.exn_flight.proofs.sleepers.Sleepers.add.Goals as goal

pub invariant_of-self : goal.invariant_of-self
invariant_of-self c =
    let os = c.self.inside.tournament in
    let free = c.self.inside.free in
    let p = c.len-places.result - free in
    let s : Sleeper = record { thread = c.args.t; due = c.args.due } in
    let f = get nat_eq c.self.inside.places in
    let g = get nat_eq c.put.new.table in
    let is : c.set.new.self ≡ set os p (Some s) = c.set.ensures ∙ ap (λ x. set os p (Some x)) c.new-sleeper.ensures in
    let some : 1 ≤ free = omega (arith, c.requires.spare, ap (λ x. x.spare) c.self.view_is) in
    let at : p ≡ length os - free = ap (λ n. n - free) c.len-places.ensures.len in
    let alone : is_sleeping c.args.t (sleepers_at os) ≡ false = has_unsorted c.args.t (sleepers_at os) (ap (λ x. is_sleeping c.args.t x.list) c.self.view_is ∙ c.requires.awake) in
    subst (λ rs. ArePlaced rs (free - 1) g) (sym is) (placed_added os free p f g s c.self.invariant some at alone c.put.ensures.place)

pub returns-clause-list : goal.returns-clause-list
returns-clause-list c =
    let os = c.self.inside.tournament in
    let free = c.self.inside.free in
    let p = c.len-places.result - free in
    let s : Sleeper = record { thread = c.args.t; due = c.args.due } in
    let is : c.set.new.self ≡ set os p (Some s) = c.set.ensures ∙ ap (λ x. set os p (Some x)) c.new-sleeper.ensures in
    let some : 1 ≤ free = omega (arith, c.requires.spare, ap (λ x. x.spare) c.self.view_is) in
    let at : p ≡ length os - free = ap (λ n. n - free) c.len-places.ensures.len in
    let lt : p < length os = omega (arith, at, some, c.self.invariant.within) in
    ap (λ rs. sorted_sleepers (sleepers_at rs)) is ∙ ap sorted_sleepers (added_behind os p s lt (λ k le. c.self.invariant.vacant k (omega (arith, le, at)))) ∙ sorted_append (sleepers_at os) s ∙ ap (λ x. sleeper_added s x.list) c.self.view_is

pub returns-clause-order : goal.returns-clause-order
returns-clause-order c =
    let os = c.self.inside.tournament in
    let free = c.self.inside.free in
    let p = c.len-places.result - free in
    let s : Sleeper = record { thread = c.args.t; due = c.args.due } in
    let f = get nat_eq c.self.inside.places in
    let g = get nat_eq c.put.new.table in
    let is : c.set.new.self ≡ set os p (Some s) = c.set.ensures ∙ ap (λ x. set os p (Some x)) c.new-sleeper.ensures in
    let some : 1 ≤ free = omega (arith, c.requires.spare, ap (λ x. x.spare) c.self.view_is) in
    let at : p ≡ length os - free = ap (λ n. n - free) c.len-places.ensures.len in
    let alone : is_sleeping c.args.t (sleepers_at os) ≡ false = has_unsorted c.args.t (sleepers_at os) (ap (λ x. is_sleeping c.args.t x.list) c.self.view_is ∙ c.requires.awake) in
    let placed = subst (λ rs. ArePlaced rs (free - 1) g) (sym is) (placed_added os free p f g s c.self.invariant some at alone c.put.ensures.place) in
    sorted_in_order (sleepers_at c.set.new.self) (distinct_once c.set.new.self (once_placed c.set.new.self (free - 1) g placed))
