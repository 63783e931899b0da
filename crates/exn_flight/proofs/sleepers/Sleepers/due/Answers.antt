-- The first of the tournament is the first in order.
use Rattle.std.proofs.Common.{◌<◌, ◌≤◌, ◌∙◌, nat_eq, Some, sym, ap, arith}
use Rattle.std.specs.HashMap.{get}
use Rattle.std.specs.Option.{option_copied}
use Rattle.rules_waiting.specs.Waiting.{first_awake, sorted_sleepers}
use Rattle.exn_flight.specs.Asleep.{sleepers_at}
use Rattle.exn_flight.proofs.Order.{none_asleep, one_awake, none_awake, sorted_in_order}
use Rattle.exn_flight.proofs.Placing.{head_sorted, distinct_once, once_placed}
use Rattle.exn_flight.proofs.sleepers.Sleepers.due.Goals as goal

pub returns-in_err-first : goal.returns-in_err-first
returns-in_err-first c =
    let os = c.self.inside.tournament in
    c.from_residual.ensures ∙ sym (none_asleep c.args.now (sorted_sleepers (sleepers_at os)) (head_sorted os ∙ sym c.first.ensures ∙ ap option_copied c.in_err-first.was)) ∙ ap (λ x. first_awake c.args.now x.list) c.self.view_is

pub returns-then-due-now : goal.returns-then-due-now
returns-then-due-now c =
    let os = c.self.inside.tournament in
    let s = c.in_ok-first.first.now in
    let early : s.due ≤ c.args.now = omega (arith, c.if-due-now.true, c.due.ensures) in
    ap Some c.thread.ensures ∙ sym (one_awake c.args.now (sorted_sleepers (sleepers_at os)) s (head_sorted os ∙ sym c.first.ensures ∙ ap option_copied c.in_ok-first.was) early) ∙ ap (λ x. first_awake c.args.now x.list) c.self.view_is

pub returns-else-due-now : goal.returns-else-due-now
returns-else-due-now c =
    let os = c.self.inside.tournament in
    let s = c.in_ok-first.first.now in
    let late : c.args.now < s.due = omega (arith, c.if-due-now.false, c.due.ensures) in
    let order = sorted_in_order (sleepers_at os) (distinct_once os (once_placed os c.self.inside.free (get nat_eq c.self.inside.places) c.self.invariant)) in
    sym (none_awake c.args.now (sorted_sleepers (sleepers_at os)) s (head_sorted os ∙ sym c.first.ensures ∙ ap option_copied c.in_ok-first.was) late order) ∙ ap (λ x. first_awake c.args.now x.list) c.self.view_is
