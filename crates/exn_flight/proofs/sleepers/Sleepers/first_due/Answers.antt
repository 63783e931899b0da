-- The first of the tournament is the first in order.
use Rattle.std.proofs.Common.{◌∙◌, Some, sym, ap}
use Rattle.std.specs.Option.{option_copied}
use Rattle.rules_waiting.specs.Waiting.{earliest, sorted_sleepers}
use Rattle.exn_flight.specs.Asleep.{sleepers_at}
use Rattle.exn_flight.proofs.Order.{earliest_head, earliest_none}
use Rattle.exn_flight.proofs.Placing.{head_sorted}
use Rattle.exn_flight.proofs.sleepers.Sleepers.first_due.Goals as goal

pub returns-in_err-first : goal.returns-in_err-first
returns-in_err-first c =
    let os = c.self.inside.tournament in
    c.from_residual.ensures ∙ sym (earliest_none (sorted_sleepers (sleepers_at os)) (head_sorted os ∙ sym c.first.ensures ∙ ap option_copied c.in_err-first.was)) ∙ ap (λ x. earliest x.list) c.self.view_is

pub returns : goal.returns
returns c =
    let os = c.self.inside.tournament in
    ap Some c.due.ensures ∙ sym (earliest_head (sorted_sleepers (sleepers_at os)) c.in_ok-first.first.now (head_sorted os ∙ sym c.first.ensures ∙ ap option_copied c.in_ok-first.was)) ∙ ap (λ x. earliest x.list) c.self.view_is
