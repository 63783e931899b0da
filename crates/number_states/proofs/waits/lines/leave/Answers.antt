-- The closure passes all places but the thread's.
use Rattle.std.proofs.Common.{◌==◌, not, ap, ◌∙◌, rules}
use Rattle.std.proofs.lemmas.Fn.{filter_same}
use Rattle.number_states.specs.waits.Places.{places}
use Rattle.number_states.specs.declared.waits.places.Place.{Place}
use Rattle.number_states.proofs.waits_lemmas.Served.{left}
use Rattle.number_states.proofs.waits.lines.leave.Goals as goal

pub returns : goal.returns
returns c = ap places (filter_same _ (λ (p : Place). not (p.thread == c.args.thread)) _ (λ x b f' t. search rules) _ _ c.retain.ensures.filtered) ∙ left c.args.thread c.args.line.now.items
