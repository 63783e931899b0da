-- The closure passes all exceptions but the thrower's.
use Rattle.std.proofs.Common.{◌==◌, not, ◌∙◌, rules}
use Rattle.std.proofs.lemmas.Fn.{filter_same}
use Rattle.number_states.specs.declared.waits.flight.Thrown.{Thrown}
use Rattle.number_states.proofs.waits_lemmas.Without.{kept}
use Rattle.number_states.proofs.waits.flight.withdraw.Goals as goal

pub returns : goal.returns
returns c = filter_same _ (λ (f : Thrown). not (f.thrower == c.args.thrower)) _ (λ x b f' t. search rules) _ _ c.retain.ensures.filtered ∙ kept (λ (f : Thrown). f.thrower) c.args.thrower c.args.list.now.items
