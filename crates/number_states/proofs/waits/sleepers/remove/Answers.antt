-- The closure passes all sleepers but the thread's.
use Rattle.std.proofs.Common.{◌==◌, not, ap, ◌∙◌, rules}
use Rattle.std.proofs.lemmas.Fn.{filter_same}
use Rattle.number_states.specs.declared.waits.sleepers.Asleep.{Asleep}
use Rattle.number_states.specs.waits.Sleeping.{sleepers}
use Rattle.number_states.proofs.waits_lemmas.Without.{kept, sleepers_without}
use Rattle.number_states.proofs.waits.sleepers.remove.Goals as goal

pub returns : goal.returns
returns c =
    ap sleepers (filter_same _ (λ (a : Asleep). not (a.thread == c.args.thread)) _ (λ x b f' t. search rules) _ _ c.retain.ensures.filtered
    ∙ kept (λ (a : Asleep). a.thread) c.args.thread c.args.list.now.items) ∙ sleepers_without c.args.thread c.args.list.now.items
