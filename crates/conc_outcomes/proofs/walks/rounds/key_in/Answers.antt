use Rattle.std.proofs.Common.{ap, ◌∙◌, ◌++◌}
use Rattle.number_states.specs.Keys.{state_key}
use Rattle.conc_outcomes.proofs.walks.rounds.key_in.Goals as goal

-- src/rounds.rt
pub returns : goal.returns
returns c = (c.in_ok-kept.kept, c.in_ok-kept.ensures, c.in_ok-put_key.ensures {u = tt} ∙ ap (λ ns. ns ++ state_key c.in_ok-kept.kept) c.new-key.ensures.items)
