use Rattle.std.proofs.Common.{[], ◌∷◌, ◌++◌, ap, ◌∙◌}
use Rattle.hs_base.specs.declared.mask.Mask.TheVariants.{Unmasked}
use Rattle.hs_base.specs.declared.value.Value.TheVariants as raw
use Rattle.hs_eval.proofs.Cases.{value_of-Restore}
use Rattle.hs_eval.proofs.Steps.{values-append}
use Rattle.rules_meaning.specs.Values.{values_of}
use Rattle.slot_laws.specs.SlotRules.{at, doing, mask_in, mask_from}
use Rattle.slot_states.specs.SlotStates.{forks_to}
use Rattle.local_steps.specs.Machine.{act_of}
use Rattle.number_states.specs.Stocks.{term_at}
use Rattle.number_states.specs.States.{slots}
use Rattle.number_changes.proofs.Made.{becomes_as}
use Rattle.number_changes.proofs.Written.{on_ok}
use Rattle.number_changes.proofs.telling.fork_unmask.Goals as goal

-- src/telling.rt
pub returns-clause-is : goal.returns-clause-is
returns-clause-is c =
    let g = c.args.numbers.now in
    let x = c.args.state.now in
    let env = c.args.child.env in
    let holds = ap values_of c.in_ok-push.ensures.ok ∙ values-append env (raw.Restore Unmasked ∷ []) ∙ ap (λ v. values_of env ++ v ∷ []) (value_of-Restore Unmasked) in
    on_ok _ _ (becomes_as _ _ g c.begin.new.numbers x c.begin.new.state
    (λ b. ap (λ vs. forks_to c.args.thread (at (doing (act_of b c.args.child.action) vs) (mask_in (mask_from Unmasked (term_at g b c.args.term).frames) ∷ [])) (slots g b x)) holds)) c.begin.result c.begin.ensures.is
