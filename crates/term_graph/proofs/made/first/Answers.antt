use Rattle.std.proofs.Common.{[], Some, ap, ◌∙◌}
use Rattle.std.proofs.lemmas.Result.{IfOk-weaker}
use Rattle.rules_meaning.specs.Values.{values_of}
use Rattle.slot_laws.specs.SlotRules.{at, doing}
use Rattle.local_steps.specs.Machine.{act_of}
use Rattle.term_graph.proofs.made.first.Goals as goal

-- src/made.rt
pub returns-clause-is : goal.returns-clause-is
returns-clause-is c =
    IfOk-weaker c.number.result _ _ (λ n is b. is b [] c.bare-bare.ensures ∙ ap (λ vs. Some (at (doing (act_of b c.args.main) (values_of vs)) [])) c.new.ensures) c.number.ensures.is
