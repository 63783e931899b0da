use Rattle.hs_base.specs.declared.tree.forms.SideForm.TheVariants as d
use Rattle.rules_code.specs.Slots.{s_side}
use Rattle.hs_core.proofs.Steps.{ex_after}
use Rattle.hs_core.proofs.emitter.ActEmitter.right_nil.Goals as goal

pub returns : goal.returns
returns c = ex_after (s_side d.Right) c.in_ok-e.ensures (λ k. k) c.in_ok-id.ensures
