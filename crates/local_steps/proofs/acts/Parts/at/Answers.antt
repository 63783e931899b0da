use Rattle.slot_laws.proofs.ActNodes.{act_not_below}
use Rattle.local_steps.proofs.acts.Parts.at.Goals as goal

pub returns-else-part-self : goal.returns-else-part-self
returns-else-part-self c =
    act_not_below c.args.self.body.now.nodes c.args.self.body.now.acts c.args.self.above c.args.part (record { 0 = c.len.result }) c.if-part-self.false c.len.ensures
