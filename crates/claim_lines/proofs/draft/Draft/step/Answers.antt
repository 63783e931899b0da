use Rattle.claim_lines.proofs.Drafting.{step_right}
use Rattle.claim_lines.proofs.draft.Draft.step.Goals as goal

pub returns-in-Condition : goal.returns-in-Condition
returns-in-Condition c = step_right c.condition_then.result c.args.self _ c.args.word c.in-Condition.is c.condition_then.ensures
