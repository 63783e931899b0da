use Rattle.claim_lines.proofs.Drafting.{then_right}
use Rattle.claim_lines.proofs.draft.Draft.then.Goals as goal

pub returns : goal.returns
returns c = then_right c.step.result c.args.self c.args.word c.step.ensures
