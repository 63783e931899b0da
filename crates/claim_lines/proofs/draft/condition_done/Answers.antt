use Rattle.claim_lines.specs.declared.draft.Next.TheVariants as next
use Rattle.claim_lines.specs.declared.draft.Draft.TheVariants.{Condition}
use Rattle.claim_lines.proofs.Drafting.{has_read_at, open_condition, open_is_no_claim}
use Rattle.claim_lines.proofs.draft.condition_done.Goals as goal

pub returns-in-And : goal.returns-in-And
returns-in-And c words h = c.said.ensures words (has_read_at words c.args.verb c.args.parts c.args.next next.And c.in-And.is h)

pub returns-in_default : goal.returns-in_default
returns-in_default c words h says claim =
    open_is_no_claim (Condition c.args.verb c.args.parts c.args.next) words says (open_condition c.args.verb c.args.parts c.args.next c.in_default.not-And) h claim
