use Rattle.std.proofs.Common.{sym, ◌∙◌}
use Rattle.claim_lines.proofs.Closings.{next_escape}
use Rattle.claim_lines.proofs.literal.escape.Goals as goal

pub returns-in-Some-escaped : goal.returns-in-Some-escaped
returns-in-Some-escaped c = next_escape c.args.behind.now _ _ _ c.in-Some.ensures.cases.0 (sym c.escaped.ensures ∙ c.in-Some-escaped.is)
