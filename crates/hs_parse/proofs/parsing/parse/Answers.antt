use Rattle.std.proofs.Common.{Err, ap, ◌∙◌}
use Rattle.hs_parse.proofs.Top.{at_unexpected, at_deep}
use Rattle.hs_parse.proofs.parsing.parse.Goals as goal

pub returns-in-Err-Unexpected : goal.returns-in-Err-Unexpected
returns-in-Err-Unexpected c = at_unexpected c.args.tokens.now _ _ _ (c.new-cursor.ensures ∙ c.as_slice.ensures) c.script.ensures _ _ (c.in-Err-Unexpected.is ∙ ap Err c.in-Err-Unexpected.field-0-is) c.position.ensures

pub returns-in-Err-TooDeep : goal.returns-in-Err-TooDeep
returns-in-Err-TooDeep c = at_deep c.args.tokens.now _ _ _ (c.new-cursor.ensures ∙ c.as_slice.ensures) c.script.ensures _ _ (c.in-Err-TooDeep.is ∙ ap Err c.in-Err-TooDeep.field-0-is) c.position-in-Err-TooDeep.ensures
