use Rattle.std.proofs.Common.{◌∙◌, sym}
use Rattle.typing_parts.proofs.Arguments.{judged_items}
use Rattle.typing_parts.proofs.checker.Checker.close_items.Goals as goal

pub returns-then-branch : goal.returns-then-branch
returns-then-branch c = judged_items c.args.types.now.nodes c.args.self.now c.all_are.new.self c.unless_wide-then-branch.new.self c.in_ok-all_are-in-Some-split_first.field-0 c.args.p
    c.args.ts c.in-Some.us c.in-Some-split_first.first.now c.in-Some-split_first.rest.now c.in_ok-t-in-Some-split_first.t c.unless_wide-then-branch.result
    c.in-Some.is (sym c.as_slice.ensures ∙ c.in-Some-split_first.ensures.cases.0) c.if-branch.true c.in_ok-all_are-in-Some-split_first.ensures c.in_ok-t-in-Some-split_first.ensures c.unless_wide-then-branch.ensures
