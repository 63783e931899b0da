use Rattle.frame_stack.proofs.Forms.{some_left}
use Rattle.frame_stack.proofs.asking.asked.Goals as goal

pub returns-then-not-is_empty : goal.returns-then-not-is_empty
returns-then-not-is_empty c =
    some_left c.args.primitive c.args.values c.pop-last.new.self c.pop-first.new.self c.pop-last.result c.pop-first.result c.pop-last.ensures c.pop-first.ensures
    (λ e. let t = c.is_empty.ensures.1 e in let f = c.if-not-is_empty.true in cc)
