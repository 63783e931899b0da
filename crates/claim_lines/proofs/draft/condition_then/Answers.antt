use Rattle.claim_lines.proofs.Drafting.{has_read_add, has_read_await}
use Rattle.claim_lines.proofs.draft.condition_then.Goals as goal

pub returns-in-Some-Await : goal.returns-in-Some-Await
returns-in-Some-Await c words h = has_read_await words c.args.verb c.args.parts c.args.next c.in-Some-Await.next c.args.word h (rw c.in-Some-Await.field-0-is at c.in-Some-Await.ensures)

pub returns-in_ok-add-in-Some-Add : goal.returns-in_ok-add-in-Some-Add
returns-in_ok-add-in-Some-Add c words h = has_read_add words c.args.verb c.args.parts c.add.new.self c.args.next c.args.word c.in-Some-Add.part h (rw c.in-Some-Add.field-0-is at c.in-Some-Add.ensures) c.in_ok-add-in-Some-Add.ensures.ok
