use Rattle.stack_rows.proofs.Starting.{goes_on}
use Rattle.stack_rows.proofs.thread.accepted.Goals as goal

pub invariant_of-result : goal.invariant_of-result
invariant_of-result c = record {
  stands = goes_on c.args.thread.of.value c.args.slice.of.value c.args.slice.steps c.args.thread.stack c.accept.new.self c.requires.of c.args.thread.stands c.in-Ok.ensures.moves;
}
