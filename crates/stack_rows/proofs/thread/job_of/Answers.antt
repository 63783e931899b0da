use Rattle.std.proofs.Common.{sym, ◌∙◌}
use Rattle.stack_rows.proofs.Starting.{goes_alone}
use Rattle.stack_rows.proofs.thread.job_of.Goals as goal

pub invariant_of-result : goal.invariant_of-result
invariant_of-result c = record {
  doing = ∣ tt ∣₁;
  may = goes_alone c.args.thread.now.of.value c.of.result.value c.mask.result c.args.thread.now.stack c.in-Doing.at c.in-Doing.env c.in_ok-copy.field-0
      (c.of.ensures ∙ c.deref.ensures ∙ sym c.requires.of) (sym c.control.ensures ∙ c.in-Doing.is) c.in_ok-copy.ensures c.args.thread.now.stands;
  some = c.requires.some;
  few = c.requires.few;
}
