use Rattle.std.proofs.Common.{◌∙◌}
use Rattle.stack_rows.proofs.Starting.{starts, starts_in_scope}
use Rattle.stack_rows.proofs.thread.main_thread.Goals as goal
use Rattle.stack_rows.proofs.thread.main_thread.Goals.{in-None, in-Some+in_ok-stack-in-Some}

pub invariant_of-result : goal.invariant_of-result
invariant_of-result c = record {
  stands = elim c.match-mask.branch [
    | in-None w ↦ starts _ c.of.result.value c.main.result c.new.result c.match-mask.stack (c.of.ensures ∙ c.deref.ensures) c.main.ensures c.new.ensures (w.stack-is ∙ w.first-stack.ensures)
    | in-Some+in_ok-stack-in-Some w ↦ starts_in_scope _ c.of.result.value w.in-Some.mask c.main.result c.new.result c.match-mask.stack (c.of.ensures ∙ c.deref.ensures) c.main.ensures c.new.ensures
        (w.stack-is ∙ w.in_ok-stack-in-Some.ensures)
  ];
}
