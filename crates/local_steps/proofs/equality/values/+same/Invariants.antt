use Rattle.std.proofs.Common.{◌≡◌, ◌↔◌, ◌≤◌}
use Rattle.hs_base.specs.declared.value.ValueList.{size-ValueList}
use Rattle.local_steps.specs.equality.Efforts.{IsEndless}
use Rattle.local_steps.proofs.equality.values.+same.Given as goal

-- the lists are equal exactly where what is left of them is, which is no deeper
abbrev pub invariant-compare_lists-loop-a : goal.invariant-compare_lists-loop-a
invariant-compare_lists-loop-a l = record {
  same : (l.fn.a ≡ l.fn.b) ↔ (l.a ≡ l.b);
  no_deeper : size-ValueList l.a ≤ size-ValueList l.initial.a;
  endless : IsEndless l.fn.effort → IsEndless l.effort;
}
