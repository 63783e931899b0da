use Rattle.std.proofs.Common.{◌≡◌, ◌++◌, ◌≤◌}
use Rattle.hs_base.specs.declared.value.ValueList.{size-ValueList}
use Rattle.rules_meaning.specs.Values.{list_value_of}
use Rattle.number_tables.specs.value_keys.Keys.{value_key}
use Rattle.number_tables.proofs.value_keys.values.+keys.Given as goal

-- what was put, and the key of what is left of the list, which is no deeper, are the key of all
abbrev pub invariant-put_list-loop-list : goal.invariant-put_list-loop-list
invariant-put_list-loop-list l = record {
  put : l.out.items ++ value_key (list_value_of l.list) ≡ l.fn.out.items ++ value_key (list_value_of l.fn.list);
  no_deeper : size-ValueList l.list ≤ size-ValueList l.initial.list;
}
