use Rattle.std.proofs.Common.{◌≡◌, ◌++◌, drop}
use Rattle.rules_meaning.specs.Values.{values_of}
use Rattle.number_tables.specs.value_keys.Keys.{values_key}
use Rattle.term_graph.proofs.tables.keys.put_values.Given as goal

-- what was put, and the key of the values that are left, are the key of all
abbrev pub invariant-loop-value : goal.invariant-loop-value
invariant-loop-value l = l.out.items ++ values_key (values_of (drop l.value-index l.values)) ≡ l.fn.out.items ++ values_key (values_of l.fn.values)
