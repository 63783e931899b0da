use Rattle.std.proofs.Common.{◌≡◌, ◌++◌, drop}
use Rattle.rules_meaning.specs.Values.{values_of}
use Rattle.number_tables.specs.value_keys.Keys.{values_key}
use Rattle.term_graph.specs.tables.Keys.{action_key}
use Rattle.term_graph.proofs.tables.keys.put_action.Given as goal

-- what was put, and the key of the values that are left, are the key of all
abbrev pub invariant-loop-slot : goal.invariant-loop-slot
invariant-loop-slot l = l.out.items ++ values_key (values_of (drop l.slot l.env)) ≡ l.fn.out.items ++ action_key l.fn.at l.fn.env
