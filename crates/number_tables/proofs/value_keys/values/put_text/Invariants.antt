use Rattle.std.proofs.Common.{◌≡◌, ◌++◌, drop}
use Rattle.number_tables.specs.value_keys.Keys.{text_key}
use Rattle.number_tables.proofs.value_keys.values.put_text.Given as goal

-- what was put, and the key of the bytes that are left, are the key of all
abbrev pub invariant-loop-byte : goal.invariant-loop-byte
invariant-loop-byte l = l.out.items ++ text_key (drop l.byte-index l.byte-items) ≡ l.fn.out.items ++ text_key l.fn.text
