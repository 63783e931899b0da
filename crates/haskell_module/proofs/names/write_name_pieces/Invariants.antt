use Rattle.std.proofs.Common.{◌≡◌, ◌++◌, drop, string_bytes}
use Rattle.std.specs.List.{flat_map}
use Rattle.haskell_module.specs.Names.{name_piece}
use Rattle.haskell_module.proofs.names.write_name_pieces.Given as goal

abbrev pub invariant-loop-byte : goal.invariant-loop-byte
invariant-loop-byte l = string_bytes l.text ++ flat_map name_piece (drop l.byte-index l.bytes) ≡ string_bytes l.fn.text ++ flat_map name_piece l.bytes
