use Rattle.std.proofs.Common.{◌≡◌, drop, map}
use Rattle.rules_grammar.specs.GrammarParts.{symbol}
use Rattle.hs_grammar.specs.Parser.{begins}
use Rattle.parse_leaves.proofs.cursor.Cursor.at_any_symbol.Given as goal

abbrev pub invariant-symbols : goal.invariant-symbols
invariant-symbols l = begins (map symbol l.symbols) l.self ≡ begins (map symbol (drop l.symbol-index l.symbols)) l.self
