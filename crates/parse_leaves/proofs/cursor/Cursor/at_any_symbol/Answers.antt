use Rattle.std.proofs.Common.{rules, arith}
use Rattle.rules_grammar.specs.GrammarParts.{symbol}
use Rattle.parse_leaves.proofs.Looks.{any_found, any_next, any_none}
use Rattle.parse_leaves.proofs.cursor.Cursor.at_any_symbol.Goals as goal

pub returns-then-at_symbol : goal.returns-then-at_symbol
returns-then-at_symbol c = any_found symbol c.args.symbols.now c.symbols.symbol-index 0 _ _ c.symbols.invariant (omega arith) c.at_symbol.ensures (search rules)

pub symbols-preserved : goal.symbols-preserved
symbols-preserved c = any_next symbol c.args.symbols.now c.symbols.symbol-index 0 _ _ c.symbols.invariant (omega arith) c.at_symbol.ensures (search rules)

pub returns : goal.returns
returns c = any_none symbol c.args.symbols.now c.symbols.symbol-index _ c.symbols.invariant (omega arith)
