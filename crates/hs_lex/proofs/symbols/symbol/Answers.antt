use Rattle.hs_lex.proofs.Pieces.{symbol_front, bad_front}
use Rattle.hs_lex.proofs.symbols.symbol.Goals as goal

pub returns-in-Some : goal.returns-in-Some
returns-in-Some c =
    let found = c.in-Some.ensures.place in
    symbol_front c.args.rest.now c.in-Some.len c.in-Some.number found.0 found.1 c.requires.code found.2 found.3 found.4

pub returns-in-None : goal.returns-in-None
returns-in-None c = bad_front c.args.rest.now c.requires.begins c.in-None.ensures.place
