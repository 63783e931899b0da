use Rattle.std.proofs.Common.{length, ◌-◌}
use Rattle.hs_lex.specs.Fronts.{IsPlace}
use Rattle.hs_lex.proofs.Streams.{IsReadTo}
use Rattle.hs_lex.proofs.lexer.text_tokens.Given as goal

abbrev pub invariant-pieces : goal.invariant-pieces
invariant-pieces l = IsPlace l.chars l.place × IsReadTo l.chars l.place.at l.list

abbrev pub decreases-pieces : goal.decreases-pieces
decreases-pieces l = length l.chars - l.place.at
