use Rattle.hs_lex.specs.Fronts.{NoneOf}
use Rattle.hs_lex.proofs.symbols.first_in.Given as goal

abbrev pub invariant-loop-number : goal.invariant-loop-number
invariant-loop-number l = NoneOf l.number l.table l.rest
