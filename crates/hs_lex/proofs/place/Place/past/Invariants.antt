use Rattle.std.proofs.Common.{◌≡◌, ◌+◌}
use Rattle.hs_lex.specs.Fronts.{IsPlace}
use Rattle.hs_lex.proofs.place.Place.past.Given as goal

abbrev pub invariant-loop : goal.invariant-loop
invariant-loop l = IsPlace l.chars l.place × (l.place.at ≡ l.fn.self.at + l.counter)
