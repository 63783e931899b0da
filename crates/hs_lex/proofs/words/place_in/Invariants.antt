use Rattle.std.proofs.Common.{ℕ, ◌<◌}
use Rattle.hs_lex.specs.Fronts.{IsRow}
use Rattle.hs_lex.proofs.words.place_in.Given as goal

abbrev pub invariant-loop-number : goal.invariant-loop-number
invariant-loop-number l = (n : ℕ) → n < l.number → ¬ IsRow l.table n l.text
