use Rattle.std.proofs.Common.{length, ◌-◌}
use Rattle.hs_lex.proofs.Bodies.{IsBodyTo}
use Rattle.hs_lex.proofs.literal.body_len.Given as goal

abbrev pub invariant-parts : goal.invariant-parts
invariant-parts l = IsBodyTo l.inside l.at

abbrev pub decreases-parts : goal.decreases-parts
decreases-parts l = length l.inside - l.at
