use Rattle.std.proofs.Common.{length, ◌-◌, List, ℕ, ◌≡◌}
use Rattle.std.specs.String.{string_bytes}
use Rattle.std.specs.Str.{encode_utf8_all}
use Rattle.hs_lex.proofs.Bodies.{IsMeantTo}
use Rattle.hs_lex.proofs.literal.read_body.Given as goal

abbrev pub invariant-parts : goal.invariant-parts
invariant-parts l = (meant : List ℕ) × IsMeantTo l.body l.at meant × (string_bytes l.text ≡ encode_utf8_all meant)

abbrev pub decreases-parts : goal.decreases-parts
decreases-parts l = length l.body - l.at
