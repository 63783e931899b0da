use Rattle.std.proofs.Common.{◌≡◌, ◌≤◌, take}
use Rattle.rules_tokens.specs.Tokens.{number_of, greatest_number}
use Rattle.hs_lex.proofs.number.value.Given as goal

abbrev pub invariant-loop-c : goal.invariant-loop-c
invariant-loop-c l = (l.value ≡ number_of (take l.c-index l.digits)) × (l.value ≤ greatest_number)
