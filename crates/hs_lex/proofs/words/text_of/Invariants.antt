use Rattle.std.proofs.Common.{◌≡◌, length, take}
use Rattle.std.specs.Str.{encode_utf8_all}
use Rattle.hs_lex.proofs.words.text_of.Given as goal

abbrev pub invariant-loop-c : goal.invariant-loop-c
invariant-loop-c l = l.len ≡ length (encode_utf8_all (take l.c-index l.chars))
