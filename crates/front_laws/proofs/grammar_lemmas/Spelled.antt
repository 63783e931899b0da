-- Each constant is the place of its text: the tables are computed.
use Rattle.std.proofs.Common.{refl}
use Rattle.front_laws.specs.grammar.Spelling.{AreSpelled}

pub all_spelled : AreSpelled
all_spelled = record {
  all_words = record { each = refl; no_other = refl };
  all_symbols = record { each = refl; no_other = refl };
}
