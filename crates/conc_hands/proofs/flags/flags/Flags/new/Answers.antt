use Rattle.conc_hands.proofs.flags_lemmas.Keeps.{opens}
use Rattle.conc_hands.proofs.flags.flags.Flags.new.Goals as goal

pub of_words-requires : goal.of_words-requires
of_words-requires c = opens _ c.requires
