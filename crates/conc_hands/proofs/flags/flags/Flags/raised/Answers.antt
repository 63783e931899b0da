use Rattle.std.proofs.Common.{rules}
use Rattle.conc_hands.proofs.flags_lemmas.Keeps.{may_read}
use Rattle.conc_hands.proofs.flags.flags.Flags.raised.Goals as goal

pub load-requires : goal.load-requires
load-requires c = (search rules, search rules, may_read _ _ _ _ _ c.requires.1 (search rules))
