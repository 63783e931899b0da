use Rattle.std.proofs.Common.{rules}
use Rattle.conc_hands.proofs.flags_lemmas.Keeps.{may_raise}
use Rattle.conc_hands.proofs.flags.flags.Flags.raise.Goals as goal

pub store-requires : goal.store-requires
store-requires c = (search rules, search rules, may_raise _ _ _ _ _ _ c.requires.1 (search rules) (search rules))
