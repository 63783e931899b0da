use Rattle.std.proofs.Common.{rules}
use Rattle.conc_hands.proofs.flags_lemmas.Keeps.{may_join}
use Rattle.conc_hands.proofs.flags.flags.Flags.absorb.Goals as goal

pub join_seat-requires : goal.join_seat-requires
join_seat-requires c = (search rules, search rules, search rules, search rules, may_join _ _ _ _ _ c.requires.0.1)
