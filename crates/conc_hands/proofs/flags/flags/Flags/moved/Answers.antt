use Rattle.std.proofs.Common.{rules}
use Rattle.conc_hands.proofs.flags_lemmas.Keeps.{may_move}
use Rattle.conc_hands.proofs.flags.flags.Flags.moved.Goals as goal

pub split_seat-seat-requires : goal.split_seat-seat-requires
split_seat-seat-requires c = (search rules, search rules, may_move _ _ _)
