use Rattle.std.proofs.Common.{Some}
use Rattle.conc_hands.proofs.queues.deque.Deque.new.Given as goal

abbrev pub ghosts-told : goal.ghosts-told
ghosts-told g a = record { code = Some a.code.now }
