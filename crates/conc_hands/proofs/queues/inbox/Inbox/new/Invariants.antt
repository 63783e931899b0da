use Rattle.std.proofs.Common.{Some}
use Rattle.conc_hands.proofs.queues.inbox.Inbox.new.Given as goal

abbrev pub ghosts-tell : goal.ghosts-tell
ghosts-tell g a = record { code = Some a.code.now }
