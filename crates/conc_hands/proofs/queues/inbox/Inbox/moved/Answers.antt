use Rattle.conc_hands.proofs.queues_lemmas.Keeps.{may_move}
use Rattle.conc_hands.proofs.queues.inbox.Inbox.moved.Goals as goal

pub another-pass-requires-clause-rule : goal.another-pass-requires-clause-rule
another-pass-requires-clause-rule g c = may_move g.S.Ticketed.number g.S.Ticketed.belongs _ _
