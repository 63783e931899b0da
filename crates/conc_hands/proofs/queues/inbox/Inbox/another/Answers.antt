use Rattle.conc_hands.proofs.queues_lemmas.Keeps.{may_split}
use Rattle.conc_hands.proofs.queues.inbox.Inbox.another.Goals as goal

pub another-pass-requires-clause-rule : goal.another-pass-requires-clause-rule
another-pass-requires-clause-rule g c = may_split g.S.Ticketed.number g.S.Ticketed.belongs _ _ c.requires.1
