use Rattle.conc_hands.proofs.queues_lemmas.Keeps.{may_join}
use Rattle.conc_hands.proofs.queues.inbox.Inbox.absorb.Goals as goal

pub absorb-requires-clause-rule : goal.absorb-requires-clause-rule
absorb-requires-clause-rule g c = may_join g.S.Ticketed.number g.S.Ticketed.belongs _ _ _ _ c.requires.2
