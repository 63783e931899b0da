use Rattle.conc_hands.proofs.queues_lemmas.Keeps.{may_take_one, learns_empty, one_told, one_taken, none_alone}
use Rattle.conc_hands.proofs.queues.inbox.Inbox.take.Goals as goal

pub pop_as-requires-clause-rule : goal.pop_as-requires-clause-rule
pop_as-requires-clause-rule g c = (may_take_one g.S.Ticketed.number g.S.Ticketed.belongs _ _ c.requires.1, learns_empty g.S.Ticketed.number g.S.Ticketed.belongs _ _)

pub returns-clause-slice : goal.returns-clause-slice
returns-clause-slice g c = one_taken g.S.Ticketed.number g.S.Ticketed.belongs c.pop_as.result _ _ (one_told g.S.Ticketed.number g.S.Ticketed.belongs c.pop_as.result _ _ _ c.pop_as.ensures.rule)

pub returns-clause-alone : goal.returns-clause-alone
returns-clause-alone g c = none_alone g.S.Ticketed.number g.S.Ticketed.belongs c.pop_as.result _ _ (one_told g.S.Ticketed.number g.S.Ticketed.belongs c.pop_as.result _ _ _ c.pop_as.ensures.rule)
