use Rattle.conc_hands.proofs.queues_lemmas.Keeps.{may_put_one}
use Rattle.conc_hands.proofs.queues.inbox.Inbox.put.Goals as goal

pub push_as-requires-clause-rule : goal.push_as-requires-clause-rule
push_as-requires-clause-rule g c = let h = c.requires.pass in let mine = c.requires.slice in λ n. may_put_one g.S.Ticketed.number g.S.Ticketed.belongs n _ _ _ h.1 mine
