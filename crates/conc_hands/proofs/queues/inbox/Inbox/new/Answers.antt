use Rattle.conc_hands.proofs.queues_lemmas.Keeps.{begins}
use Rattle.conc_hands.proofs.queues.inbox.Inbox.new.Goals as goal

pub with_rule-requires : goal.with_rule-requires
with_rule-requires g c = begins g.S.Ticketed.number g.S.Ticketed.belongs
