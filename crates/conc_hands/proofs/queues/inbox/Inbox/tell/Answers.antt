use Rattle.std.proofs.Common.{sym, subst}
use Rattle.crossbeam_queue.specs.Fifo.{Forks}
use Rattle.conc_hands.specs.declared.queues.view.QueueView.{QueueView}
use Rattle.conc_hands.specs.queues.QueueRule.{IsRuled, told, spent}
use Rattle.conc_hands.proofs.queues_lemmas.Keeps.{may_tell}
use Rattle.conc_hands.proofs.queues.inbox.Inbox.tell.Goals as goal

pub another-spent-requires-clause-rule : goal.another-spent-requires-clause-rule
another-spent-requires-clause-rule g c = let s = g.C.CodeName.code in
    subst (λ (v : QueueView). Forks (IsRuled g.S.Ticketed.number g.S.Ticketed.belongs) c.args.pass.now.pass.id v (told s v) spent) (sym c.requires.fresh.1) (may_tell g.S.Ticketed.number g.S.Ticketed.belongs _ s)
