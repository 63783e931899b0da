use Rattle.std.proofs.Common.{sym, subst}
use Rattle.crossbeam_deque.specs.Handles.{worker_port}
use Rattle.crossbeam_deque.specs.Tasks.{Forks}
use Rattle.conc_hands.specs.declared.queues.view.QueueView.{QueueView}
use Rattle.conc_hands.specs.queues.QueueRule.{IsRuled, told, spent}
use Rattle.conc_hands.proofs.queues_lemmas.Keeps.{may_tell}
use Rattle.conc_hands.proofs.queues.deque_calls.told.Goals as goal

pub another-spent-requires : goal.another-spent-requires
another-spent-requires g c = let s = g.C.CodeName.code in
    subst (λ (v : QueueView). Forks (IsRuled g.J.Ticketed.number g.J.Ticketed.belongs) (worker_port c.args.worker) v (told s v) spent) (sym c.requires.fresh.0) (may_tell g.J.Ticketed.number g.J.Ticketed.belongs _ s)
