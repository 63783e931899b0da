use Rattle.std.proofs.Common.{◌<◌, sym, subst}
use Rattle.conc_hands.specs.declared.queues.view.QueueView.{QueueView}
use Rattle.conc_hands.proofs.queues_lemmas.Keeps.{may_take}
use Rattle.conc_hands.proofs.queues.deque.Door.steal.Goals as goal

pub steal_as-requires-clause-takes : goal.steal_as-requires-clause-takes
steal_as-requires-clause-takes g c = may_take g.J.Ticketed.number g.J.Ticketed.belongs _ _ (subst (λ (v : QueueView). 0 < v.shares) (sym c.loop.invariant.1) c.requires.1)
