use Rattle.conc_hands.proofs.queues_lemmas.Keeps.{begins}
use Rattle.conc_hands.proofs.queues.deque.Deque.new.Goals as goal

pub fifo_as-requires : goal.fifo_as-requires
fifo_as-requires g c = begins g.J.Ticketed.number g.J.Ticketed.belongs
