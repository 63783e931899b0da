use Rattle.std.proofs.Common.{drop}
use Rattle.slot_states.specs.SlotStates.{strands}
use Rattle.number_changes.proofs.Turns.{AreLeft}
use Rattle.number_moves.proofs.stranding.strand_all.Given as goal

abbrev pub invariant-loop-thread : goal.invariant-loop-thread
invariant-loop-thread l = AreLeft (λ ts b. strands ts) l.threads (drop l.thread-index l.threads) l.fn.numbers l.fn.state l.numbers l.state
