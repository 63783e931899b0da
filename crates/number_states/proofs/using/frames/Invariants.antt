use Rattle.std.proofs.Common.{◌≡◌, ◌+◌, drop, map}
use Rattle.rules_code.specs.declared.code.CodeBody.{CodeBody}
use Rattle.slot_states.specs.Resting.{frames_in}
use Rattle.number_states.specs.States.{thread_of}
use Rattle.number_states.proofs.using.frames.Given as goal

-- the sum, and the frames of the threads that are left, are those of all
abbrev pub invariant-loop-thread : goal.invariant-loop-thread
invariant-loop-thread l = (b : CodeBody) → l.sum + frames_in (map (thread_of l.numbers b) (drop l.thread-index l.threads)) ≡ frames_in (map (thread_of l.numbers b) l.threads)
