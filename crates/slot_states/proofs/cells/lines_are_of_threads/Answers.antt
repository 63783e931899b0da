use Rattle.slot_states.proofs.CellThreads.{line_is_of_threads, thread_is_in_line}
use Rattle.slot_states.proofs.cells.lines_are_of_threads.Goals as goal

pub returns-clause-line : goal.returns-clause-line
returns-clause-line c = line_is_of_threads

pub returns-clause-thread : goal.returns-clause-thread
returns-clause-thread c = thread_is_in_line
