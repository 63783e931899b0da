use Rattle.slot_states.proofs.Printing.{answers_thread, answers_masking, answers_clock, answers_timeout, answers_acquired, answers_release}
use Rattle.slot_states.proofs.operations.answers_are_entered.Goals as goal

pub returns-clause-my_thread : goal.returns-clause-my_thread
returns-clause-my_thread c = answers_thread

pub returns-clause-masking : goal.returns-clause-masking
returns-clause-masking c = answers_masking

pub returns-clause-clock : goal.returns-clause-clock
returns-clause-clock c = answers_clock

pub returns-clause-timeout : goal.returns-clause-timeout
returns-clause-timeout c = answers_timeout

pub returns-clause-acquired : goal.returns-clause-acquired
returns-clause-acquired c = answers_acquired

pub returns-clause-release : goal.returns-clause-release
returns-clause-release c = answers_release
