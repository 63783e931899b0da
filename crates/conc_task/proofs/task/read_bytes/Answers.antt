use Rattle.conc_task.proofs.Reading.{took_few}
use Rattle.conc_task.proofs.task.read_bytes.Goals as goal

pub returns-in-Fault-clause-read : goal.returns-in-Fault-clause-read
returns-in-Fault-clause-read g c = (c.in-Fault.ensures.0, took_few _ _ _ c.in-Fault.ensures.2 c.in-Fault.ensures.3)

pub returns-in-NoMemory-clause-read : goal.returns-in-NoMemory-clause-read
returns-in-NoMemory-clause-read g c = took_few _ _ _ c.in-NoMemory.ensures.1 c.in-NoMemory.ensures.2
