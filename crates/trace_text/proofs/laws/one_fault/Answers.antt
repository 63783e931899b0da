use Rattle.trace_text.proofs.Faults.{faults_come_later, one_fault, traces_are_faultless}
use Rattle.trace_text.proofs.laws.one_fault.Goals as goal

pub returns-clause-later : goal.returns-clause-later
returns-clause-later c = faults_come_later

pub returns-clause-one : goal.returns-clause-one
returns-clause-one c = one_fault

pub returns-clause-none : goal.returns-clause-none
returns-clause-none c = traces_are_faultless
