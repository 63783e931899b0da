use Rattle.slot_states.proofs.Printing.{prints_text, prints_line, prints_error_line}
use Rattle.slot_states.proofs.operations.prints_are_entered.Goals as goal

pub returns-clause-text : goal.returns-clause-text
returns-clause-text c = prints_text

pub returns-clause-line : goal.returns-clause-line
returns-clause-line c = prints_line

pub returns-clause-error_line : goal.returns-clause-error_line
returns-clause-error_line c = prints_error_line
