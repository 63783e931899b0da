use Rattle.number_states.proofs.waits_lemmas.Exact.{exact_cell, exact_cells, exact_flight, exact_sleepers}
use Rattle.number_states.proofs.waits.laws.keys_are_exact.Goals as goal

-- src/laws.rt
pub returns-clause-cell : goal.returns-clause-cell
returns-clause-cell c = exact_cell

pub returns-clause-cells : goal.returns-clause-cells
returns-clause-cells c = exact_cells

pub returns-clause-flight : goal.returns-clause-flight
returns-clause-flight c = exact_flight

pub returns-clause-sleepers : goal.returns-clause-sleepers
returns-clause-sleepers c = exact_sleepers
