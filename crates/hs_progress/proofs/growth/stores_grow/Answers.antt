use Rattle.hs_progress.proofs.Stores.{cell_grows, thread_grows, others_keep_sorts}
use Rattle.hs_progress.proofs.growth.stores_grow.Goals as goal

pub returns-clause-cell : goal.returns-clause-cell
returns-clause-cell a = cell_grows

pub returns-clause-thread : goal.returns-clause-thread
returns-clause-thread a = thread_grows

pub returns-clause-sorts : goal.returns-clause-sorts
returns-clause-sorts a = others_keep_sorts
