use Rattle.hs_progress.specs.TypedStates.{has}
use Rattle.hs_progress.proofs.Stores.{numbers_grow, sort_more, cell_more, term_more, thread_more}
use Rattle.hs_progress.proofs.growth.later_stores_type_the_same.Goals as goal

pub returns-clause-numbers : goal.returns-clause-numbers
returns-clause-numbers a = numbers_grow

pub returns-clause-values : goal.returns-clause-values
returns-clause-values a old new g k v h = sort_more (has old) (has new) (numbers_grow old new g) k v h

pub returns-clause-contents : goal.returns-clause-contents
returns-clause-contents a old new g c t h = cell_more (has old) (has new) (numbers_grow old new g) c t h

pub returns-clause-terms : goal.returns-clause-terms
returns-clause-terms a ds old new g t h = term_more (has old) (has new) (numbers_grow old new g) ds h

pub returns-clause-threads : goal.returns-clause-threads
returns-clause-threads a ds old new g k th h = thread_more (has old) (has new) (numbers_grow old new g) ds k th h
