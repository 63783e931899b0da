use Rattle.slot_laws.specs.Standing.{cells_of}
use Rattle.frame_stack.proofs.Terms.{same_masks, as_many, same_value, same_exception, same_primitive}
use Rattle.frame_stack.proofs.laws.stacks_are_terms.Goals as goal

pub returns-clause-masks : goal.returns-clause-masks
returns-clause-masks c store ds k b fs gs h = same_masks (cells_of store) ds b fs h

pub returns-clause-frames : goal.returns-clause-frames
returns-clause-frames c store ds k b fs gs h = as_many (cells_of store) ds b fs h

pub returns-clause-values : goal.returns-clause-values
returns-clause-values c store ds k v x h = same_value (cells_of store) ds h

pub returns-clause-exceptions : goal.returns-clause-exceptions
returns-clause-exceptions c store ds k e x h = same_exception (cells_of store) ds h

pub returns-clause-primitives : goal.returns-clause-primitives
returns-clause-primitives c store ds k p vs x h = same_primitive (cells_of store) ds h
