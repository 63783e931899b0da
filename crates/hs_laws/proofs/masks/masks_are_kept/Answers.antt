use Rattle.hs_laws.proofs.Expanded.{received_of, masks_law}
use Rattle.hs_laws.proofs.masks.masks_are_kept.Goals as goal

pub returns-clause-could : goal.returns-clause-could
returns-clause-could c = received_of

pub returns-clause-kept : goal.returns-clause-kept
returns-clause-kept c = masks_law
