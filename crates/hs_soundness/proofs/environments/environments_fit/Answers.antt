use Rattle.rules_sorts.specs.TypedMeaning.{any_cell}
use Rattle.hs_soundness.proofs.Growing.{fits_none, fits_with}
use Rattle.hs_soundness.proofs.environments.environments_fit.Goals as goal

pub returns-clause-none : goal.returns-clause-none
returns-clause-none a = fits_none any_cell

pub returns-clause-more : goal.returns-clause-more
returns-clause-more a = fits_with any_cell
