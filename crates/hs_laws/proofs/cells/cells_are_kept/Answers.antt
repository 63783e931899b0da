use Rattle.hs_laws.proofs.Expanded.{cells_law}
use Rattle.hs_laws.proofs.cells.cells_are_kept.Goals as goal

pub returns : goal.returns
returns c = cells_law
