use Rattle.conc_top.proofs.Searching.{within_limits}
use Rattle.conc_top.proofs.Playing.{shipped}
use Rattle.conc_top.proofs.listing.explored.Goals as goal

pub returns : goal.returns
returns c =
    let l = c.shipped.ensures in
    within_limits c.explore.result c.args.sought.now c.shipped.result (shipped c.shipped.result l.threads l.cells l.frames l.output) c.explore.ensures
