use Rattle.std.proofs.Common.{◌≡◌, ℕ}
use Rattle.conc_hands.proofs.Leftovers.{slice_taken}
use Rattle.conc_hands.proofs.left.SlicesLeft.next.Goals as goal

pub returns : goal.returns
returns g c = slice_taken g.S.Ticketed.number c.take.result _ _ _ _ (c.take.ensures.alone c.args.self.now.whole) c.take.ensures.slice
