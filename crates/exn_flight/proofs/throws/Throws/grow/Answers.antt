-- So many throws have numbers that the sum fits.
use Rattle.std.proofs.Common.{arith, sym, subst, nat_eq}
use Rattle.std.specs.HashMap.{get}
use Rattle.exn_flight.specs.declared.throws.Throws.{Throws}
use Rattle.exn_flight.specs.Flights.{AreThrowers}
use Rattle.exn_flight.specs.Throwing.{flying}
use Rattle.exn_flight.proofs.Flying.{flying_length, flying_once, once_at}
use Rattle.exn_flight.proofs.throws.Throws.grow.Goals as goal

pub overflow_add-live : goal.overflow_add-live
overflow_add-live c =
    let list = c.args.self.now.list in
    omega (arith, flying_length list.items, list.ok.0, list.ok.1, list.small, c.live-live.ensures, c.clamp.ensures, c.ranges.n.fits)

pub refill-requires-clause-alone : goal.refill-requires-clause-alone
refill-requires-clause-alone c =
    let ts = c.args.self.now.list.items in
    subst (λ (a : Throws). AreThrowers (flying a.list.items)) (sym c.replace-old.ensures.value) (flying_once ts (once_at ts (get nat_eq c.args.self.now.throwers) c.requires.sound.at))
