use Rattle.std.proofs.Common.{[], ◌∷◌, ◌++◌, refl}
use Rattle.world_entries.proofs.Stranding.{next_below, next_stands, stranding_next, strand_makes}
use Rattle.world_entries.proofs.world.World.strand.Goals as goal

pub drop_waiter-requires-clause-exists : goal.drop_waiter-requires-clause-exists
drop_waiter-requires-clause-exists c =
    let ts = c.loop-t.invariant in
    let w = c.in-Some.ensures.some in
    next_below ts.0 c.args.self.now c.loop-t.self ts.1 c.in-Some.t w.0 c.requires.live c.in-Some.cell w.1

pub drop_waiter-requires-clause-stands : goal.drop_waiter-requires-clause-stands
drop_waiter-requires-clause-stands c =
    let ts = c.loop-t.invariant in
    let w = c.in-Some.ensures.some in
    next_stands ts.0 c.args.self.now c.loop-t.self ts.1 c.in-Some.t w.0 c.requires.live c.in-Some.cell w.1

pub loop-t-preserved : goal.loop-t-preserved
loop-t-preserved c =
    let ts = c.loop-t.invariant in
    let w = c.in-Some.ensures.some in (
      ts.0 ++ c.in-Some.t ∷ [],
      stranding_next ts.0 c.args.self.now c.loop-t.self ts.1 c.in-Some.t w.0 (record c.loop-t.self { threads = c.strand.new.self; cells = c.drop_waiter.new.self }) c.requires.live c.in-Some.cell w.1
          w.2 c.strand.ensures.flight c.strand.ensures.room c.drop_waiter.ensures.call refl (record { clock = refl; instances = refl; timeouts = refl; printed = refl }),
    )

pub returns : goal.returns
returns c =
    let ts = c.loop-t.invariant in
    let none = c.in_default.ensures.none in
    strand_makes ts.0 c.args.self.now c.loop-t.self ts.1 (record c.loop-t.self { threads = c.strand.new.self }) c.requires.goes c.requires.rest c.requires.awake c.requires.some
    none.0 none.1 c.strand.ensures.flight refl refl (record { clock = refl; instances = refl; timeouts = refl; printed = refl })
