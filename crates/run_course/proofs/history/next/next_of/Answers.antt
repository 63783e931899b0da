use Rattle.std.proofs.Common.{sym, ap}
use Rattle.exn_flight.specs.Flights.{InFlight}
use Rattle.run_course.proofs.history_lemmas.Resting.{none_waits_open, with_threads, same_state, goes_alike, goes_unlisted, rest_alike, nobody_acts, some_goes, at_rest}
use Rattle.run_course.proofs.history.next.next_of.Goals as goal
use Rattle.hs_laws.proofs.Later.{none_earliest}

pub returns-then-some_goes-clause-next : goal.returns-then-some_goes-clause-next
returns-then-some_goes-clause-next c =
    let w = c.args.world.now in
    let now = with_threads w c.next.new.self in
    let s = c.if-some_goes.ensures in (
      goes_alike w c.next.new.self c.next.ensures.list c.requires.goes,
      λ b. nobody_acts now c.in_default.ensures.none b (sym c.in_default-due.ensures),
      some_goes now s.0 s.1.thread s.1.is s.1.holds.0 s.1.holds.1 s.1.holds.2,
    )

pub returns-in-Some-first_due-clause-next : goal.returns-in-Some-first_due-clause-next
returns-in-Some-first_due-clause-next c =
    let w = c.args.world.now in (
      goes_alike w c.next.new.self c.next.ensures.list c.requires.goes,
      at_rest (with_threads w c.next.new.self) c.in_default.ensures.none (sym c.in_default-due.ensures) c.if-some_goes.ensures,
      sym c.in-Some-first_due.ensures,
    )

pub returns-then-may_strand-clause-next : goal.returns-then-may_strand-clause-next
returns-then-may_strand-clause-next c =
    let w = c.args.world.now in
    let before = with_threads w c.next.new.self in
    let now = with_threads w c.may_strand.new.self in
    let same = same_state before c.may_strand.new.self c.may_strand.ensures.slots (ap (λ (f : InFlight). f.list) c.may_strand.ensures.flight) in (
      goes_unlisted before c.may_strand.new.self c.may_strand.ensures.others (goes_alike w c.next.new.self c.next.ensures.list c.requires.goes),
      (
        rest_alike before now same (at_rest before c.in_default.ensures.none (sym c.in_default-due.ensures) c.if-some_goes.ensures),
        none_earliest w.sleepers.list (sym c.in_default-first_due.ensures),
        c.if-may_strand.ensures.found,
      ),
    )

pub returns-clause-next : goal.returns-clause-next
returns-clause-next c =
    let w = c.args.world.now in
    let before = with_threads w c.next.new.self in
    let now = with_threads w c.may_strand.new.self in
    let same = same_state before c.may_strand.new.self c.may_strand.ensures.slots (ap (λ (f : InFlight). f.list) c.may_strand.ensures.flight) in (
      goes_unlisted before c.may_strand.new.self c.may_strand.ensures.others (goes_alike w c.next.new.self c.next.ensures.list c.requires.goes),
      rest_alike before now same (at_rest before c.in_default.ensures.none (sym c.in_default-due.ensures) c.if-some_goes.ensures),
      none_earliest w.sleepers.list (sym c.in_default-first_due.ensures),
      λ b. none_waits_open b now c.if-may_strand.ensures.found,
    )
