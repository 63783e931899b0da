-- One throw more is moved, or is over.
use Rattle.std.proofs.Common.{◌+◌, ◌<◌, ◌∙◌, ◌++◌, ◌∷◌, [], length, None, sym, ap, subst, refl, arith}
use Rattle.std.proofs.lemmas.List.{get_or_read}
use Rattle.rules_waiting.specs.Waiting.{is_throwing}
use Rattle.exn_flight.specs.declared.throws.Throw.{Throw}
use Rattle.exn_flight.specs.declared.throws.Throws.{Throws}
use Rattle.exn_flight.specs.Throwing.{throw_at, no_throw, flying, spare_of, Refills}
use Rattle.exn_flight.proofs.Refilling.{refill_begun, refill_alone, refill_spare, refill_some, refill_none}
use Rattle.exn_flight.proofs.throws.Throws.refill.Goals as goal
use Rattle.exn_flight.proofs.throws.Throws.refill.Goals.{in-Some, in_default}

pub loop-place-init : goal.loop-place-init
loop-place-init c = refill_begun c.args.list.items (spare_of c.args.self.now) c.args.self.now c.requires.empty refl

pub add-requires-clause-spare : goal.add-requires-clause-spare
add-requires-clause-spare c =
    let ts = c.args.list.items in
    let lt : c.loop-place.place < length ts = omega (arith, c.loop-place-test.true, c.len-place-end.ensures, c.args.list.ok.0) in
    refill_spare ts c.loop-place.list.items (spare_of c.args.self.now) c.loop-place.place c.loop-place.self c.in-Some.exn c.loop-place.invariant lt (sym c.take_exn.ensures.exn ∙ c.in-Some.is) c.requires.spare

pub add-requires-clause-alone : goal.add-requires-clause-alone
add-requires-clause-alone c =
    let ts = c.args.list.items in
    let us = c.loop-place.list.items in
    let i = c.loop-place.place in
    let lt : i < length ts = omega (arith, c.loop-place-test.true, c.len-place-end.ensures, c.args.list.ok.0) in
    let at = get_or_read us i c.index-throw.result.now (omega (arith, lt, c.loop-place.invariant.size)) c.index-throw.ensures no_throw in
    ap (λ (t : Throw). is_throwing t.thrower (flying c.loop-place.self.list.items)) at
    ∙ refill_alone ts us (spare_of c.args.self.now) i c.loop-place.self c.in-Some.exn c.loop-place.invariant lt (sym c.take_exn.ensures.exn ∙ c.in-Some.is) c.requires.alone

pub loop-place-preserved : goal.loop-place-preserved
loop-place-preserved c =
    let ts = c.args.list.items in
    let us = c.loop-place.list.items in
    let vs = c.take_exn.new.list.items in
    let n = spare_of c.args.self.now in
    let a = c.loop-place.self in
    let i = c.loop-place.place in
    let y : Throw = record (throw_at us i) { exn = None } in
    let lt : i < length ts = omega (arith, c.loop-place-test.true, c.len-place-end.ensures, c.args.list.ok.0) in
    let at = get_or_read us i c.index-throw.result.now (omega (arith, lt, c.loop-place.invariant.size)) c.index-throw.ensures no_throw in
    elim c.match-take_exn.branch [
      | in-Some w ↦ subst (λ (b : Throws). Refills ts vs n b (i + 1)) (sym w.self-is) (refill_some ts us vs n i a w.add.new.self y w.in-Some.exn c.loop-place.invariant lt (sym c.take_exn.ensures.exn ∙ w.in-Some.is) c.take_exn.ensures.list w.add.ensures.sound
          (w.add.ensures.list ∙ ap (λ (t : Throw). flying a.list.items ++ record { thrower = t.thrower; target = t.target; exn = w.in-Some.exn } ∷ []) at) w.add.ensures.spare)
      | in_default w ↦ subst (λ (b : Throws). Refills ts vs n b (i + 1)) (sym w.self-is) (refill_none ts us vs n i a y c.loop-place.invariant lt (sym c.take_exn.ensures.exn ∙ w.in_default.is) c.take_exn.ensures.list)
    ]
