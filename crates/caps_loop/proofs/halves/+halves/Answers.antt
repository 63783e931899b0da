use Rattle.std.proofs.Common.{rules, ◌/◌, ◌∙◌, sym, subst, arith}
use mathlib.Core.List.{IsPrefix}
use Rattle.conc_turn.specs.Seats.{IsLater, seen_by}
use Rattle.conc_turn.specs.Turns.{turn_plan, turn_table}
use Rattle.conc_turn.proofs.Later.{later_seat}
use Rattle.conc_turn.proofs.Prefixes.{prefix_trans}
use Rattle.caps_loop.proofs.Cuts.{cut_counts, cut_last}
use Rattle.caps_loop.proofs.halves.+halves.Goals as goal

pub run_one-requires-clause-list : goal.run_one-requires-clause-list
run_one-requires-clause-list g t c = c.cut_list-list.ensures.first c.args.hands.now c.requires.list

pub join-a-requires-after_bounds : goal.join-a-requires-after_bounds
join-a-requires-after_bounds g t c κs within =
    let first = c.split-my_seat.ensures.first in
    let second = c.split-my_seat.ensures.second in
    let counts = cut_counts c.cut_list-list.result.0 c.args.list (c.args.count / 2) c.cut_list-list.result.1 c.in-Some.their_list c.in-Some.is c.cut_list-list.ensures.counts in
    let last = cut_last c.args.list c.cut_list-list.result.1 c.in-Some.their_list c.in-Some.is c.cut_list-list.ensures.last in
    let few = c.requires.count in (
      (search rules, ((λ a m. m), ((λ a m. m), ((λ a m. m), ((λ a m. m), ((λ a m. m), ((search rules, search rules, search rules, search rules, search rules, record { seated = first.0; some = omega (arith, few.0); shared = omega (arith, few.1, first.1); handed = omega (arith, counts.1, few.2); own = c.cut_list-list.ensures.first c.args.hands.now c.requires.list; planned = c.requires.code.0; coded = c.requires.code.1; berthed = c.requires.parkers }), (search rules, search rules, search rules, search rules, search rules)))))))),
      (search rules, ((λ a m. m), ((λ a m. m), ((λ a m. m), ((λ a m. m), ((λ a m. m), ((search rules, search rules, search rules, search rules, search rules, record { seated = second.0; some = counts.0; shared = omega (arith, second.1); handed = counts.2; own = last c.args.hands.now c.requires.list; planned = c.requires.code.0; coded = c.requires.code.1; berthed = c.requires.parkers }), (search rules, search rules, search rules, search rules, search rules)))))))),
    )

pub join-requires : goal.join-requires
join-requires g t c =
    let table = turn_table c.args.turn.now in
    let plan = turn_plan g.D.Kept.plan c.args.turn.now in
    let both = c.split-my_seat.result in (
      later_seat table plan both.0 c.join-a.result.0 c.join-a.ensures.first c.split-my_seat.ensures.first.0,
      later_seat table plan both.1 c.join-a.result.1 c.join-a.ensures.second c.split-my_seat.ensures.second.0,
    )

pub returns : goal.returns
returns g t c =
    let a = c.join-a.result.0 in
    let left : IsLater c.split-my_seat.result.0 a = c.join-a.ensures.first in
    let right : IsLater c.split-my_seat.result.1 c.join-a.result.1 = c.join-a.ensures.second in
    let split = c.split-my_seat.ensures in
    let whole = c.join.ensures in (
      whole.seat.0 ∙ sym c.requires.seat.0,
      whole.seat.1 ∙ sym c.requires.seat.1,
      omega (arith, whole.sums.0, left.2, right.2, split.first.1, split.second.1),
      prefix_trans (seen_by c.args.seat) (seen_by a) (seen_by c.join.result) (subst (λ s. IsPrefix s (seen_by a)) split.seen.0 left.3) whole.begins.0,
    )
